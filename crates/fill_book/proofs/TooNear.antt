-- The places near a rectangle are those whose box, grown by the distance, meets it.
use Rattle.std.proofs.Common.{◌≡◌, refl, ℤ, pos, ◌+ℤ◌, ◌-ℤ◌, ◌≤ℤ◌, ◌<ℤ◌, arith, inl, inr, ◌⊎◌, true, ◌&&◌, not}
use Rattle.std.specs.Prelude.{int_lt}
use Rattle.std.proofs.lemmas.Bool.{and_from, and_parts, cases_Bool}
use Rattle.std.proofs.lemmas.Int.{ints}
use Rattle.fill_base.specs.Counts.{is_between}
use Rattle.fill_base.specs.Limits.{IsLength}
use Rattle.fill_base.specs.Squares.{squares}
use Rattle.fill_base.specs.declared.rect.Rect.{Rect}
use Rattle.fill_base.proofs.Between.{is_between_true, is_between_bounds}
use Rattle.fill_raster.specs.Axes.{box_begin, box_end, is_on, is_on_within}
use Rattle.fill_raster.specs.Lattice.{Lattice, IsLattice, in_raster, is_near}
use Rattle.fill_raster.specs.declared.axis.Axis.{Axis}
use Rattle.fill_raster.proofs.Ranges.{both}
use Rattle.fill_job.specs.Plans.{PointSet, meets_box}
use Rattle.fill_job.proofs.Conflicts.{grown_le, some_within_decides}

-- a range and a grown one share a number
pub record Shared (low high begin end s : ℤ) : Type 0 where
  pub at : ℤ
  pub from : low ≤ℤ at
  pub to : at <ℤ high
  pub from_grown : (begin -ℤ s) ≤ℤ at
  pub to_grown : at <ℤ (end +ℤ s)

shared_if : (low high begin end s : ℤ) → low <ℤ high → begin <ℤ end → pos 0 ≤ℤ s → int_lt (low -ℤ s) end && int_lt begin (high +ℤ s) ≡ true → Shared low high begin end s
shared_if low high begin end s some box at_least h =
    let parts = and_parts (int_lt (low -ℤ s) end) (int_lt begin (high +ℤ s)) h in
    let under : (low -ℤ s) <ℤ end = less _ _ parts.0 in
    let over : begin <ℤ (high +ℤ s) = less _ _ parts.1 in
    elim (either low (begin -ℤ s)) [
      | inl low_first ↦ record { at = begin -ℤ s; from = low_first; to = back begin s high over; from_grown = same _; to_grown = wide begin end s box at_least }
      | inr grown_first ↦ record { at = low; from = same _; to = some; from_grown = grown_first; to_grown = ahead low s end under }
    ]
  where
    less : (a b : ℤ) → int_lt a b ≡ true → a <ℤ b
    less a b h = grind (arith, ints, h)

    either : (a b : ℤ) → (a ≤ℤ b) ⊎ (b ≤ℤ a)
    either a b = grind (arith, ints)

    back : (begin s high : ℤ) → begin <ℤ (high +ℤ s) → (begin -ℤ s) <ℤ high
    back begin s high h = omega (arith, ints)

    ahead : (low s end : ℤ) → (low -ℤ s) <ℤ end → low <ℤ (end +ℤ s)
    ahead low s end h = omega (arith, ints)

    same : (a : ℤ) → a ≤ℤ a
    same a = omega (arith, ints)

    wide : (begin end s : ℤ) → begin <ℤ end → pos 0 ≤ℤ s → (begin -ℤ s) <ℤ (end +ℤ s)
    wide begin end s h k = omega (arith, ints)

if_shared : (low high begin end s : ℤ) → Shared low high begin end s → int_lt (low -ℤ s) end && int_lt begin (high +ℤ s) ≡ true
if_shared low high begin end s sh = and_from _ _ (under low s end sh.at sh.from sh.to_grown) (over begin s high sh.at sh.to sh.from_grown)
  where
    under : (low s end x : ℤ) → low ≤ℤ x → x <ℤ (end +ℤ s) → int_lt (low -ℤ s) end ≡ true
    under low s end x h k = grind (arith, ints)

    over : (begin s high x : ℤ) → x <ℤ high → (begin -ℤ s) ≤ℤ x → int_lt begin (high +ℤ s) ≡ true
    over begin s high x h k = grind (arith, ints)

box_some : (a : Axis) (i : ℤ) → IsLength a.length → box_begin a i <ℤ box_end a i
box_some a i is = some (box_begin a i) a.length is.least
  where
    some : (b n : ℤ) → pos 1 ≤ℤ n → b <ℤ (b +ℤ n)
    some b n h = omega (arith, ints)

pub near_meets : (raster : Lattice) (s : ℤ) (r : Rect) (i j : ℤ) → IsLattice raster → pos 0 ≤ℤ s → in_raster raster i j ≡ true → is_near raster r s i j ≡ meets_box raster s (squares r) i j
unfolding meets_box
near_meets raster s r i j is spaced on =
    let across = raster.across in let up = raster.up in
    let on_axes = and_parts (is_on across i) (is_on up j) on in
    let wide = box_some across i is.across.length_is in
    let tall = box_some up j is.up.length_is in
    let decides = some_within_decides (squares r) (box_begin across i -ℤ s) (box_begin up j -ℤ s) (box_end across i +ℤ s) (box_end up j +ℤ s) (grown_le _ _ _ wide spaced) (grown_le _ _ _ tall spaced) in
    both (is_near raster r s i j) _
    (λ h.
    let near = and_parts (is_on_within across (r.x1 -ℤ s) (r.x2 +ℤ s) i) (is_on_within up (r.y1 -ℤ s) (r.y2 +ℤ s) j) h in
    let x = shared_if r.x1 r.x2 (box_begin across i) (box_end across i) s r.wide wide spaced (and_parts (is_on across i) _ near.0).1 in
    let y = shared_if r.y1 r.y2 (box_begin up j) (box_end up j) s r.tall tall spaced (and_parts (is_on up j) _ near.1).1 in
    decides.1 (record {
      x = x.at;
      y = y.at;
      square = and_from _ _ (is_between_true r.x1 r.x2 x.at x.from x.to) (is_between_true r.y1 r.y2 y.at y.from y.to);
      from_left = x.from_grown;
      to_right = x.to_grown;
      from_bottom = y.from_grown;
      to_top = y.to_grown;
    }))
    (λ h.
    let f = decides.0 h in
    let square = and_parts (is_between r.x1 r.x2 f.x) (is_between r.y1 r.y2 f.y) f.square in
    let x = is_between_bounds r.x1 r.x2 f.x square.0 in let y = is_between_bounds r.y1 r.y2 f.y square.1 in
    and_from _ _
    (and_from _ _ on_axes.0 (if_shared r.x1 r.x2 (box_begin across i) (box_end across i) s (record { at = f.x; from = x.0; to = x.1; from_grown = f.from_left; to_grown = f.to_right })))
    (and_from _ _ on_axes.1 (if_shared r.y1 r.y2 (box_begin up j) (box_end up j) s (record { at = f.y; from = y.0; to = y.1; from_grown = f.from_bottom; to_grown = f.to_top }))))

-- where each filled place is on the raster, those left by an edit are those that are not near
pub left_if_far : (raster : Lattice) (s : ℤ) (r : Rect) (fill near : PointSet) (i j : ℤ) → IsLattice raster → pos 0 ≤ℤ s → (fill i j ≡ true → in_raster raster i j ≡ true) → near i j ≡ is_near raster r s i j
    → fill i j && not (meets_box raster s (squares r) i j) ≡ fill i j && not (near i j)
left_if_far raster s r fill near i j is spaced on at = elim (cases_Bool (fill i j)) [
  | inl filled ↦ rw (at, near_meets raster s r i j is spaced (on filled)) refl
  | inr out ↦ rw out refl
]
