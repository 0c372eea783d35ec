-- Conflicts, by squares.
use Rattle.std.proofs.Common.{◌≡◌, sym, ◌<◌, ℤ, pos, ◌+ℤ◌, ◌-ℤ◌, ◌≤ℤ◌, ◌<ℤ◌, arith, Bool, true, ◌↔◌}
use Rattle.std.specs.Prelude.{IsTrue}
use Rattle.std.proofs.lemmas.Bool.{and_from, and_parts}
use Rattle.std.proofs.lemmas.Int.{ints, clamps}
use Rattle.fill_base.specs.Counts.{span_len}
use Rattle.fill_base.specs.Limits.{IsLength, IsSpacing}
use Rattle.fill_base.proofs.Between.{is_between_true, is_between_bounds}
use Rattle.fill_raster.specs.Axes.{box_begin, box_end}
use Rattle.fill_raster.specs.Lattice.{Lattice, IsLattice, box_squares}
use Rattle.fill_area.specs.Sharing.{ShareASquare}
use Rattle.fill_size.specs.Distance.{InConflict, IsNear, HasSquare}
use Rattle.fill_size.proofs.Ranges.{nearest}
use Rattle.fill_job.specs.Searches.{some_below, some_pair, some_within}
use Rattle.fill_job.specs.Plans.{PointSet, meets_box}
use Rattle.fill_job.specs.Laws.{BlockedIsSharing, ConflictsAreOfSquares, CrowdingIsOfSquares}
use Rattle.fill_job.proofs.Searching.{some_below_finds, some_below_has, step_within}

step_from : (lo hi x : ℤ) → lo ≤ℤ x → x <ℤ hi → (span_len lo x < span_len lo hi) × (lo +ℤ pos (span_len lo x) ≡ x)
step_from lo hi x low high = (omega (arith, ints, clamps), omega (arith, ints, clamps))

-- a search between four edges finds a square where there is one
pub some_within_decides : (p : ℤ → ℤ → Bool) (left bottom right top : ℤ) → left ≤ℤ right → bottom ≤ℤ top → IsTrue (some_within p left bottom right top) ↔ HasSquare p left bottom right top
unfolding some_within some_pair
some_within_decides p left bottom right top wide tall = (
  (λ h.
      let column = some_below_finds (λ a. some_below (λ b. p (left +ℤ pos a) (bottom +ℤ pos b)) (span_len bottom top)) (span_len left right) h in
      let row = some_below_finds (λ b. p (left +ℤ pos column.0) (bottom +ℤ pos b)) (span_len bottom top) column.2 in
      let x = step_within left right column.0 wide column.1 in
      let y = step_within bottom top row.0 tall row.1 in
      record { x = left +ℤ pos column.0; y = bottom +ℤ pos row.0; square = row.2; from_left = x.0; to_right = x.1; from_bottom = y.0; to_top = y.1 }),
  (λ f.
      let x = step_from left right f.x f.from_left f.to_right in
      let y = step_from bottom top f.y f.from_bottom f.to_top in
      let square : p (left +ℤ pos (span_len left f.x)) (bottom +ℤ pos (span_len bottom f.y)) ≡ true = rw (x.1, y.1) f.square in
      some_below_has (λ a. some_below (λ b. p (left +ℤ pos a) (bottom +ℤ pos b)) (span_len bottom top)) (span_len left right) (span_len left f.x) x.0
      (some_below_has (λ b. p (left +ℤ pos (span_len left f.x)) (bottom +ℤ pos b)) (span_len bottom top) (span_len bottom f.y) y.0 square)),
)

pub some_wide : (b n : ℤ) → IsLength n → b <ℤ (b +ℤ n)
some_wide b n long = let l : pos 1 ≤ℤ n = long.least in omega (arith, ints, clamps)

pub grown_le : (b e s : ℤ) → b <ℤ e → pos 0 ≤ℤ s → (b -ℤ s) ≤ℤ (e +ℤ s)
grown_le b e s lt some = omega (arith, ints, clamps)

low_end : (x u lo s : ℤ) → lo ≤ℤ x → (x -ℤ u) ≤ℤ s → (lo -ℤ s) ≤ℤ u
low_end x u lo s a b = omega (arith, ints, clamps)

high_end : (x u hi s : ℤ) → x <ℤ hi → (u -ℤ x) ≤ℤ s → u <ℤ (hi +ℤ s)
high_end x u hi s a b = omega (arith, ints, clamps)

-- a set has a square in a grown box where it is in conflict with the box
pub near_box : (r : Lattice) (s : ℤ) (p : PointSet) (i j : ℤ) → IsLattice r → IsSpacing s
    → HasSquare p (box_begin r.across i -ℤ s) (box_begin r.up j -ℤ s) (box_end r.across i +ℤ s) (box_end r.up j +ℤ s)
    ↔ InConflict p (box_squares r i j) s
near_box r s p i j is spacing =
    let wide = some_wide (box_begin r.across i) r.across.length is.across.length_is in
    let tall = some_wide (box_begin r.up j) r.up.length is.up.length_is in (
      (λ h.
          let across = nearest h.x (box_begin r.across i) (box_end r.across i) s wide spacing.least h.from_left h.to_right in
          let up = nearest h.y (box_begin r.up j) (box_end r.up j) s tall spacing.least h.from_bottom h.to_top in
          record {
            x = across.x;
            y = up.x;
            square = and_from _ _ (is_between_true _ _ across.x across.low across.high) (is_between_true _ _ up.x up.low up.high);
            reached = record { u = h.x; v = h.y; square = h.square; across = across.near; up = up.near };
          }),
      (λ c.
          let parts = and_parts _ _ c.square in
          let x = is_between_bounds (box_begin r.across i) (box_end r.across i) c.x parts.0 in
          let y = is_between_bounds (box_begin r.up j) (box_end r.up j) c.y parts.1 in
          let n : IsNear s c.x c.reached.u = c.reached.across in let m : IsNear s c.y c.reached.v = c.reached.up in
          record {
            x = c.reached.u;
            y = c.reached.v;
            square = c.reached.square;
            from_left = low_end c.x c.reached.u (box_begin r.across i) s x.0 n.above;
            to_right = high_end c.x c.reached.u (box_end r.across i) s x.1 n.below;
            from_bottom = low_end c.y c.reached.v (box_begin r.up j) s y.0 m.above;
            to_top = high_end c.y c.reached.v (box_end r.up j) s y.1 m.below;
          }),
    )

-- a search in a grown box finds a square where the set is in conflict with the box
pub met_of_squares : (r : Lattice) (s : ℤ) (p : PointSet) (i j : ℤ) → IsLattice r → IsSpacing s → IsTrue (meets_box r s p i j) ↔ InConflict p (box_squares r i j) s
unfolding meets_box
met_of_squares r s p i j is spacing =
    let wide = grown_le (box_begin r.across i) (box_end r.across i) s (some_wide (box_begin r.across i) r.across.length is.across.length_is) spacing.least in
    let tall = grown_le (box_begin r.up j) (box_end r.up j) s (some_wide (box_begin r.up j) r.up.length is.up.length_is) spacing.least in
    let found = some_within_decides p (box_begin r.across i -ℤ s) (box_begin r.up j -ℤ s) (box_end r.across i +ℤ s) (box_end r.up j +ℤ s) wide tall in
    let near = near_box r s p i j is spacing in
    ((λ h. near.0 (found.0 h)), (λ c. found.1 (near.1 c)))

pub conflict_of_squares : ConflictsAreOfSquares
conflict_of_squares plan p i j is = met_of_squares plan.raster plan.spacing p i j is.raster is.spacing

pub crowding_of_squares : CrowdingIsOfSquares
crowding_of_squares plan p i j is = met_of_squares plan.raster plan.fill_spacing p i j is.raster is.fill_spacing

-- ---- no distance at all

pub no_spacing : IsSpacing (pos 0)
no_spacing = record { least = omega (arith, ints, clamps); most = omega (arith, ints, clamps) }

same_number : (x u : ℤ) → IsNear (pos 0) x u → u ≡ x
same_number x u n = let a : (x -ℤ u) ≤ℤ pos 0 = n.above in let b : (u -ℤ x) ≤ℤ pos 0 = n.below in omega (arith, ints, clamps)

no_further : (x : ℤ) → IsNear (pos 0) x x
no_further x = record { above = omega (arith, ints, clamps); below = omega (arith, ints, clamps) }

-- sets are in conflict at no distance where they share a square
pub shared : (p q : PointSet) → InConflict p q (pos 0) ↔ ShareASquare p q
shared p q = (
  (λ c. record {
    x = c.x;
    y = c.y;
    first = rw (sym (same_number c.x c.reached.u c.reached.across), sym (same_number c.y c.reached.v c.reached.up)) c.reached.square;
    second = c.square;
  }),
  (λ s. record { x = s.x; y = s.y; square = s.second; reached = record { u = s.x; v = s.y; square = s.first; across = no_further s.x; up = no_further s.y } }),
)

pub blocked_sharing : BlockedIsSharing
blocked_sharing plan p i j is =
    let met = met_of_squares plan.raster (pos 0) p i j is.raster no_spacing in
    let both = shared p (box_squares plan.raster i j) in
    ((λ h. both.0 (met.0 h)), (λ c. met.1 (both.1 c)))
