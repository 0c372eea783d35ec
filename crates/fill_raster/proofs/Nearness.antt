-- The places whose boxes are near a range.
use Rattle.std.proofs.Common.{◌≡◌, refl, sym, ◌∙◌, ℤ, pos, negsuc, ◌+ℤ◌, ◌-ℤ◌, ◌*ℤ◌, ◌≤ℤ◌, ◌<ℤ◌, arith, true, ◌&&◌, FitsSigned, w64}
use Rattle.std.specs.Prelude.{int_lt}
use Rattle.std.specs.Int.{int_max, int_min, int_div_euclid}
use Rattle.std.proofs.lemmas.Bool.{and_from, and_parts}
use Rattle.std.proofs.lemmas.Int.{ints, clamps, by_lt_z}
use Rattle.fill_base.specs.Coordinates.{lowest, highest, IsCoordinate}
use Rattle.fill_base.specs.Limits.{IsLength, IsSpacing}
use Rattle.fill_base.specs.Counts.{is_between}
use Rattle.fill_base.proofs.Between.{is_between_true, is_between_bounds}
use Rattle.fill_base.proofs.Signed.{read, read_is, is_lt}
use Rattle.fill_base.specs.declared.rect.Rect.{Rect}
use Rattle.fill_base.proofs.Areas.{read_x1, read_x2, read_y1, read_y2}
use Rattle.fill_raster.specs.Lattice.{Lattice, is_near}
use Rattle.fill_raster.specs.Axes.{box_begin, is_on_within, first, past, IsAxis}
use Rattle.fill_raster.specs.declared.axis.Axis.{Axis}
use Rattle.fill_raster.proofs.Floors.{floor_within, within_floor, floor_bounds}
use Rattle.fill_raster.proofs.Ranges.{on_range, both, first_past}
use Rattle.fill_raster.proofs.Reading.{axis_read, first_read, past_read}

-- the number of steps to `z`, rounded down
abbrev steps_to : Axis → ℤ → ℤ
steps_to a z = int_div_euclid (z -ℤ a.origin) a.step

steps_bounded : (a : Axis) (z : ℤ) → IsAxis a → negsuc 2147483647 ≤ℤ z → z ≤ℤ pos 2147483648 → (negsuc 3221225471 ≤ℤ steps_to a z) × (steps_to a z ≤ℤ pos 3221225472)
steps_bounded a z is low high =
    floor_bounds (negsuc 3221225471) (pos 3221225472) (z -ℤ a.origin) a.step is.step_is.least (omega (arith, ints)) (under z a.origin low is.origin_is) (over z a.origin high is.origin_is) (omega (arith, ints))
  where
    under : (z origin : ℤ) → negsuc 2147483647 ≤ℤ z → IsCoordinate origin → negsuc 3221225471 ≤ℤ (z -ℤ origin)
    under z origin h is = let b : origin ≤ℤ highest = is.most in omega (arith, ints)

    over : (z origin : ℤ) → z ≤ℤ pos 2147483648 → IsCoordinate origin → (z -ℤ origin) ≤ℤ pos 3221225472
    over z origin h is = let b : lowest ≤ℤ origin = is.least in omega (arith, ints)

steps_are : (a : Axis) (z q : ℤ) → IsAxis a → negsuc 2147483647 ≤ℤ z → z ≤ℤ pos 2147483648 → q ≡ int_div_euclid (read (read z -ℤ read a.origin)) (read a.step) → q ≡ steps_to a z
steps_are a z q is low high q_is =
    let r = axis_read a is in
    rw (r.origin_is, r.step_is, read_is z (number_fits z low high), read_is (z -ℤ a.origin) (gap_fits z a.origin low high is.origin_is)) at q_is
  where
    number_fits : (z : ℤ) → negsuc 2147483647 ≤ℤ z → z ≤ℤ pos 2147483648 → FitsSigned w64 z
    number_fits z h k = omega (arith, ints)

    gap_fits : (z origin : ℤ) → negsuc 2147483647 ≤ℤ z → z ≤ℤ pos 2147483648 → IsCoordinate origin → FitsSigned w64 (z -ℤ origin)
    gap_fits z origin h k is = let b : lowest ≤ℤ origin = is.least in let t : origin ≤ℤ highest = is.most in omega (arith, ints)

pub record IsBegun (a : Axis) (z q : ℤ) : Type 0 where
  pub fits : FitsSigned w64 (read q +ℤ pos 1)
  pub below : (i : ℤ) → i <ℤ read (read q +ℤ pos 1) → box_begin a i ≤ℤ z
  pub above : (i : ℤ) → box_begin a i ≤ℤ z → i <ℤ read (read q +ℤ pos 1)

pub begun : (a : Axis) (z q : ℤ) → IsAxis a → negsuc 2147483647 ≤ℤ z → z ≤ℤ pos 2147483648 → q ≡ int_div_euclid (read (read z -ℤ read a.origin)) (read a.step) → IsBegun a z q
begun a z q is low high q_is =
    let e = steps_are a z q is low high q_is in
    let b = steps_bounded a z is low high in
    let f = read_is (steps_to a z) (fits _ b.0 b.1) in
    let n = next_fits _ b.0 b.1 in
    let r : read (read q +ℤ pos 1) ≡ steps_to a z +ℤ pos 1 = rw (e, f) (read_is _ n) in
    record {
      fits = rw (e, f) n;
      below = λ i h. reached a.origin (i *ℤ a.step) z (floor_within i (z -ℤ a.origin) a.step is.step_is.least (at_most i _ (rw r at h)));
      above = λ i h. rw r (one_more i _ (within_floor i (z -ℤ a.origin) a.step is.step_is.least (reaches a.origin (i *ℤ a.step) z h)));
    }
  where
    fits : (q : ℤ) → negsuc 3221225471 ≤ℤ q → q ≤ℤ pos 3221225472 → FitsSigned w64 q
    fits q h k = omega (arith, ints)

    next_fits : (q : ℤ) → negsuc 3221225471 ≤ℤ q → q ≤ℤ pos 3221225472 → FitsSigned w64 (q +ℤ pos 1)
    next_fits q h k = omega (arith, ints)

    at_most : (i q : ℤ) → i <ℤ (q +ℤ pos 1) → i ≤ℤ q
    at_most i q h = omega (arith, ints)

    one_more : (i q : ℤ) → i ≤ℤ q → i <ℤ (q +ℤ pos 1)
    one_more i q h = omega (arith, ints)

    reached : (origin m z : ℤ) → m ≤ℤ (z -ℤ origin) → (origin +ℤ m) ≤ℤ z
    reached origin m z h = omega (arith, ints)

    reaches : (origin m z : ℤ) → (origin +ℤ m) ≤ℤ z → m ≤ℤ (z -ℤ origin)
    reaches origin m z h = omega (arith, ints)

-- ---- a range of places

lt_true : (a b : ℤ) → a <ℤ b → int_lt a b ≡ true
lt_true a b h = grind (arith, ints)

-- a number below this one is that of a place whose box begins at `z` or before
pub record Begins (a : Axis) (z n : ℤ) : Type 0 where
  pub below : (i : ℤ) → i <ℤ n → box_begin a i ≤ℤ z
  pub above : (i : ℤ) → box_begin a i ≤ℤ z → i <ℤ n

-- the first place of the range, and the one past the last
abbrev start_of : Axis → ℤ → ℤ
start_of a m = int_min (past a) (int_max (first a) m)

abbrev end_of : Axis → ℤ → ℤ → ℤ
end_of a m n = int_max (start_of a m) (int_min (past a) n)

pub record IsPartOf (a : Axis) (x y : ℤ) : Type 0 where
  pub least : first a ≤ℤ x
  pub ordered : x ≤ℤ y
  pub most : y ≤ℤ past a

near_part : (a : Axis) (m n : ℤ) → IsPartOf a (start_of a m) (end_of a m n)
near_part a m n = let h = part (first a) (past a) m n (first_past a) in record { least = h.0; ordered = h.1; most = h.2 }
  where
    part : (f p m n : ℤ) → f ≤ℤ p → (f ≤ℤ int_min p (int_max f m)) × (int_min p (int_max f m) ≤ℤ int_max (int_min p (int_max f m)) (int_min p n)) × (int_max (int_min p (int_max f m)) (int_min p n) ≤ℤ p)
    part f p m n h = (omega (arith, ints, clamps), omega (arith, ints, clamps), omega (arith, ints, clamps))

near_range : (a : Axis) (low high m n : ℤ) → IsAxis a → Begins a (low -ℤ a.length) m → Begins a (high -ℤ pos 1) n
    → (i : ℤ) → is_between (start_of a m) (end_of a m n) i ≡ is_on_within a low high i
near_range a low high m n is before behind i = both _ _
    (λ h. let b = is_between_bounds _ _ i h in let p = parts (first a) (past a) m n i b.0 b.1 in
    and_from _ _ (on_range a i is.step_is.least ∙ is_between_true _ _ i p.0 p.1)
    (and_from _ _ (lt_true _ _ (ends (box_begin a i) low a.length (λ k. not_below m i p.2 (before.above i k)))) (lt_true _ _ (begins _ high (behind.below i p.3)))))
    (λ h. let on = is_between_bounds (first a) (past a) i (sym (on_range a i is.step_is.least) ∙ (and_parts _ _ h).0) in
    let near = and_parts _ _ (and_parts _ _ h).1 in
    let q = whole (first a) (past a) m n i on.0 on.1 (from m i (λ k. not_ended (box_begin a i) low a.length (is_lt _ _ near.0) (before.below i k))) (behind.above i (begun_before _ high (is_lt _ _ near.1))) in
    is_between_true _ _ i q.0 q.1)
  where
    parts : (f p m n i : ℤ) → int_min p (int_max f m) ≤ℤ i → i <ℤ int_max (int_min p (int_max f m)) (int_min p n) → (f ≤ℤ i) × (i <ℤ p) × (m ≤ℤ i) × (i <ℤ n)
    parts f p m n i h k = (omega (arith, ints, clamps), omega (arith, ints, clamps), omega (arith, ints, clamps), omega (arith, ints, clamps))

    whole : (f p m n i : ℤ) → f ≤ℤ i → i <ℤ p → m ≤ℤ i → i <ℤ n → (int_min p (int_max f m) ≤ℤ i) × (i <ℤ int_max (int_min p (int_max f m)) (int_min p n))
    whole f p m n i a b c d = (omega (arith, ints, clamps), omega (arith, ints, clamps))

    not_below : (m i : ℤ) → m ≤ℤ i → i <ℤ m → ⊥
    not_below m i h k = omega (arith, ints)

    from : (m i : ℤ) → (i <ℤ m → ⊥) → m ≤ℤ i
    from m i h = by_lt_z i m (λ lt. absurd (h lt)) (λ le. le)

    beyond : (begin low length : ℤ) → (low -ℤ length) <ℤ begin → low <ℤ (begin +ℤ length)
    beyond begin low length h = omega (arith, ints)

    ends : (begin low length : ℤ) → (begin ≤ℤ (low -ℤ length) → ⊥) → low <ℤ (begin +ℤ length)
    ends begin low length h = by_lt_z (low -ℤ length) begin (λ lt. beyond begin low length lt) (λ le. absurd (h le))

    not_ended : (begin low length : ℤ) → low <ℤ (begin +ℤ length) → begin ≤ℤ (low -ℤ length) → ⊥
    not_ended begin low length h k = omega (arith, ints)

    begins : (begin high : ℤ) → begin ≤ℤ (high -ℤ pos 1) → begin <ℤ high
    begins begin high h = omega (arith, ints)

    begun_before : (begin high : ℤ) → begin <ℤ high → begin ≤ℤ (high -ℤ pos 1)
    begun_before begin high h = omega (arith, ints)

-- ---- as the code reckons it

fits_below : (low length : ℤ) → negsuc 1074790399 ≤ℤ low → low ≤ℤ pos 1074790400 → IsLength length → FitsSigned w64 (low -ℤ length)
fits_below low length h k il = let a : pos 1 ≤ℤ length = il.least in let b : length ≤ℤ pos 1048576 = il.most in omega (arith, ints)

fits_edge : (z : ℤ) → negsuc 1074790399 ≤ℤ z → z ≤ℤ pos 1074790400 → FitsSigned w64 z
fits_edge z h k = omega (arith, ints)

fits_before : (z : ℤ) → negsuc 1074790399 ≤ℤ z → z ≤ℤ pos 1074790400 → FitsSigned w64 (z -ℤ pos 1)
fits_before z h k = omega (arith, ints)

low_below : (low high : ℤ) → low <ℤ high → high ≤ℤ pos 1074790400 → low ≤ℤ pos 1074790400
low_below low high h k = omega (arith, ints)

high_above : (low high : ℤ) → low <ℤ high → negsuc 1074790399 ≤ℤ low → negsuc 1074790399 ≤ℤ high
high_above low high h k = omega (arith, ints)

abbrev BeginsAt : Axis → ℤ → ℤ → Type 0
BeginsAt a z n = (i : ℤ) → (i <ℤ n → box_begin a i ≤ℤ z) × (box_begin a i ≤ℤ z → i <ℤ n)

begins_at : (a : Axis) (z y n : ℤ) → y ≡ z → BeginsAt a y n → Begins a z n
begins_at a z y n e h = record { below = λ i k. rw e at ((h i).0 k); above = λ i k. (h i).1 (rw e k) }

pub record IsNearRange (a : Axis) (low high x y : ℤ) : Type 0 where
  pub part : IsPartOf a x y
  pub places : (i : ℤ) → is_between x y i ≡ is_on_within a low high i

pub near_reckoned : (a : Axis) (low high f p m n k x z y : ℤ) → IsAxis a → negsuc 1074790399 ≤ℤ low → low <ℤ high → high ≤ℤ pos 1074790400 → FitsSigned w64 m → FitsSigned w64 n
    → f ≡ first a → p ≡ past a → BeginsAt a (read (read low -ℤ read a.length)) m → BeginsAt a (read (read high -ℤ pos 1)) n
    → k ≡ int_max (read f) (read m) → x ≡ int_min (read p) (read k) → z ≡ int_min (read p) (read n) → y ≡ int_max (read x) (read z) → FitsSigned w64 k → FitsSigned w64 x → FitsSigned w64 z → FitsSigned w64 y
    → IsNearRange a low high (read x) (read y)
near_reckoned a low high f p m n k x z y is least ordered most m_fits n_fits f_is p_is before behind k_is x_is z_is y_is k_fits x_fits z_fits y_fits =
    let r = axis_read a is in
    let low_most = low_below low high ordered most in
    let high_least = high_above low high ordered least in
    let e : read (read low -ℤ read a.length) ≡ low -ℤ a.length = rw (read_is low (fits_edge low least low_most), r.length_is) (read_is _ (fits_below low a.length least low_most is.length_is)) in
    let g : read (read high -ℤ pos 1) ≡ high -ℤ pos 1 = rw (read_is high (fits_edge high high_least most)) (read_is _ (fits_before high high_least most)) in
    let first_is : read f ≡ first a = rw f_is (first_read a is) in
    let past_is : read p ≡ past a = rw p_is (past_read a is) in
    let starts : read x ≡ start_of a m = read_is x x_fits ∙ (x_is ∙ rw (past_is, read_is k k_fits, k_is, first_is, read_is m m_fits) refl) in
    let ends : read y ≡ end_of a m n = read_is y y_fits ∙ (y_is ∙ rw (starts, read_is z z_fits, z_is, past_is, read_is n n_fits) refl) in
    rw (starts, ends) (record { part = near_part a m n; places = near_range a low high m n is (begins_at a (low -ℤ a.length) _ m e before) (begins_at a (high -ℤ pos 1) _ n g behind) })

-- the edges of a rectangle, grown by a spacing
pub record GrownRead (low high spacing : ℤ) : Type 0 where
  pub low_fits : FitsSigned w64 (low -ℤ spacing)
  pub high_fits : FitsSigned w64 (high +ℤ spacing)
  pub least : negsuc 1074790399 ≤ℤ (low -ℤ spacing)
  pub ordered : (low -ℤ spacing) <ℤ (high +ℤ spacing)
  pub most : (high +ℤ spacing) ≤ℤ pos 1074790400

pub grown_read : (low high spacing : ℤ) → lowest ≤ℤ low → low <ℤ high → high ≤ℤ highest → IsSpacing spacing → GrownRead low high spacing
grown_read low high spacing h k l is =
    let a : pos 0 ≤ℤ spacing = is.least in let b : spacing ≤ℤ pos 1048576 = is.most in
    record { low_fits = omega (arith, ints); high_fits = omega (arith, ints); least = omega (arith, ints); ordered = omega (arith, ints); most = omega (arith, ints) }

pub near_both : (r : Lattice) (rect : Rect) (s : ℤ) (across up : Axis) (x1 x2 y1 y2 a b c d : ℤ) → IsSpacing s → across ≡ r.across → up ≡ r.up → x1 ≡ rect.x1 → x2 ≡ rect.x2 → y1 ≡ rect.y1 → y2 ≡ rect.y2
    → ((i : ℤ) → is_between a b i ≡ is_on_within across (read (read x1 -ℤ read s)) (read (read x2 +ℤ read s)) i)
    → ((j : ℤ) → is_between c d j ≡ is_on_within up (read (read y1 -ℤ read s)) (read (read y2 +ℤ read s)) j)
    → (i j : ℤ) → (is_between a b i && is_between c d j) ≡ is_near r rect s i j
near_both r rect s across up x1 x2 y1 y2 a b c d is across_is up_is x1_is x2_is y1_is y2_is columns rows i j =
    let x = grown_read rect.x1 rect.x2 s rect.left rect.wide rect.right is in
    let y = grown_read rect.y1 rect.y2 s rect.bottom rect.tall rect.top is in
    rw (columns i, rows j, across_is, up_is, x1_is, x2_is, y1_is, y2_is, read_x1 rect, read_x2 rect, read_y1 rect, read_y2 rect, read_is s (spacing_fits s is), read_is _ x.low_fits, read_is _ x.high_fits, read_is _ y.low_fits, read_is _ y.high_fits) refl
  where
    spacing_fits : (s : ℤ) → IsSpacing s → FitsSigned w64 s
    spacing_fits s is = let a : pos 0 ≤ℤ s = is.least in let b : s ≤ℤ pos 1048576 = is.most in omega (arith, ints)
