-- The places of one axis are a range.
use Rattle.std.proofs.Common.{◌≡◌, ℕ, ◌≤◌, ℤ, pos, negsuc, neg_ℤ, ◌+ℤ◌, ◌-ℤ◌, ◌*ℤ◌, ◌≤ℤ◌, ◌<ℤ◌, arith, sym, refl, Bool, true, false}
use Rattle.std.specs.Prelude.{int_le}
use Rattle.std.specs.Int.{int_max, int_div_euclid}
use Rattle.std.proofs.lemmas.Bool.{and_from, and_parts}
use Rattle.std.proofs.lemmas.Int.{ints, clamps, by_lt_z}
use Rattle.fill_base.specs.Coordinates.{lowest, highest}
use Rattle.fill_base.specs.Counts.{is_between, span_len}
use Rattle.fill_base.proofs.Between.{is_between_true, is_between_bounds}
use Rattle.fill_raster.specs.Axes.{box_begin, box_end, is_on, first, past, extent, IsAxis}
use Rattle.fill_raster.specs.declared.axis.Axis.{Axis}
use Rattle.fill_raster.proofs.Floors.{floor_within, within_floor, floor_bounds, neg_product, far}

pub le_true : (a b : ℤ) → a ≤ℤ b → int_le a b ≡ true
le_true a b h = grind (arith, ints)

pub true_le : (a b : ℤ) → int_le a b ≡ true → a ≤ℤ b
true_le a b h = grind (arith, ints)

-- a box within the frame, and a place within the range
pub record IsWithin (a : Axis) (i : ℤ) : Type 0 where
  pub begins : a.low ≤ℤ box_begin a i
  pub ends : box_end a i ≤ℤ a.high

pub on_within : (a : Axis) (i : ℤ) → is_on a i ≡ true → IsWithin a i
on_within a i on = record { begins = true_le _ _ (and_parts _ _ on).0; ends = true_le _ _ (and_parts _ _ on).1 }

pub within_on : (a : Axis) (i : ℤ) → IsWithin a i → is_on a i ≡ true
within_on a i w = and_from _ _ (le_true _ _ w.begins) (le_true _ _ w.ends)

pub record IsIn (a : Axis) (i : ℤ) : Type 0 where
  pub low : first a ≤ℤ i
  pub high : i <ℤ past a

pub on_in : (a : Axis) (i : ℤ) → pos 1 ≤ℤ a.step → IsWithin a i → IsIn a i
unfolding first past
on_in a i step w = record {
  low = turned i _ (within_floor (neg_ℤ i) (a.origin -ℤ a.low) a.step step (rw (neg_product i a.step) (from_low a.origin a.low (i *ℤ a.step) w.begins)));
  high = under i _ _ (within_floor i ((a.high -ℤ a.length) -ℤ a.origin) a.step step (to_high a.origin (i *ℤ a.step) a.length a.high w.ends));
}
  where
    from_low : (origin low m : ℤ) → low ≤ℤ (origin +ℤ m) → neg_ℤ m ≤ℤ (origin -ℤ low)
    from_low origin low m h = omega (arith, ints, clamps)

    turned : (i q : ℤ) → neg_ℤ i ≤ℤ q → neg_ℤ q ≤ℤ i
    turned i q h = omega (arith, ints, clamps)

    to_high : (origin m length high : ℤ) → ((origin +ℤ m) +ℤ length) ≤ℤ high → m ≤ℤ ((high -ℤ length) -ℤ origin)
    to_high origin m length high h = omega (arith, ints, clamps)

    under : (i f q : ℤ) → i ≤ℤ q → i <ℤ int_max f (q +ℤ pos 1)
    under i f q h = omega (arith, ints, clamps)

pub in_on : (a : Axis) (i : ℤ) → pos 1 ≤ℤ a.step → IsIn a i → IsWithin a i
unfolding first past
in_on a i step is = record {
  begins = to_low a.origin a.low (i *ℤ a.step) (rw (neg_product i a.step) at (floor_within (neg_ℤ i) (a.origin -ℤ a.low) a.step step (turned i _ is.low)));
  ends = from_high a.origin (i *ℤ a.step) a.length a.high (floor_within i ((a.high -ℤ a.length) -ℤ a.origin) a.step step (under i _ _ is.low is.high));
}
  where
    to_low : (origin low m : ℤ) → neg_ℤ m ≤ℤ (origin -ℤ low) → low ≤ℤ (origin +ℤ m)
    to_low origin low m h = omega (arith, ints, clamps)

    turned : (i q : ℤ) → neg_ℤ q ≤ℤ i → neg_ℤ i ≤ℤ q
    turned i q h = omega (arith, ints, clamps)

    from_high : (origin m length high : ℤ) → m ≤ℤ ((high -ℤ length) -ℤ origin) → ((origin +ℤ m) +ℤ length) ≤ℤ high
    from_high origin m length high h = omega (arith, ints, clamps)

    under : (i f q : ℤ) → f ≤ℤ i → i <ℤ int_max f (q +ℤ pos 1) → i ≤ℤ q
    under i f q h k = omega (arith, ints, clamps)

pub both : (a b : Bool) → (a ≡ true → b ≡ true) → (b ≡ true → a ≡ true) → a ≡ b
both true b f g = sym (f refl)
both false true f g = g refl
both false false f g = refl

-- the places of the raster are exactly those from the first one on and below the one past the last
pub on_range : (a : Axis) (i : ℤ) → pos 1 ≤ℤ a.step → is_on a i ≡ is_between (first a) (past a) i
on_range a i step = both _ _
    (λ on. let r = on_in a i step (on_within a i on) in is_between_true _ _ i r.low r.high)
    (λ is. let b = is_between_bounds (first a) (past a) i is in within_on a i (in_on a i step (record { low = b.0; high = b.1 })))

-- both ends of the range, and that it is one
pub first_past : (a : Axis) → first a ≤ℤ past a
unfolding past
first_past a = omega (arith, ints, clamps)

-- a place, or the one past the last
pub record IsPlaceNumber (z : ℤ) : Type 0 where
  pub least : negsuc 2147483647 ≤ℤ z
  pub most : z ≤ℤ pos 2147483648

pub first_bounded : (a : Axis) → IsAxis a → IsPlaceNumber (first a)
unfolding first
first_bounded a is =
    let q = floor_bounds (negsuc 2147483647) (pos 2147483648) (a.origin -ℤ a.low) a.step is.step_is.least (omega (arith, ints, clamps)) (low a.origin a.low is.origin_is.least (upper a.low a.high is.ordered is.most)) (high a.origin a.low is.origin_is.most is.least) (omega (arith, ints, clamps)) in
    record { least = turned_low _ q.1; most = turned_high _ q.0 }
  where
    upper : (low high : ℤ) → low <ℤ high → high ≤ℤ highest → low ≤ℤ highest
    upper low high h k = omega (arith, ints, clamps)

    low : (origin edge : ℤ) → lowest ≤ℤ origin → edge ≤ℤ highest → negsuc 2147483647 ≤ℤ (origin -ℤ edge)
    low origin edge h k = omega (arith, ints, clamps)

    high : (origin edge : ℤ) → origin ≤ℤ highest → lowest ≤ℤ edge → (origin -ℤ edge) ≤ℤ pos 2147483648
    high origin edge h k = omega (arith, ints, clamps)

    turned_low : (q : ℤ) → q ≤ℤ pos 2147483648 → negsuc 2147483647 ≤ℤ neg_ℤ q
    turned_low q h = omega (arith, ints, clamps)

    turned_high : (q : ℤ) → negsuc 2147483647 ≤ℤ q → neg_ℤ q ≤ℤ pos 2147483648
    turned_high q h = omega (arith, ints, clamps)

-- the last place as the upper edge of the frame alone gives it
abbrev pub last : Axis → ℤ
last a = int_div_euclid ((a.high -ℤ a.length) -ℤ a.origin) a.step

pub last_bounded : (a : Axis) → IsAxis a → (negsuc 2148532223 ≤ℤ last a) × (last a ≤ℤ pos 2147483647)
last_bounded a is =
    floor_bounds (negsuc 2148532223) (pos 2147483647) ((a.high -ℤ a.length) -ℤ a.origin) a.step is.step_is.least (omega (arith, ints, clamps))
    (low a.low a.high a.length a.origin is.least is.ordered is.length_is.most is.origin_is.most) (high a.high a.length a.origin is.most is.length_is.least is.origin_is.least) (omega (arith, ints, clamps))
  where
    low : (edge limit length origin : ℤ) → lowest ≤ℤ edge → edge <ℤ limit → length ≤ℤ pos 1048576 → origin ≤ℤ highest → negsuc 2148532223 ≤ℤ ((limit -ℤ length) -ℤ origin)
    low edge limit length origin h k l m = omega (arith, ints, clamps)

    high : (limit length origin : ℤ) → limit ≤ℤ highest → pos 1 ≤ℤ length → lowest ≤ℤ origin → ((limit -ℤ length) -ℤ origin) ≤ℤ pos 2147483647
    high limit length origin h k l = omega (arith, ints, clamps)

pub past_bounded : (a : Axis) → IsAxis a → IsPlaceNumber (past a)
unfolding past
past_bounded a is = let f = first_bounded a is in let l = last_bounded a is in both (first a) (last a) f.least f.most l.1
  where
    both : (f q : ℤ) → negsuc 2147483647 ≤ℤ f → f ≤ℤ pos 2147483648 → q ≤ℤ pos 2147483647 → IsPlaceNumber (int_max f (q +ℤ pos 1))
    both f q l m n = record { least = omega (arith, ints, clamps); most = omega (arith, ints, clamps) }

-- an axis has at most 2^31 places, as many as the range of coordinates has numbers
pub extent_bounded : (a : Axis) → IsAxis a → extent a ≤ 2147483648
extent_bounded a is = by_lt_z (first a) (past a) (λ lt. some lt) (λ le. none (first a) (past a) (first_past a) le)
  where
    none : (f p : ℤ) → f ≤ℤ p → p ≤ℤ f → span_len f p ≤ 2147483648
    none f p h k = omega (arith, ints, clamps)

    gap : (f p : ℤ) → f <ℤ p → f +ℤ pos (span_len f (p -ℤ pos 1)) ≡ p -ℤ pos 1
    gap f p lt = omega (arith, ints, clamps)

    frame : (low high length origin m k : ℤ) (n : ℕ) → lowest ≤ℤ low → high ≤ℤ highest → pos 1 ≤ℤ length → low ≤ℤ (origin +ℤ m) → ((origin +ℤ k) +ℤ length) ≤ℤ high → (m +ℤ pos n) ≤ℤ k → n ≤ 2147483647
    frame low high length origin m k n a b c d e f = omega (arith, ints, clamps)

    one_more_place : (f p : ℤ) → f <ℤ p → span_len f (p -ℤ pos 1) ≤ 2147483647 → span_len f p ≤ 2147483648
    one_more_place f p lt le = omega (arith, ints, clamps)

    least : (f p : ℤ) → f <ℤ p → (f ≤ℤ f) × (f ≤ℤ (p -ℤ pos 1)) × ((p -ℤ pos 1) <ℤ p)
    least f p lt = (omega (arith, ints, clamps), omega (arith, ints, clamps), omega (arith, ints, clamps))

    some : first a <ℤ past a → extent a ≤ 2147483648
    some lt =
        let l = least (first a) (past a) lt in
        let begins = (in_on a (first a) is.step_is.least (record { low = l.0; high = lt })).begins in
        let ends = (in_on a (past a -ℤ pos 1) is.step_is.least (record { low = l.1; high = l.2 })).ends in
        let n = span_len (first a) (past a -ℤ pos 1) in
        let apart : ((first a *ℤ a.step) +ℤ pos n) ≤ℤ ((past a -ℤ pos 1) *ℤ a.step) = rw (gap (first a) (past a) lt) at (far (first a) a.step n is.step_is.least) in
        one_more_place (first a) (past a) lt (frame a.low a.high a.length a.origin (first a *ℤ a.step) ((past a -ℤ pos 1) *ℤ a.step) n is.least is.most is.length_is.least begins ends apart)
