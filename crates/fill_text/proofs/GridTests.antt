-- The numbers make a grid of windows exactly where the test of them says so.
use Rattle.std.proofs.Common.{negsuc, Fits, w32, if◌then◌else◌, ◌↔◌, ◌≡◌, ◌≤◌, ◌*◌, ◌-◌, ℕ, ℤ, pos, ◌≤ℤ◌, Bool, true, false, Result, Ok, Err, Some, None, IsOk, IfOk, arith, refl, sym, inl, inr}
use Rattle.std.specs.Prelude.{IsTrue, int_le, nat_le, unsigned_abs}
use Rattle.std.specs.Int.{IsNonNegative}
use Rattle.std.specs.Result.{result_ok}
use Rattle.std.proofs.lemmas.Bool.{cases_Bool}
use Rattle.std.proofs.lemmas.Bool.Decides.{nat_tests}
use Rattle.std.proofs.lemmas.Int.{ints}
use Rattle.fill_base.specs.Coordinates.{highest}
use Rattle.fill_base.specs.Limits.{IsLength}
use Rattle.fill_area.specs.Axes.{IsAxis, IsCount, axis_end}
use Rattle.fill_area.specs.Grid.{Grid, IsClip, IsGrid, all_coordinates}
use Rattle.fill_area.specs.declared.axis.Axis.{Axis}
use Rattle.fill_text.specs.Grids.{grid_with, is_axis, is_count, is_grid, is_length}
use Rattle.fill_text.proofs.Rectangles.{both, is_coordinate_facts, is_coordinate_true}

abbrev pub grid_of_numbers : ℤ → ℤ → ℤ → ℤ → ℤ → ℤ → ℕ → ℕ → Grid
grid_of_numbers x y w h s t m n = record { across = record { first = x; length = w; step = s; count = m }; up = record { first = y; length = h; step = t; count = n }; clip = all_coordinates }

pub int_le_true : (a b : ℤ) → a ≤ℤ b → int_le a b ≡ true
int_le_true a b order = grind (arith, ints)

pub int_le_facts : (a b : ℤ) → int_le a b ≡ true → a ≤ℤ b
int_le_facts a b test = grind (arith, ints)

pub nat_le_true : (a b : ℕ) → a ≤ b → nat_le a b ≡ true
nat_le_true a b order = grind (arith, nat_tests)

pub nat_le_facts : (a b : ℕ) → nat_le a b ≡ true → a ≤ b
nat_le_facts a b test = grind (arith, nat_tests)

is_length_true : (z : ℤ) → IsLength z → is_length z ≡ true
is_length_true z h = rw (int_le_true (pos 1) z h.least, int_le_true z (pos 1048576) h.most) refl

is_length_facts : (z : ℤ) → is_length z ≡ true → IsLength z
is_length_facts z test =
    let (least, most) = both _ _ test in
    record { least = int_le_facts (pos 1) z least; most = int_le_facts z (pos 1048576) most }

is_count_true : (n : ℕ) → IsCount n → is_count n ≡ true
is_count_true n h = rw (nat_le_true 1 n h.least, nat_le_true n 1048576 h.most) refl

is_count_facts : (n : ℕ) → is_count n ≡ true → IsCount n
is_count_facts n test =
    let (least, most) = both _ _ test in
    record { least = nat_le_facts 1 n least; most = nat_le_facts n 1048576 most }

is_axis_true : (axis : Axis) → IsAxis axis → is_axis axis ≡ true
is_axis_true axis h =
    rw (
      is_length_true axis.length h.length_is,
      is_length_true axis.step h.step_is,
      is_count_true axis.count h.count_is,
      is_coordinate_true axis.first h.first_is,
      int_le_true (axis_end axis (axis.count - 1)) highest h.last,
    ) refl

pub is_axis_facts : (axis : Axis) → is_axis axis ≡ true → IsAxis axis
is_axis_facts axis test =
    let (four, last) = both _ _ test in
    let (three, at) = both _ _ four in
    let (two, many) = both _ _ three in
    let (long, far) = both _ _ two in
    record {
      length_is = is_length_facts axis.length long;
      step_is = is_length_facts axis.step far;
      count_is = is_count_facts axis.count many;
      first_is = is_coordinate_facts axis.first at;
      last = int_le_facts _ highest last;
    }

-- what a test of an axis answers
pub axis_decided : (axis : Axis) (b : Bool) → (IsTrue b ↔ IsAxis axis) → b ≡ is_axis axis
axis_decided axis true h = sym (is_axis_true axis (h.0 refl))
axis_decided axis false h = elim (cases_Bool (is_axis axis)) [
  | inl test ↦ let never : false ≡ true = h.1 (is_axis_facts axis test) in cc never
  | inr test ↦ sym test
]

is_grid_true : (g : Grid) → IsGrid g → is_grid g ≡ true
is_grid_true g h = rw (is_axis_true g.across h.across, is_axis_true g.up h.up, nat_le_true (g.across.count * g.up.count) 1048576 h.few) refl

pub is_grid_facts : (g : Grid) → IsClip g.clip → is_grid g ≡ true → IsGrid g
is_grid_facts g clip test =
    let (axes, few) = both _ _ test in
    let (across, up) = both _ _ axes in
    record { across = is_axis_facts g.across across; up = is_axis_facts g.up up; few = nat_le_facts (g.across.count * g.up.count) 1048576 few; clip = clip }

-- what `Windows::new` gives is the grid with these numbers, if there is one
pub grid_kept : {E : Type 0} (g : Grid) (r : Result Grid E) → IsClip g.clip → (IsOk r ↔ IsGrid g) → IfOk r (λ w. w ≡ g) → result_ok r ≡ grid_with g
unfolding grid_with
grid_kept g (Ok w) clip whole same = rw (is_grid_true g (whole.0 refl), same) refl
grid_kept g (Err e) clip whole same = elim (cases_Bool (is_grid g)) [
  | inl test ↦ let never : false ≡ true = whole.1 (is_grid_facts g clip test) in cc never
  | inr test ↦ rw test refl
]

pub grid_with_same : (g w : Grid) → Some w ≡ grid_with g → w ≡ g
unfolding grid_with
grid_with_same g w e = by (is_grid g) e
  where
    by : (b : Bool) → Some w ≡ (if b then Some g else None) → w ≡ g
    by true e = cc e
    by false e = cc e

-- two grids of the same numbers
pub grids_same : (x x' y y' w w' h h' s s' t t' : ℤ) (m m' n n' : ℕ) → x ≡ x' → y ≡ y' → w ≡ w' → h ≡ h' → s ≡ s' → t ≡ t' → m ≡ m' → n ≡ n'
    → grid_of_numbers x y w h s t m n ≡ grid_of_numbers x' y' w' h' s' t' m' n'
grids_same x x' y y' w w' h h' s s' t t' m m' n n' a b c d e f g i = rw (a, b, c, d, e, f, g, i) refl

-- a count from 1 to 2^20 fits 32 bits without a sign
pub count_fits : (z : ℤ) → pos 1 ≤ℤ z → z ≤ℤ pos 1048576 → IsNonNegative z × Fits w32 (unsigned_abs z)
count_fits (pos n) least most = (tt, omega (arith, ints))
count_fits (negsuc n) least most = absurd (omega (arith, ints))
