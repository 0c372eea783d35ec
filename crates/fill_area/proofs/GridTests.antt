-- The tests of a grid's numbers, one after another.
use Rattle.std.proofs.Common.{◌≡◌, ℕ, ◌-◌, ◌*◌, ◌≤◌, ℤ, pos, ◌+ℤ◌, ◌*ℤ◌, ◌≤ℤ◌, arith, ap, ◌∙◌, Bool, true, ◌&&◌, ◌↔◌}
use Rattle.std.specs.Cmp.{first_so, second_so}
use Rattle.std.proofs.lemmas.Bool.{and_from}
use Rattle.std.specs.Prelude.{int_le, IsTrue}
use Rattle.std.proofs.lemmas.Int.{ints}
use Rattle.fill_base.specs.Coordinates.{highest, IsCoordinate}
use Rattle.fill_base.proofs.Signed.{read, read_is}
use Rattle.fill_area.specs.Grid.{Grid, IsClip, IsGrid, all_coordinates}
use Rattle.fill_base.specs.Limits.{IsLength}
use Rattle.fill_area.specs.Axes.{IsCount, IsAxis}
use Rattle.fill_area.proofs.Axes.{axis_of, end_fits}

pub grid_test : (g : Grid) (a b c : Bool) → (IsTrue a ↔ IsAxis g.across) → (IsTrue b ↔ IsAxis g.up)
    → (IsTrue c ↔ (g.across.count * g.up.count ≤ 1048576)) → IsClip g.clip → IsTrue ((a && b) && c) ↔ IsGrid g
grid_test g a b c across up few clip = (
  (λ h. record { across = across.0 (first_so a b (first_so (a && b) c h)); up = up.0 (second_so a b (first_so (a && b) c h)); few = few.0 (second_so (a && b) c h); clip = clip }),
  (λ is. and_from (a && b) c (and_from a b (across.1 is.across) (up.1 is.up)) (few.1 is.few)),
)

le_true : (a b : ℤ) → int_le a b ≡ true → a ≤ℤ b
le_true a b h = grind (arith, ints)

true_le : (a b : ℤ) → a ≤ℤ b → int_le a b ≡ true
true_le a b h = grind (arith, ints)

-- the four tests of the numbers hold
pub record Limited (first length step : ℤ) (count : ℕ) : Type 0 where
  pub length_is : IsLength length
  pub step_is : IsLength step
  pub count_is : IsCount count
  pub first_is : IsCoordinate first

pub limited : (first length step : ℤ) (count : ℕ) (a b c d : Bool) → (IsTrue a ↔ IsLength length) → (IsTrue b ↔ IsLength step) → (IsTrue c ↔ IsCount count) → (IsTrue d ↔ IsCoordinate first)
    → ((a && b) && c) && d ≡ true → Limited first length step count
limited first length step count a b c d la lb lc ld all = record {
  length_is = la.0 (first_so a b (first_so (a && b) c (first_so ((a && b) && c) d all)));
  step_is = lb.0 (second_so a b (first_so (a && b) c (first_so ((a && b) && c) d all)));
  count_is = lc.0 (second_so (a && b) c (first_so ((a && b) && c) d all));
  first_is = ld.0 (second_so ((a && b) && c) d all);
}

pub axis_test : (first length step : ℤ) (count : ℕ) (r : ℤ) → Limited first length step count
    → r ≡ (first +ℤ (pos (count - 1) *ℤ step)) +ℤ length → (IsTrue (int_le (read r) highest) ↔ IsAxis (axis_of first length step count))
axis_test first length step count r l r_is =
    let few : count - 1 ≤ 1048576 = let most : count ≤ 1048576 = l.count_is.most in omega arith in
    let end_is : read r ≡ (first +ℤ (pos (count - 1) *ℤ step)) +ℤ length =
    ap read r_is ∙ read_is _ (end_fits first length (count - 1) step l.first_is l.length_is few l.step_is) in (
      (λ h. record { length_is = l.length_is; step_is = l.step_is; count_is = l.count_is; first_is = l.first_is; last = le_true _ highest (rw end_is at h) }),
      (λ axis. rw end_is (true_le _ highest axis.last)),
    )

pub all_clip : IsClip all_coordinates
all_clip = record { left = omega (arith, ints); across = omega (arith, ints); right = omega (arith, ints); bottom = omega (arith, ints); up = omega (arith, ints); top = omega (arith, ints) }
