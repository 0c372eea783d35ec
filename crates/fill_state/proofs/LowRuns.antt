-- The low windows row by row, a run of neighbours of a row at a time.
use Rattle.std.proofs.Common.{◌≡◌, refl, sym, ap, ◌∙◌, ℕ, ◌+◌, ◌*◌, ◌<◌, ◌≤◌, ℤ, pos, arith, inl, inr, List, [], length, get_or, Bool, true, false, ◌&&◌, ◌||◌, ◌↔◌}
use Rattle.std.specs.Prelude.{nat_lt, IsTrue}
use Rattle.std.specs.Ordering.{int_eq}
use Rattle.std.proofs.lemmas.Bool.{and_parts, cases_Bool, cases_eq}
use Rattle.std.proofs.lemmas.Bool.Decides.{nat_tests}
use Rattle.std.proofs.lemmas.Int.{ints}
use Rattle.std.proofs.lemmas.Nat.{mul-add-lt}
use Rattle.fill_base.specs.Counts.{is_between}
use Rattle.fill_base.specs.declared.rect.Rect.{Rect}
use Rattle.fill_base.proofs.Signed.{lt_test}
use Rattle.fill_area.specs.Density.{IsBelow}
use Rattle.fill_area.specs.Grid.{Grid, counted_size}
use Rattle.fill_region.specs.Squares.{covered}
use Rattle.fill_state.specs.Low.{low_by}
use Rattle.fill_state.specs.steps.LowBefore.{AreLowBefore, is_before}

-- ---- one window

lt_yes : (a b : ℕ) → a < b → nat_lt a b ≡ true
lt_yes a b h = grind (arith, h)

yes_lt : (a b : ℕ) → nat_lt a b ≡ true → a < b
yes_lt a b h = grind (arith, h)

-- the place of a window in the list of all is within it
pub place_within : (g : Grid) (totals : List ℤ) (a b : ℕ) → length totals ≡ g.across.count * g.up.count → a < g.across.count → b < g.up.count → b * g.across.count + a < length totals
place_within g totals a b count column row = rw count (mul-add-lt b g.across.count a g.up.count row column)

-- what the test of its share answers
pub low_at : (g : Grid) (least : ℤ) (totals : List ℤ) (a b : ℕ) (size : ℤ) (test : Bool) → a < g.across.count → b < g.up.count → size ≡ counted_size g a b
    → (IsTrue test ↔ IsBelow (get_or totals (b * g.across.count + a) (pos 0)) least size) → test ≡ low_by g least totals a b
low_at g least totals a b size test column row size_is is =
    sym (rw (lt_yes _ _ column, lt_yes _ _ row) (lt_test _ _ test (rw size_is at is)))

low_column : (g : Grid) (least : ℤ) (totals : List ℤ) (a b : ℕ) → low_by g least totals a b ≡ true → a < g.across.count
low_column g least totals a b h = yes_lt a g.across.count (and_parts (nat_lt a g.across.count) _ h).0

low_row : (g : Grid) (least : ℤ) (totals : List ℤ) (a b : ℕ) → low_by g least totals a b ≡ true → b < g.up.count
low_row g least totals a b h = yes_lt b g.up.count (and_parts (nat_lt b g.up.count) _ (and_parts (nat_lt a g.across.count) _ h).1).0

-- ---- columns and rows

in_run : (start end row a b : ℕ) → is_between (pos start) (pos end) (pos a) && int_eq (pos b) (pos row) ≡ true → (start ≤ a) × (a < end) × (b ≡ row)
in_run start end row a b h = grind (arith, ints, nat_tests)

run_before : (start end row a b : ℕ) → start ≤ end → (is_before start row a b || (is_between (pos start) (pos end) (pos a) && int_eq (pos b) (pos row))) ≡ is_before end row a b
run_before start end row a b ordered = grind (arith, ints, nat_tests)

next_before : (column row a b : ℕ) → ((a ≡ column) × (b ≡ row) → ⊥) → is_before column row a b ≡ is_before (column + 1) row a b
next_before column row a b other = grind (arith, nat_tests)

row_before : (columns row a b : ℕ) → a < columns → is_before columns row a b ≡ is_before 0 (row + 1) a b
row_before columns row a b within = grind (arith, nat_tests)

none_before : (a b : ℕ) → is_before 0 0 a b ≡ false
none_before a b = grind (arith, nat_tests)

all_before : (rows a b : ℕ) → b < rows → is_before 0 rows a b ≡ true
all_before rows a b within = grind (arith, nat_tests)

and_no : (p : Bool) → (p && false) ≡ false
and_no true = refl
and_no false = refl

-- ---- sets of windows

-- the windows of the run are low, and come in
run_put : (low was now : ℕ → ℕ → Bool) (start end row : ℕ) → start ≤ end → ((k : ℕ) → start ≤ k → k < end → low k row ≡ true)
    → ((a b : ℕ) → was a b ≡ (low a b && is_before start row a b))
    → ((a b : ℕ) → now a b ≡ (was a b || (is_between (pos start) (pos end) (pos a) && int_eq (pos b) (pos row))))
    → (a b : ℕ) → now a b ≡ (low a b && is_before end row a b)
run_put low was now start end row ordered run before put a b = put a b ∙ (ap (λ p. p || (is_between (pos start) (pos end) (pos a) && int_eq (pos b) (pos row))) (before a b) ∙ elim (cases_Bool (low a b)) [
  | inl on ↦ rw on (run_before start end row a b ordered)
  | inr off ↦ rw off (elim (cases_Bool (is_between (pos start) (pos end) (pos a) && int_eq (pos b) (pos row))) [
    | inl here ↦
        let at = in_run start end row a b here in
        let it : low a b ≡ true = rw at.2 (run a at.0 at.1) in
        let both : true ≡ false = sym it ∙ off in cc
    | inr away ↦ away
  ])
])

-- the window is not low
passed : (low was : ℕ → ℕ → Bool) (column row : ℕ) → low column row ≡ false → ((a b : ℕ) → was a b ≡ (low a b && is_before column row a b))
    → (a b : ℕ) → was a b ≡ (low a b && is_before (column + 1) row a b)
passed low was column row none before a b = before a b ∙ elim (cases_Bool (low a b)) [
  | inl on ↦ rw on (next_before column row a b (λ at. let it : low a b ≡ false = rw (at.0, at.1) none in let both : true ≡ false = sym on ∙ it in cc))
  | inr off ↦ rw off refl
]

-- the row is done
row_done : (low was : ℕ → ℕ → Bool) (columns row : ℕ) → ((a b : ℕ) → low a b ≡ true → a < columns) → ((a b : ℕ) → was a b ≡ (low a b && is_before columns row a b))
    → (a b : ℕ) → was a b ≡ (low a b && is_before 0 (row + 1) a b)
row_done low was columns row within before a b = before a b ∙ elim (cases_Bool (low a b)) [
  | inl on ↦ rw on (row_before columns row a b (within a b on))
  | inr off ↦ rw off refl
]

-- all rows are done
all_done : (low was : ℕ → ℕ → Bool) (rows : ℕ) → ((a b : ℕ) → low a b ≡ true → b < rows) → ((a b : ℕ) → was a b ≡ (low a b && is_before 0 rows a b)) → (a b : ℕ) → was a b ≡ low a b
all_done low was rows within before a b = before a b ∙ elim (cases_Bool (low a b)) [
  | inl on ↦ rw on (all_before rows a b (within a b on))
  | inr off ↦ rw off refl
]

-- ---- the low windows of a grid

-- of a row, the windows before a column: those from `start` on are low, and the low ones further left are in, as are those of the rows below
pub record IsRowSoFar (g : Grid) (least : ℤ) (totals : List ℤ) (start column row : ℕ) (low : List Rect) : Type 0 where
  pub ordered : start ≤ column
  pub run : (k : ℕ) → start ≤ k → k < column → low_by g least totals k row ≡ true
  pub before : AreLowBefore g least totals start row low

abbrev pub WithRun : List Rect → ℕ → ℕ → ℕ → List Rect → Type 0
WithRun was start end row now = (x y : ℤ) → covered now x y ≡ (covered was x y || (is_between (pos start) (pos end) x && int_eq y (pos row)))

-- the windows of the run come in
run_in : (g : Grid) (least : ℤ) (totals : List ℤ) (start column row : ℕ) (low now : List Rect) → IsRowSoFar g least totals start column row low
    → WithRun low start column row now → AreLowBefore g least totals column row now
run_in g least totals start column row low now so_far with =
    run_put (low_by g least totals) (λ a b. covered low (pos a) (pos b)) (λ a b. covered now (pos a) (pos b)) start column row so_far.ordered so_far.run so_far.before (λ a b. with (pos a) (pos b))

-- no window of the row has been looked at
pub none_so_far : (g : Grid) (least : ℤ) (totals : List ℤ) (row : ℕ) (low : List Rect) → AreLowBefore g least totals 0 row low → IsRowSoFar g least totals 0 0 row low
none_so_far g least totals row low before = record { ordered = omega arith; run = λ k from below. absurd (omega (arith, from, below)); before = before }

-- the next one is low
pub one_low : (g : Grid) (least : ℤ) (totals : List ℤ) (start column row : ℕ) (low : List Rect) → low_by g least totals column row ≡ true
    → IsRowSoFar g least totals start column row low → IsRowSoFar g least totals start (column + 1) row low
one_low g least totals start column row low here so_far = record {
  ordered = let o : start ≤ column = so_far.ordered in omega (arith, o);
  run = λ k from below. elim (cases_eq k column) [ inl e ↦ rw e here | inr other ↦ so_far.run k from (omega (arith, below, other)) ];
  before = so_far.before;
}

-- the next one is not, and the run before it comes in
pub one_not_low : (g : Grid) (least : ℤ) (totals : List ℤ) (start column row : ℕ) (low now : List Rect) → low_by g least totals column row ≡ false
    → IsRowSoFar g least totals start column row low → WithRun low start column row now → IsRowSoFar g least totals (column + 1) (column + 1) row now
one_not_low g least totals start column row low now here so_far with = record {
  ordered = omega arith;
  run = λ k from below. absurd (omega (arith, from, below));
  before = passed (low_by g least totals) (λ a b. covered now (pos a) (pos b)) column row here (run_in g least totals start column row low now so_far with);
}

-- the run that ends with the row comes in
pub row_in : (g : Grid) (least : ℤ) (totals : List ℤ) (start column row : ℕ) (low now : List Rect) → column ≡ g.across.count
    → IsRowSoFar g least totals start column row low → WithRun low start column row now → AreLowBefore g least totals 0 (row + 1) now
row_in g least totals start column row low now last so_far with =
    row_done (low_by g least totals) (λ a b. covered now (pos a) (pos b)) column row (λ a b h. rw last (low_column g least totals a b h)) (run_in g least totals start column row low now so_far with)

-- no row has been looked at
pub none_low : (g : Grid) (least : ℤ) (totals : List ℤ) → AreLowBefore g least totals 0 0 []
none_low g least totals a b = rw (none_before a b) (sym (and_no (low_by g least totals a b)))

-- all rows have been
pub all_low : (g : Grid) (least : ℤ) (totals : List ℤ) (row : ℕ) (low : List Rect) → row ≡ g.up.count → AreLowBefore g least totals 0 row low → (a b : ℕ) → covered low (pos a) (pos b) ≡ low_by g least totals a b
all_low g least totals row low last before = all_done (low_by g least totals) (λ a b. covered low (pos a) (pos b)) row (λ a b h. rw last (low_row g least totals a b h)) before
