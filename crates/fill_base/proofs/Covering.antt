-- How many squares of a set lie between four edges.
use Rattle.std.proofs.Common.{◌≡◌, ◌+◌, ◌*◌, ◌≤◌, ℤ, ◌≤ℤ◌, ◌<ℤ◌, refl, arith, Bool, true, false, cond, ◌||◌}
use Rattle.fill_base.specs.Counts.{span_len, count_between}
use Rattle.fill_base.specs.Squares.{area_between}
use Rattle.fill_base.proofs.Counting.{sum_between_split, sum_between_add, sum_between_same, sum_between_const, sum_between_le, count_between_same, count_between_const, count_between_le}

-- an area adds up at a column
pub area_split_across : (p : ℤ → ℤ → Bool) (left mid right bottom top : ℤ) → left ≤ℤ mid → mid ≤ℤ right
    → area_between p left bottom right top ≡ area_between p left bottom mid top + area_between p mid bottom right top
area_split_across p left mid right bottom top low high =
    sum_between_add (λ y. count_between (λ x. p x y) left mid) (λ y. count_between (λ x. p x y) mid right) (λ y. count_between (λ x. p x y) left right) bottom top
    (λ y. sum_between_split (λ x. cond (p x y) 1 0) left mid right low high)

-- and at a row
pub area_split_up : (p : ℤ → ℤ → Bool) (left right bottom mid top : ℤ) → bottom ≤ℤ mid → mid ≤ℤ top
    → area_between p left bottom right top ≡ area_between p left bottom right mid + area_between p left mid right top
area_split_up p left right bottom mid top low high = sum_between_split (λ y. count_between (λ x. p x y) left right) bottom mid top low high

-- no set has more than the rectangle
pub area_few : (p : ℤ → ℤ → Bool) (left bottom right top : ℤ) → area_between p left bottom right top ≤ span_len bottom top * span_len left right
area_few p left bottom right top = sum_between_le (λ y. count_between (λ x. p x y) left right) bottom top (span_len left right) (λ y. count_between_le (λ x. p x y) left right)

-- the empty set has none
pub area_none : (p : ℤ → ℤ → Bool) (left bottom right top : ℤ) → left ≤ℤ right → bottom ≤ℤ top → ((x y : ℤ) → p x y ≡ false) → area_between p left bottom right top ≡ 0
area_none p left bottom right top wide tall none =
    let row = λ (y : ℤ). count_between_const (λ x. p x y) left right false wide (λ x l h. none x y) in
    let all = sum_between_const (λ y. count_between (λ x. p x y) left right) bottom top (span_len left right * 0) tall (λ y l h. row y) in
    omega (arith, all)

-- sets that agree between the lower and the upper edge have the same
pub area_same : (p q : ℤ → ℤ → Bool) (left bottom right top : ℤ) → left ≤ℤ right → bottom ≤ℤ top
    → ((x y : ℤ) → bottom ≤ℤ y → y <ℤ top → p x y ≡ q x y) → area_between p left bottom right top ≡ area_between q left bottom right top
area_same p q left bottom right top wide tall same =
    sum_between_same (λ y. count_between (λ x. p x y) left right) (λ y. count_between (λ x. q x y) left right) bottom top tall
    (λ y low high. count_between_same (λ x. p x y) (λ x. q x y) left right wide (λ x from to. same x y low high))

-- the areas of two sets that share no square add up
pub area_either : (p q : ℤ → ℤ → Bool) (left bottom right top : ℤ) → ((x y : ℤ) → p x y ≡ true → q x y ≡ true → ⊥)
    → area_between (λ x y. p x y || q x y) left bottom right top ≡ area_between p left bottom right top + area_between q left bottom right top
area_either p q left bottom right top apart =
    sum_between_add (λ y. count_between (λ x. p x y) left right) (λ y. count_between (λ x. q x y) left right) (λ y. count_between (λ x. p x y || q x y) left right) bottom top
    (λ y. sum_between_add (λ x. cond (p x y) 1 0) (λ x. cond (q x y) 1 0) (λ x. cond (p x y || q x y) 1 0) left right (λ x. one (p x y) (q x y) (apart x y)))
  where
    one : (a b : Bool) → (a ≡ true → b ≡ true → ⊥) → cond (a || b) 1 0 ≡ cond a 1 0 + cond b 1 0
    one true true h = absurd (h refl refl)
    one true false h = refl
    one false true h = refl
    one false false h = refl
