-- Areas of sets of which one is part of the other.
use Rattle.std.proofs.Common.{◌≡◌, refl, ◌+◌, ℤ, Bool, true, false, cond, ◌&&◌, ◌||◌}
use Rattle.std.specs.Prelude.{not}
use Rattle.fill_base.specs.Counts.{count_between}
use Rattle.fill_base.specs.Squares.{area_between}
use Rattle.fill_base.proofs.Counting.{sum_between_add}

-- a set that is two others, square by square
pub area_parts : (p q r : ℤ → ℤ → Bool) (left bottom right top : ℤ) → ((x y : ℤ) → cond (p x y) 1 0 ≡ cond (q x y) 1 0 + cond (r x y) 1 0)
    → area_between p left bottom right top ≡ area_between q left bottom right top + area_between r left bottom right top
area_parts p q r left bottom right top each =
    sum_between_add (λ y. count_between (λ x. q x y) left right) (λ y. count_between (λ x. r x y) left right) (λ y. count_between (λ x. p x y) left right) bottom top
    (λ y. sum_between_add (λ x. cond (q x y) 1 0) (λ x. cond (r x y) 1 0) (λ x. cond (p x y) 1 0) left right (λ x. each x y))

-- one square
pub come : (p q : Bool) → (p ≡ true → q ≡ true → ⊥) → cond (p || q) 1 0 ≡ cond p 1 0 + cond q 1 0
come true true h = absurd (h refl refl)
come true false h = refl
come false true h = refl
come false false h = refl

pub gone : (p q : Bool) → (q ≡ true → p ≡ true) → cond p 1 0 ≡ cond (p && not q) 1 0 + cond q 1 0
gone true true h = refl
gone true false h = refl
gone false true h = let e : false ≡ true = h refl in cc
gone false false h = refl

pub more : (p r : Bool) → cond (p || r) 1 0 ≡ cond p 1 0 + cond (r && not p) 1 0
more true true = refl
more true false = refl
more false true = refl
more false false = refl

pub less : (p r : Bool) → cond p 1 0 ≡ cond (p && not r) 1 0 + cond (p && r) 1 0
less true true = refl
less true false = refl
less false true = refl
less false false = refl
