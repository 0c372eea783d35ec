-- The search for the first place of a row that is marked, or that is not.
use Rattle.std.proofs.Common.{◌≡◌, refl, ℤ, pos, ◌+ℤ◌, ◌≤ℤ◌, ◌<ℤ◌, arith, Bool, true, false, ◌⊎◌, inl, inr, w64, FitsSigned}
use Rattle.std.specs.Prelude.{not}
use Rattle.std.proofs.Math.Bool.{beq}
use Rattle.std.proofs.lemmas.Bool.{and_parts, and_from}
use Rattle.std.proofs.lemmas.Int.{ints}
use Rattle.fill_base.specs.Counts.{is_between}
use Rattle.fill_base.proofs.Between.{is_between_bounds, is_between_true}
use Rattle.fill_raster.specs.Marks.{in_block}
use Rattle.fill_raster.specs.declared.block.Block.{Block}

pub same_if : (a b : Bool) → beq a b ≡ true → a ≡ b
same_if true true e = refl
same_if false false e = refl
same_if true false e = cc e
same_if false true e = cc e

pub other_if : (a b : Bool) → beq a b ≡ false → a ≡ not b
other_if true true e = cc e
other_if false false e = cc e
other_if true false e = refl
other_if false true e = refl

-- a place between another of the block's and the block's edge
pub on_the_right : (b : Block) (p i j : ℤ) → in_block b p j ≡ true → p ≤ℤ i → i <ℤ b.right → in_block b i j ≡ true
on_the_right b p i j inside from to =
    let parts = and_parts (is_between b.left b.right p) (is_between b.bottom b.top j) inside in
    let low = (is_between_bounds b.left b.right p parts.0).0 in
    and_from _ _ (is_between_true b.left b.right i (chain b.left p i low from) to) parts.1
  where
    chain : (a p i : ℤ) → a ≤ℤ p → p ≤ℤ i → a ≤ℤ i
    chain a p i h k = omega (arith, ints)

pub before_edge : (b : Block) (k j : ℤ) → in_block b k j ≡ true → k <ℤ b.right
before_edge b k j inside = (is_between_bounds b.left b.right k (and_parts (is_between b.left b.right k) (is_between b.bottom b.top j) inside).0).1

pub before_it : (a b c : ℤ) → a <ℤ b → b ≤ℤ c → a <ℤ c
before_it a b c h k = omega (arith, ints)

pub step_fits : (i right : ℤ) → FitsSigned w64 i → i <ℤ right → right ≤ℤ pos 2147483648 → FitsSigned w64 (i +ℤ pos 1)
step_fits i right fits below most = omega (arith, ints)

pub one_on : (p i : ℤ) → p ≤ℤ i → p ≤ℤ (i +ℤ pos 1)
one_on p i from = omega (arith, ints)

pub here : (p : ℤ) → p ≤ℤ p
here p = omega (arith, ints)

pub none_between : (test : ℤ → Bool) (m : Bool) (p k : ℤ) → p ≤ℤ k → k <ℤ p → test k ≡ not m
none_between test m p k from to = absurd (never p k from to)
  where
    never : (p k : ℤ) → p ≤ℤ k → k <ℤ p → ⊥
    never p k from to = omega (arith, ints)

-- one place more that isn't as asked
pub one_passed : (test : ℤ → Bool) (m : Bool) (p i : ℤ) → ((k : ℤ) → p ≤ℤ k → k <ℤ i → test k ≡ not m) → test i ≡ not m
    → (k : ℤ) → p ≤ℤ k → k <ℤ (i +ℤ pos 1) → test k ≡ not m
one_passed test m p i before this k from to = elim (cases i k to) [
  | inl below ↦ before k from below
  | inr is ↦ rw is this
]
  where
    cases : (i k : ℤ) → k <ℤ (i +ℤ pos 1) → (k <ℤ i) ⊎ (k ≡ i)
    cases i k to = grind (arith, ints)
