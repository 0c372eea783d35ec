-- Rectangles in rising order.
use Rattle.std.proofs.Common.{◌≡◌, ℕ, ℤ, ◌≤ℤ◌, ◌<ℤ◌, List, get_or, arith, true, false, Ordering, Less, Equal, Greater, take, drop, ◌++◌, subst}
use Rattle.std.specs.Prelude.{int_le}
use Rattle.std.specs.Cmp.{int_ranks}
use Rattle.std.specs.Fn.{Called, ComputesKey}
use Rattle.std.specs.List.Sorted.{IsPermutation, IsSortedByKey, IsPartitionedBy, IsPartitionPoint}
use Rattle.std.specs.Ordering.{MatchOrdering, int_cmp, is_lt}
use Rattle.std.proofs.lemmas.Cmp.{int_cmp_total}
use Rattle.std.proofs.lemmas.Fn.{always_returns_same}
use Rattle.std.proofs.lemmas.Int.{ints}
use Rattle.std.proofs.lemmas.List.{take-append-drop}
use Rattle.std.proofs.lemmas.List.Sorted.{sorted_far, ranks_by, IsPermutation-append_comm}
use Rattle.fill_base.specs.declared.rect.Rect.{Rect}
use Rattle.fill_base.proofs.Signed.{not_le}
use Rattle.fill_spans.specs.Columns.{IsRisingBy}
use denote.Param.Members.{Mut}
use denote.Ref.{Bor}

pub not_less : (a b : ℤ) → is_lt (int_cmp a b) ≡ false → b ≤ℤ a
not_less a b h = decide (int_cmp a b) (int_ranks a b) h
  where
    decide : (o : Ordering) → MatchOrdering o (a <ℤ b) (a ≡ b) (b <ℤ a) → is_lt o ≡ false → b ≤ℤ a
    decide Less m h = cc
    decide Equal m h = omega (arith, ints)
    decide Greater m h = omega (arith, ints)

-- from the clause `sorted` of `sort_by_key`, where each call gives the number of the rectangle
pub rising_from_sort : (number : Rect → ℤ) → {F : Type 0} {g : Mut F (Bor Rect × Unit {0}) ℤ} {f : F} (rects : List Rect)
    → ((key : Rect → ℤ) → ComputesKey g key f → IsSortedByKey key int_cmp rects)
    → ((a : Bor Rect × Unit {0}) (r : ℤ) (f' : F) → Called g f a r f' → (r ≡ number a.0.now) × (f' ≡ f)) → IsRisingBy number rects
rising_from_sort number {g = g} {f = f} rects up h i j d le lt =
    not_less (number (get_or rects j d)) (number (get_or rects i d))
    (sorted_far (λ p q. is_lt (int_cmp (number p) (number q))) (ranks_by int_cmp_total number) rects (up number (always_returns_same g (λ a r. r ≡ number a.0.now) f h)) i j d le lt)

-- what `partition_point` asks of rectangles by their lower edges, and what it answers
pub begun_first : (rects : List Rect) (line : ℤ) → IsRisingBy (λ r. r.y1) rects → IsPartitionedBy (λ r. int_le r.y1 line) rects
begun_first rects line rising i j d le lt h = le_le (get_or rects i d).y1 (get_or rects j d).y1 line (rising i j d le lt) h
  where
    le_le : (a b c : ℤ) → a ≤ℤ b → int_le b c ≡ true → int_le a c ≡ true
    le_le a b c h k = grind (arith, ints)

pub begun_parted : (rects : List Rect) (line : ℤ) (n : ℕ) → IsPartitionPoint (λ r. int_le r.y1 line ≡ true) (λ r. int_le r.y1 line ≡ false) rects n
    → IsPartitionPoint (λ r. r.y1 ≤ℤ line) (λ r. line <ℤ r.y1) rects n
begun_parted rects line n point = ((λ k d low high. yes (get_or rects k d).y1 line (point.0 k d low high)), (λ k d low high. not_le line (get_or rects k d).y1 (point.1 k d low high)))
  where
    yes : (a b : ℤ) → int_le a b ≡ true → a ≤ℤ b
    yes a b h = grind (arith, ints)

-- the last of a list moved to its front
pub rotated : (rects turned : List Rect) (n : ℕ) → turned ≡ drop n rects ++ take n rects → IsPermutation rects turned
rotated rects turned n is = rw is (subst (λ z. IsPermutation z (drop n rects ++ take n rects)) (take-append-drop n rects) (IsPermutation-append_comm (take n rects) (drop n rects)))
