-- Edges in rising order.
use Rattle.std.proofs.Common.{◌≡◌, ℕ, ℤ, ◌≤ℤ◌, ◌<ℤ◌, List, get_or, arith, true, false}
use Rattle.std.specs.Prelude.{int_le}
use Rattle.std.specs.Fn.{Called, ComputesKey}
use Rattle.std.specs.List.Sorted.{IsSortedByKey, IsPartitionedBy, IsPartitionPoint}
use Rattle.std.specs.Ordering.{int_cmp, is_lt}
use Rattle.std.proofs.lemmas.Cmp.{int_cmp_total}
use Rattle.std.proofs.lemmas.Fn.{always_returns_same}
use Rattle.std.proofs.lemmas.Int.{ints}
use Rattle.std.proofs.lemmas.List.Sorted.{sorted_far, ranks_by}
use Rattle.gds_shape.specs.declared.edge.Edge.{Edge}
use Rattle.fill_base.proofs.Signed.{not_le}
use Rattle.fill_bands.proofs.Ordered.{not_less}
use Rattle.gds_shape.specs.steps.Edges.{AreRisingBy}
use denote.Param.Members.{Mut}
use denote.Ref.{Bor}

-- from the clause `sorted` of `sort_by_key`, where each call gives the number of the edge
pub rising_from_sort : (number : Edge → ℤ) → {F : Type 0} {g : Mut F (Bor Edge × Unit {0}) ℤ} {f : F} (edges : List Edge)
    → ((key : Edge → ℤ) → ComputesKey g key f → IsSortedByKey key int_cmp edges)
    → ((a : Bor Edge × Unit {0}) (r : ℤ) (f' : F) → Called g f a r f' → (r ≡ number a.0.now) × (f' ≡ f)) → AreRisingBy number edges
rising_from_sort number {g = g} {f = f} edges up h i j d le lt =
    not_less (number (get_or edges j d)) (number (get_or edges i d))
    (sorted_far (λ p q. is_lt (int_cmp (number p) (number q))) (ranks_by int_cmp_total number) edges (up number (always_returns_same g (λ a r. r ≡ number a.0.now) f h)) i j d le lt)

-- what `partition_point` asks of edges by their lower edges, and what it answers
pub begun_first : (edges : List Edge) (line : ℤ) → AreRisingBy (λ e. e.bottom) edges → IsPartitionedBy (λ e. int_le e.bottom line) edges
begun_first edges line rising i j d le lt h = le_le (get_or edges i d).bottom (get_or edges j d).bottom line (rising i j d le lt) h
  where
    le_le : (a b c : ℤ) → a ≤ℤ b → int_le b c ≡ true → int_le a c ≡ true
    le_le a b c h k = grind (arith, ints)

pub begun_parted : (edges : List Edge) (line : ℤ) (n : ℕ) → IsPartitionPoint (λ e. int_le e.bottom line ≡ true) (λ e. int_le e.bottom line ≡ false) edges n
    → IsPartitionPoint (λ e. e.bottom ≤ℤ line) (λ e. line <ℤ e.bottom) edges n
begun_parted edges line n point = ((λ k d low high. yes (get_or edges k d).bottom line (point.0 k d low high)), (λ k d low high. not_le line (get_or edges k d).bottom (point.1 k d low high)))
  where
    yes : (a b : ℤ) → int_le a b ≡ true → a ≤ℤ b
    yes a b h = grind (arith, ints)
