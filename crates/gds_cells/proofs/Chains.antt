-- Chains of references.
use Rattle.std.proofs.Common.{◌≡◌, ℕ, zero, suc, ◌+◌, ◌<◌, length, refl, sym, subst, arith}
use Rattle.gds_cells.specs.Graphs.{Graph, next, item, IsChain, IsReached}

pub chain_ends : (g : Graph) (n c d k : ℕ) → IsChain g n c d → k < length (next g d) → IsChain g (suc n) c (item (next g d) k)
chain_ends g zero c d k e within = subst (λ x. IsChain g 1 x (item (next g d) k)) (sym e) (k, within, refl)
chain_ends g (suc n) c d k (j, in_row, chain) within = (j, in_row, chain_ends g n (item (next g c) j) d k chain within)

from_zero : (m : ℕ) → m ≡ 0 + m
from_zero m = omega arith

one_more : (n m : ℕ) → suc (n + m) ≡ suc n + m
one_more n m = omega arith

pub chain_joins : (g : Graph) (n m c d e : ℕ) → IsChain g n c d → IsChain g m d e → IsChain g (n + m) c e
chain_joins g zero m c d e is chain =
    subst (λ n. IsChain g n c e) (from_zero m) (subst (λ x. IsChain g m x e) (sym is) chain)
chain_joins g (suc n) m c d e (j, in_row, first) chain =
    subst (λ l. IsChain g l c e) (one_more n m)
    (j, in_row, chain_joins g n m (item (next g c) j) d e first chain)

pub reached_next : (g : Graph) (t c k : ℕ) → IsReached g t c → k < length (next g c) → IsReached g t (item (next g c) k)
reached_next g t c k (n, chain) within = (suc n, chain_ends g n t c k chain within)
