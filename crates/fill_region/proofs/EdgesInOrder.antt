-- Edges of a row, as the code reads them.
use Rattle.std.proofs.Common.{◌≡◌, ℕ, ◌+◌, ◌<◌, ℤ, ◌≤ℤ◌, ◌<ℤ◌, List, length, arith}
use Rattle.std.proofs.lemmas.Int.{ints}
use Rattle.fill_base.specs.Coordinates.{lowest, highest}
use Rattle.fill_base.proofs.Signed.{read, read32, read_is, read32_is}
use Rattle.fill_spans.specs.Spans.{floor, ceiling, next_edge, IsCanonical}
use Rattle.fill_spans.proofs.Chains.{chain_within, chain_next}

-- two numbers between floor and ceiling, as the code reads them
pub record InOrder (p q : ℤ) : Type 0 where
  pub wide : p <ℤ q
  pub low : lowest ≤ℤ p
  pub high : q ≤ℤ highest

in_order : (a b : ℤ) → floor <ℤ a → a <ℤ b → b <ℤ ceiling → InOrder a b
in_order a b low wide high = record { wide = wide; low = omega (arith, ints); high = omega (arith, ints) }

reads32 : (a : ℤ) → floor <ℤ a → a <ℤ ceiling → read32 a ≡ a
reads32 a low high = read32_is a (omega (arith, ints))

reads : (a : ℤ) → floor <ℤ a → a <ℤ ceiling → read a ≡ a
reads a low high = read_is a (omega (arith, ints))

pub edges_in_order : (es : List ℤ) (k : ℕ) (a b p q : ℤ) → IsCanonical es → k + 1 < length es → a ≡ next_edge es k → b ≡ next_edge es (k + 1)
    → p ≡ read32 a → q ≡ read32 b → InOrder (read p) (read q)
edges_in_order es k a b p q canonical within a_is b_is p_is q_is =
    let left = chain_within floor ceiling es k (omega arith) canonical.rising in
    let right = chain_within floor ceiling es (k + 1) within canonical.rising in
    rw (p_is, q_is, a_is, b_is, reads32 _ left.0 left.1, reads32 _ right.0 right.1, reads _ left.0 left.1, reads _ right.0 right.1)
    (in_order _ _ left.0 (chain_next floor ceiling es k (omega arith) canonical.rising) right.1)
