use Rattle.std.proofs.Common.{◌≡◌, ℕ, ◌-◌, ◌^◌, ◌<◌, ◌%◌, bit_and, arith, inl, inr, lit<, ap, sym, ◌∙◌}
use Rattle.std.specs.Prelude.{◌⊎◌}
use Rattle.std.proofs.lemmas.Nat.{and_mask}
use Rattle.std.proofs.Math.Nat.{one-le-pow}
use Rattle.gds_record.specs.Reals.{fraction, exponent}
use Rattle.gds_record.proofs.Magnitudes.{small, out_of_range, divides, divided}
use Rattle.gds_record.proofs.reals.magnitude.Goals as goal

masked : (bits : ℕ) → bit_and bits (2 ^ 56 - 1) ≡ fraction bits
masked bits = and_mask bits 56

pub pow-unit-requires : goal.pow-unit-requires
pow-unit-requires c = small _ (omega arith)

pub returns-then-exponent-lt65-clause-none : goal.returns-then-exponent-lt65-clause-none
returns-then-exponent-lt65-clause-none c = λ n h.
    let bits = c.args.bits in
    let outside : (exponent bits < 65) ⊎ (78 < exponent bits) = elim c.then-exponent-lt65.either [ inl lt ↦ inl lt | inr p ↦ inr p.1 ] in
    out_of_range (fraction bits) (exponent bits) n (λ z. c.if-fraction-eq0.false (masked bits ∙ z)) (omega arith) outside h

pub nonzero_rem-fraction : goal.nonzero_rem-fraction
nonzero_rem-fraction c = rw c.pow-unit.ensures (one-le-pow (78 - exponent c.args.bits) 16 (lit< tt))

pub returns-then-fraction-unit-eq0-clause-some : goal.returns-then-fraction-unit-eq0-clause-some
returns-then-fraction-unit-eq0-clause-some c =
    let bits = c.args.bits in
    rw (masked bits) (divides (fraction bits) (exponent bits) c.pow-unit.result c.if-exponent-gt78.false c.pow-unit.ensures (sym (ap (λ x. x % c.pow-unit.result) (masked bits)) ∙ c.if-fraction-unit-eq0.true))

pub returns-else-fraction-unit-eq0-clause-none : goal.returns-else-fraction-unit-eq0-clause-none
returns-else-fraction-unit-eq0-clause-none c = λ n h.
    let bits = c.args.bits in
    absurd (c.if-fraction-unit-eq0.false (ap (λ x. x % c.pow-unit.result) (masked bits) ∙ divided (fraction bits) (exponent bits) n c.pow-unit.result c.if-exponent-gt78.false c.pow-unit.ensures h))
