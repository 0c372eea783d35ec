use Rattle.std.proofs.Common.{arith, ◌<◌}
use Rattle.fill_text.proofs.Digits.{below_power, digit_fits}
use Rattle.fill_text.proofs.numbers.natural.Goals as goal

pub overflow_mul-n : goal.overflow_mul-n
overflow_mul-n c = let h = below_power c.loop-c.n c.loop-c.c-index 17 c.loop-c.invariant.fits (omega arith) in omega (arith, h)

pub overflow_add-n : goal.overflow_add-n
overflow_add-n c =
    let digit : c.from.result < 10 = omega (arith, c.if-not-is_ascii_digit.ensures.cases) in
    let h = digit_fits c.loop-c.n c.loop-c.c-index c.from.result c.loop-c.invariant.fits (omega arith) digit in
    omega (arith, h)

pub returns-clause-small : goal.returns-clause-small
returns-clause-small c = below_power c.loop-c.n c.loop-c.c-index 18 c.loop-c.invariant.fits (omega arith)
