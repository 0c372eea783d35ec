use Rattle.std.proofs.Common.{rules, FitsSigned, w64}
use Rattle.fill_base.proofs.Signed.{read_is}
use Rattle.fill_text.proofs.rules.Rules.number.Goals as goal

pub returns-clause-low : goal.returns-clause-low
returns-clause-low c =
    let fits : FitsSigned w64 c.value.result = search rules in
    rw (read_is c.value.result fits, c.value.ensures) (c.args.self.now.numbers.low c.args.key)

pub returns-clause-high : goal.returns-clause-high
returns-clause-high c =
    let fits : FitsSigned w64 c.value.result = search rules in
    rw (read_is c.value.result fits, c.value.ensures) (c.args.self.now.numbers.high c.args.key)
