use Rattle.std.proofs.Common.{rules, FitsSigned, w64}
use Rattle.fill_base.proofs.Signed.{read_is}
use Rattle.fill_text.proofs.Ranges.{set_within}
use Rattle.fill_text.proofs.rules.Numbers.with_value.Goals as goal

pub new-requires-clause-low : goal.new-requires-clause-low
new-requires-clause-low c =
    let fits : FitsSigned w64 c.args.number = search rules in
    rw (c.index.ensures.index, read_is c.args.number fits)
    (λ key. (set_within c.args.self.now.values c.args.key c.args.number (λ k. (c.args.self.now.low k, c.args.self.now.high k)) c.requires key).0)

pub new-requires-clause-high : goal.new-requires-clause-high
new-requires-clause-high c =
    let fits : FitsSigned w64 c.args.number = search rules in
    rw (c.index.ensures.index, read_is c.args.number fits)
    (λ key. (set_within c.args.self.now.values c.args.key c.args.number (λ k. (c.args.self.now.low k, c.args.self.now.high k)) c.requires key).1)
