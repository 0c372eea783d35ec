use Rattle.std.proofs.Common.{sym, ◌∙◌}
use Rattle.fill_bands.proofs.Stack.{last_before}
use Rattle.fill_bands.proofs.bands.row_before.Goals as goal

pub returns-then-k-gt0 : goal.returns-then-k-gt0
returns-then-k-gt0 c = c.spans.ensures ∙ sym (last_before _ c.args.bands.now c.args.k c.index-bands-k.result c.if-k-gt0.true c.requires.within)
