use Rattle.std.proofs.Common.{sym, ap, ◌∙◌}
use Rattle.fill_base.proofs.Signed.{read32}
use Rattle.fill_spans.specs.Spans.{ceiling}
use Rattle.fill_bands.proofs.Stack.{bottom_at, bottom_past}
use Rattle.fill_bands.proofs.SweepTurns.{bottom_read}
use Rattle.fill_bands.proofs.bands.bottom_at.Goals as goal

pub returns-then-k-bands : goal.returns-then-k-bands
returns-then-k-bands c =
    ap read32 (sym (bottom_at ceiling c.args.bands.now c.args.k c.index-bands-k.result c.if-k-bands.true)) ∙ bottom_read c.args.bands.now c.args.k c.requires

pub returns-else-k-bands : goal.returns-else-k-bands
returns-else-k-bands c = sym (bottom_past ceiling c.args.bands.now c.args.k c.if-k-bands.false)
