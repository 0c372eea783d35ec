use Rattle.std.proofs.Common.{sym, ◌∙◌}
use Rattle.gds_record.proofs.Trimming.{without_zero, stays}
use Rattle.gds_record.proofs.names.name.Goals as goal

pub loop-last-preserved : goal.loop-last-preserved
loop-last-preserved c = without_zero _ _ _ c.in-Some.ensures.cases.0 c.if-last-ne0.false ∙ c.loop-last.invariant

pub returns-then-last-ne0 : goal.returns-then-last-ne0
returns-then-last-ne0 c = sym (stays _ _ _ c.in-Some.ensures.cases.0 c.if-last-ne0.true) ∙ c.loop-last.invariant
