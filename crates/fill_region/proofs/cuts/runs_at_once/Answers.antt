use Rattle.std.proofs.lemmas.Result.{IfOk-weaker}
use Rattle.fill_region.specs.Operands.{wanted}
use Rattle.fill_region.specs.Squares.{covered}
use Rattle.fill_region.proofs.Members.{runs_alike}
use Rattle.fill_region.proofs.cuts.runs_at_once.Goals as goal

pub returns-then-keeps_first : goal.returns-then-keeps_first
returns-then-keeps_first c = IfOk-weaker c.runs_swept.result _ _ (λ v are. runs_alike (wanted c.args.operands.now) (covered c.args.operands.now.first.items) v.items (c.keeps_first.ensures c.if-keeps_first.true) are) (rw (c.deref.ensures.value) at c.runs_swept.ensures)
