use Rattle.std.proofs.Common.{sym}
use Rattle.std.proofs.lemmas.Result.{IfOk-weaker}
use Rattle.fill_bands.specs.Squares.{covered}
use Rattle.fill_region.specs.Operands.{wanted}
use Rattle.fill_region.proofs.Members.{runs_alike}
use Rattle.fill_region.proofs.clips.runs_of.Goals as goal

pub returns : goal.returns
returns c = IfOk-weaker c.runs_alone.result _ _ (λ v are. runs_alike (covered c.args.rects.items) (wanted c.of_list.result) v.items (λ x y. sym (c.of_list.ensures x y)) are) c.runs_alone.ensures
