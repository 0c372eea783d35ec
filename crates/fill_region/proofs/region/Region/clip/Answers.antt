use Rattle.std.proofs.Common.{◌∙◌}
use Rattle.std.proofs.lemmas.Result.{IfOk-weaker}
use Rattle.fill_base.proofs.Areas.{read_y1, read_y2}
use Rattle.fill_bands.specs.Squares.{covered}
use Rattle.fill_region.specs.Runs.{holds}
use Rattle.fill_region.proofs.RowCuts.{within_frame}
use Rattle.fill_region.proofs.region.Region.clip.Goals as goal

pub of_runs-requires : goal.of_runs-requires
of_runs-requires c = c.runs_level.ensures.some

pub returns : goal.returns
returns c =
    let rect = c.args.rect.now in
    let cover = rw (c.y1.ensures, c.y2.ensures, read_y1 rect, read_y2 rect) at c.runs_level.ensures.cover in
    record {
      squares = IfOk-weaker c.of_runs.result _ _ (λ r h x y. h x y ∙ within_frame (covered c.runs_level.result.now x y) (holds c.args.self.now x y) rect x y (cover x y)) c.of_runs.ensures.squares;
    }
