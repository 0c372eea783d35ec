use Rattle.std.proofs.Common.{rules, ◌∙◌, ◌&&◌, ap, w64, FitsSigned}
use Rattle.std.proofs.lemmas.Result.{IfOk-weaker}
use Rattle.fill_region.specs.Runs.{holds}
use Rattle.fill_area.specs.Grid.{parts_up}
use Rattle.fill_area.specs.Parts.{IsPart}
use Rattle.fill_area.proofs.Clipping.{not_less}
use Rattle.fill_area.proofs.RowByRow.{all_lines, no_lines}
use Rattle.fill_area.proofs.measure.counted_lines.Goals as goal

pub returns-then-bottom-top : goal.returns-then-bottom-top
returns-then-bottom-top c =
    let lines : IsPart (parts_up c.args.windows.now) c.args.b c.extent-bottom.result.0 c.extent-bottom.result.1 = rw c.parts_up.ensures.value at c.extent-bottom.ensures in
    let low : FitsSigned w64 c.extent-bottom.result.0 = search rules in let high : FitsSigned w64 c.extent-bottom.result.1 = search rules in
    IfOk-weaker c.clip.result _ _ (λ r each x y. each x y ∙ ap (λ s. holds c.args.region.now x y && s) (all_lines c.from_edges.result _ _ _ _ c.from_edges.ensures low high lines.begins lines.ends x y)) c.clip.ensures.squares

pub returns-else-bottom-top : goal.returns-else-bottom-top
returns-else-bottom-top c =
    let lines : IsPart (parts_up c.args.windows.now) c.args.b c.extent-bottom.result.0 c.extent-bottom.result.1 = rw c.parts_up.ensures.value at c.extent-bottom.ensures in
    let low : FitsSigned w64 c.extent-bottom.result.0 = search rules in let high : FitsSigned w64 c.extent-bottom.result.1 = search rules in
    rw (← lines.begins, ← lines.ends) (no_lines (holds c.args.region.now) (holds c.empty.result) c.extent-bottom.result.0 c.extent-bottom.result.1 (not_less _ _ low high c.if-bottom-top.false) c.empty.ensures.squares)
