use Rattle.std.proofs.Common.{rules, subst}
use Rattle.gds_cells.specs.Graphs.{item}
use Rattle.gds_cells.specs.steps.Heights.{IsHeight}
use Rattle.gds_cells.specs.steps.Rows.{rows}
use Rattle.gds_cells.proofs.HeightsInOrder.{deep_told}
use Rattle.gds_cells.proofs.heights.is_too_deep.Goals as goal

pub returns : goal.returns
returns c =
    let (q, within, is) = c.requires.top in
    let at_top = subst (λ x. IsHeight (rows c.args.graph.now) x (item c.in_ok-heights.heights.items x)) is (c.in_ok-heights.ensures q within) in
    deep_told (rows c.args.graph.now) c.args.top (item c.in_ok-heights.heights.items c.args.top) c.number_at.result at_top (search rules)
