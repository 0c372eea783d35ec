use Rattle.std.proofs.Common.{map, length, arith, ap, ◌∙◌, ◌≡◌}
use Rattle.std.proofs.lemmas.Grind.{common_steps}
use Rattle.gds_grammar.specs.Values.{cell_of}
use Rattle.gds_cells.specs.Designs.{targets}
use Rattle.gds_cells.proofs.Naming.{rows_more}
use Rattle.gds_cells.proofs.graph.graph_of.Goals as goal

pub cells-preserved : goal.cells-preserved
cells-preserved c =
    let many : length (map cell_of c.args.cells.now.entries) ≡ length c.args.cells.now.entries = grind (arith, common_steps) in
    rw c.in_ok-push.ensures.items
    (rows_more (map cell_of c.args.cells.now.entries) c.cells.index c.cells.graph.items c.in_ok-row.row (omega (arith, many, c.cells-test.true, c.len-index-end.ensures.len))
    c.cells.invariant (c.in_ok-row.ensures ∙ ap (targets (map cell_of c.args.cells.now.entries)) c.elements_at.ensures))
