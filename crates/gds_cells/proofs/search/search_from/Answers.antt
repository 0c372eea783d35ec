use Rattle.std.proofs.Common.{rules, arith, length}
use Rattle.std.proofs.lemmas.Grind.{common_steps}
use Rattle.gds_cells.specs.steps.Rows.{rows, state_of}
use Rattle.gds_cells.proofs.Searched.{begins}
use Rattle.gds_cells.proofs.SearchTurns.{less_left}
use Rattle.gds_cells.proofs.search.search_from.Goals as goal

pub cells-init : goal.cells-init
cells-init c = begins (rows c.args.graph.now) c.args.top (length c.args.graph.now) (state_of c.in_ok-found.found)
    (grind (arith, common_steps)) c.requires.top c.in_ok-found.ensures

pub cells-smaller : goal.cells-smaller
cells-smaller c = less_left (rows c.args.graph.now) c.args.top (state_of c.cells.found) (state_of c.step.new.search) (search rules) (search rules)
