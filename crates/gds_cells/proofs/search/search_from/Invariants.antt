use Rattle.gds_cells.specs.steps.Searches.{IsSearch}
use Rattle.gds_cells.specs.steps.Rows.{rows, state_of, left}
use Rattle.gds_cells.proofs.search.search_from.Given as goal

abbrev pub invariant-cells : goal.invariant-cells
invariant-cells l = IsSearch (rows l.graph) l.top (state_of l.found)

abbrev pub decreases-cells : goal.decreases-cells
decreases-cells l = left (rows l.graph) (state_of l.found)
