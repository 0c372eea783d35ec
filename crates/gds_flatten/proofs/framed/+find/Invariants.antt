use Rattle.std.proofs.Common.{◌*◌, ◌+◌, ◌-◌, take}
use Rattle.std.specs.List.{flat_map}
use Rattle.gds_cells.specs.Copies.{copies}
use Rattle.gds_cells.specs.steps.Walks.{hierarchy, link_copies}
use Rattle.gds_flatten.specs.steps.Finding.{IsFound}
use Rattle.gds_flatten.proofs.framed.+find.Given as goal

abbrev pub decreases-find_cell : goal.decreases-find_cell
decreases-find_cell l = 8589934592 * l.depth

abbrev pub decreases-find_turns : goal.decreases-find_turns
decreases-find_turns l = 8589934592 * l.turns.now.depth + 1 + l.turns.now.number

abbrev pub invariant-find_cell-links : goal.invariant-find_cell-links
invariant-find_cell-links l =
    IsFound l.framed (flat_map (link_copies l.at (copies (hierarchy l.framed.cells.now) (l.depth - 1))) (take l.link-index l.links)) l.initial.found l.found
