use Rattle.std.proofs.Common.{◌≤◌, ◌*◌, ◌+◌, ◌-◌}
use Rattle.std.specs.List.{flat_map, range_with_len}
use Rattle.gds_cells.specs.Copies.{copies}
use Rattle.gds_cells.specs.steps.Walks.{hierarchy, link_copies, part, IsDrawn}
use Rattle.gds_flatten.specs.steps.Roots.{turn_copies}
use Rattle.gds_flatten.proofs.Sharing.{IsShared}
use Rattle.gds_flatten.proofs.walk.+carry.Given as goal

abbrev pub decreases-carry_cell : goal.decreases-carry_cell
decreases-carry_cell l = 2 * l.depth

abbrev pub decreases-carry_turns : goal.decreases-carry_turns
decreases-carry_turns l = 2 * l.turns.now.depth + 1

abbrev pub invariant-carry_cell-links : goal.invariant-carry_cell-links
invariant-carry_cell-links l =
    IsShared (link_copies l.at (copies (hierarchy l.cells) (l.depth - 1))) l.links l.link-index
    l.initial.rest.from l.initial.rest.to l.rest.from l.rest.to l.initial.out.items l.out.items

abbrev pub invariant-carry_turns-turns : goal.invariant-carry_turns-turns
invariant-carry_turns-turns l = record {
  within : l.turn ≤ l.turns.number;
  drawn : IsDrawn (part l.stretch.from l.stretch.to (flat_map (λ k. turn_copies l.cells l.turns (l.turns.first + k)) (range_with_len 0 l.turn))) l.initial.out.items l.out.items;
}
