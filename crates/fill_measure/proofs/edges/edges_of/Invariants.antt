use Rattle.std.proofs.Common.{take, All}
use Rattle.std.specs.List.{flat_map}
use Rattle.std.specs.Vec.{vec_items}
use Rattle.fill_base.specs.Coordinates.{IsCoordinate}
use Rattle.fill_measure.specs.steps.Edges.{HoldEdges}
use Rattle.fill_measure.proofs.edges.edges_of.Given as goal

abbrev pub invariant-loop-list : goal.invariant-loop-list
invariant-loop-list l = All IsCoordinate l.edges.items × HoldEdges l.direction (flat_map vec_items (take l.list-index l.lists)) l.edges.items
