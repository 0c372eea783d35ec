use Rattle.std.proofs.Common.{ℤ, take, All}
use Rattle.std.specs.List.{Contains}
use Rattle.fill_base.specs.Coordinates.{IsCoordinate}
use Rattle.fill_measure.specs.steps.Edges.{HoldEdges}
use Rattle.fill_measure.proofs.edges.put_edges.Given as goal

abbrev pub invariant-loop-rect : goal.invariant-loop-rect
invariant-loop-rect l = All IsCoordinate l.numbers.items × (((z : ℤ) → Contains l.fn.numbers.items z → Contains l.numbers.items z) × HoldEdges l.direction (take l.rect-index l.rects) l.numbers.items)
