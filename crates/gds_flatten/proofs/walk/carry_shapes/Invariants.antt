use Rattle.std.proofs.Common.{take}
use Rattle.std.specs.List.{flat_map}
use Rattle.gds_cells.specs.steps.Walks.{shape_copies, IsDrawn}
use Rattle.gds_flatten.proofs.walk.carry_shapes.Given as goal

abbrev pub invariant-shapes : goal.invariant-shapes
invariant-shapes l = IsDrawn (flat_map (shape_copies l.at) (take l.shape-index l.shapes)) l.fn.out.items l.out.items
