use Rattle.std.proofs.Common.{take}
use Rattle.std.specs.List.{flat_map}
use Rattle.gds_flatten.specs.steps.Finding.{IsFound}
use Rattle.gds_cells.specs.steps.Walks.{shape_copies}
use Rattle.gds_flatten.proofs.framed.find_shapes.Given as goal

abbrev pub invariant-shapes : goal.invariant-shapes
invariant-shapes l = IsFound l.framed (flat_map (shape_copies l.at) (take l.shape-index l.shapes)) l.fn.found l.found
