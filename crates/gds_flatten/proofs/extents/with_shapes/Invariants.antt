use Rattle.std.proofs.Common.{map, take}
use Rattle.std.specs.Prelude.{◌↔◌}
use Rattle.gds_shape.specs.declared.bounds.Bounds.{Bounds}
use Rattle.gds_cells.specs.Copies.{own_copy}
use Rattle.gds_cells.specs.steps.Built.{own_of}
use Rattle.gds_flatten.specs.steps.Framing.{IsFineIf, IsAround, IsHeld, Fits, FitAll}
use Rattle.gds_flatten.proofs.extents.with_shapes.Given as goal

abbrev pub invariant-shapes : goal.invariant-shapes
invariant-shapes l = record {
  fine : IsFineIf l.extent;
  kept : IsAround l.extent l.fn.before;
  held : IsHeld (map own_copy (own_of (take l.shape-index l.shapes))) l.extent;
  tight : (w : Bounds) → Fits w l.extent ↔ (Fits w l.fn.before × FitAll w (map own_copy (own_of (take l.shape-index l.shapes))));
}
