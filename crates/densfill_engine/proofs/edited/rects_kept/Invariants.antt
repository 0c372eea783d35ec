use Rattle.std.proofs.Common.{◌≡◌, ℤ, take}
use Rattle.fill_region.specs.Squares.{covered}
use Rattle.fill_parts.specs.PartFill.{layers_with}
use Rattle.densfill_engine.specs.Laws.{no_layers}
use Rattle.densfill_engine.proofs.edited.rects_kept.Given as goal

abbrev pub invariant-loop-edit : goal.invariant-loop-edit
invariant-loop-edit l = (x y : ℤ) → covered l.rects.items x y ≡ (layers_with (take l.edit-index l.edits) no_layers).keep x y
