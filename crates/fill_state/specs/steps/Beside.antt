-- The existing fill that isn't metal too.
use Rattle.std.specs.Prelude.{◌≡◌, ℤ, ◌&&◌, ◌||◌, not}
use Rattle.fill_base.specs.Squares.{squares}
use Rattle.fill_region.specs.Runs.{holds}
use Rattle.fill_text.specs.declared.script.Edit.{Edit}
use Rattle.fill_text.specs.declared.script.Edit.TheVariants.{Add, Cut, Keep}
use Rattle.fill_job.specs.Plans.{PointSet}
use Rattle.fill_state.specs.Layers.{Drawn, Layered, in_layer}

-- the layer has what of the existing fill is no metal
abbrev pub LiesBeside : Drawn → Layered → Type 0
LiesBeside d beside = (x y : ℤ) → in_layer beside x y ≡ holds d.existing x y && not (in_layer d.metal x y)

-- added metal covers some of it, and cut metal lays existing fill bare
abbrev pub beside_after : Edit → PointSet → PointSet → PointSet
beside_after (Add r) existing beside x y = beside x y && not (squares r x y)
beside_after (Cut r) existing beside x y = beside x y || (existing x y && squares r x y)
beside_after (Keep r) existing beside x y = beside x y
