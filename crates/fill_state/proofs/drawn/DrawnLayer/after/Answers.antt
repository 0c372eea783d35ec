use Rattle.fill_region.specs.Runs.{holds}
use Rattle.fill_state.specs.Layers.{in_layer}
use Rattle.fill_state.proofs.Drawing.{beside_stays}
use Rattle.fill_state.proofs.drawn.DrawnLayer.after.Goals as goal

pub invariant_of-result : goal.invariant_of-result
invariant_of-result c = λ x y.
    let d = c.self.inside in
    rw (c.in_ok-beside_edited.ensures x y, c.in_ok-metal_edited.ensures x y, c.in_ok-share.ensures, c.region.ensures)
    (beside_stays c.args.edit (in_layer d.metal) (holds d.existing) (in_layer d.beside) x y (c.self.invariant x y))
