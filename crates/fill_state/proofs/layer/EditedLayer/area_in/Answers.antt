use Rattle.std.proofs.Common.{◌∙◌, ap, pos}
use Rattle.fill_base.specs.Squares.{area_of}
use Rattle.fill_region.specs.Runs.{holds}
use Rattle.fill_state.specs.Layers.{in_layer}
use Rattle.fill_state.proofs.BoxSums.{few_squares}
use Rattle.fill_state.proofs.Layering.{IsSum, areas, sum}
use Rattle.fill_state.proofs.layer.EditedLayer.area_in.Goals as goal

total : (c : goal.After-area_in-2) → IsSum c.area_in-there.result c.area_in.result c.area_in-2.result (area_of (in_layer c.args.self.now) c.args.window.now)
total c =
    let l = c.self.inside in let w = c.args.window.now in
    rw (← c.self.view_is) (sum (area_of (holds l.opening) w) (area_of (holds l.cut) w) (area_of (holds l.added) w) _ c.area_in-there.result c.area_in.result c.area_in-2.result
    (c.area_in-there.ensures ∙ ap (λ b. pos (area_of (holds b) w)) c.region.ensures) c.area_in.ensures c.area_in-2.ensures (few_squares (holds l.opening) w) (few_squares _ w)
    (areas (holds l.opening) (holds l.cut) (holds l.added) w c.self.invariant.cut c.self.invariant.added))

pub overflow_add-result : goal.overflow_add-result
overflow_add-result c = (total c).fits

pub returns : goal.returns
returns c = (total c).is
