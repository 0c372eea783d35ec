use Rattle.std.proofs.Common.{◌≡◌, ap, subst, ◌∙◌, ◌||◌, ℤ}
use Rattle.std.proofs.Math.Path.{fun_ext}
use Rattle.fill_base.specs.Squares.{area_of}
use Rattle.fill_region.specs.Runs.{holds}
use Rattle.fill_job.specs.Plans.{PointSet}
use Rattle.fill_state.specs.Layers.{in_layer, is_drawn}
use Rattle.fill_state.proofs.Drawing.{either_is, not_both}
use Rattle.fill_state.proofs.Totals.{Together, together}
use Rattle.fill_state.proofs.drawn.DrawnLayer.area_in.Goals as goal

sum : (c : goal.After-area_in-2) → Together (area_of (is_drawn c.args.self.now) c.args.window.now) c.area_in.result c.area_in-2.result
sum c =
    let d = c.self.inside in let w = c.args.window.now in
    let same : (λ (x y : ℤ). in_layer d.metal x y || in_layer d.beside x y) ≡ is_drawn (record { metal = d.metal; existing = d.existing }) =
    fun_ext (λ x. fun_ext (λ y. ap (λ b. in_layer d.metal x y || b) (c.self.invariant x y) ∙ either_is (in_layer d.metal x y) (holds d.existing x y))) in
    let both = together (in_layer d.metal) (in_layer d.beside) w c.area_in.result c.area_in-2.result c.area_in.ensures c.area_in-2.ensures
    (λ x y. not_both (in_layer d.metal x y) (holds d.existing x y) (in_layer d.beside x y) (c.self.invariant x y)) in
    rw (← c.self.view_is) (subst (λ (p : PointSet). Together (area_of p w) c.area_in.result c.area_in-2.result) same both)

pub overflow_add-result : goal.overflow_add-result
overflow_add-result c = (sum c).fits

pub returns : goal.returns
returns c = (sum c).total
