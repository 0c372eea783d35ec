use Rattle.std.proofs.Common.{◌∙◌, sym, refl}
use Rattle.std.proofs.lemmas.Result.{IfOk-weaker}
use Rattle.fill_base.specs.Squares.{squares}
use Rattle.fill_region.specs.Runs.{holds}
use Rattle.fill_state.specs.Layers.{in_layer}
use Rattle.fill_state.proofs.Drawing.{clipped_alone, no_existing_alone}
use Rattle.fill_state.proofs.drawn.DrawnLayer.metal_alone.Goals as goal

pub returns-then-is_empty : goal.returns-then-is_empty
returns-then-is_empty c =
    let d = c.self.inside in
    rw (← c.self.view_is) (record {
      squares = λ x y. c.in_ok-metal.ensures.squares x y ∙ no_existing_alone (in_layer d.metal x y) (holds d.existing x y) (squares c.args.rect.now x y) (sym (rw c.region.ensures at c.in_ok-existing.ensures.squares x y) ∙ c.is_empty.ensures.0 c.if-is_empty.true x y);
    })

pub returns : goal.returns
returns c =
    let d = c.self.inside in
    rw (← c.self.view_is) (record {
      squares = IfOk-weaker c.minus.result _ _ (λ r h x y. h x y ∙ (rw (c.in_ok-metal.ensures.squares x y, c.in_ok-existing.ensures.squares x y, c.region.ensures) refl ∙ clipped_alone (in_layer d.metal x y) (holds d.existing x y) (squares c.args.rect.now x y))) c.minus.ensures.squares;
    })
