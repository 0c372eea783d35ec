use Rattle.std.proofs.Common.{◌∙◌, refl}
use Rattle.std.proofs.lemmas.Result.{IfOk-weaker}
use Rattle.fill_base.specs.Squares.{squares}
use Rattle.fill_region.specs.Runs.{holds}
use Rattle.fill_state.proofs.Layering.{clipped_square}
use Rattle.fill_state.proofs.layer.EditedLayer.clip.Goals as goal

pub returns : goal.returns
returns c = rw (← c.self.view_is) (record {
  squares = IfOk-weaker c.union-2.result _ _ (λ r h x y. h x y
      ∙ (rw (c.in_ok-minus.ensures.squares x y, c.in_ok-there.ensures.squares x y, c.in_ok-cut.ensures.squares x y, c.in_ok-added.ensures.squares x y, c.region.ensures) refl
      ∙ clipped_square (holds c.self.inside.opening x y) (holds c.self.inside.cut x y) (holds c.self.inside.added x y) (squares c.args.rect.now x y))) c.union-2.ensures.squares;
})
