use Rattle.std.proofs.Common.{◌∙◌, ap, sym}
use Rattle.fill_base.specs.Squares.{squares}
use Rattle.fill_region.specs.Runs.{holds}
use Rattle.fill_state.proofs.Layering.{with_square, cut_less, added_more}
use Rattle.fill_state.proofs.layer.EditedLayer.with_squares.Goals as goal

pub invariant_of-result : goal.invariant_of-result
invariant_of-result c = record {
  cut = λ x y is. ap (λ s. holds s x y) c.in_ok-share.ensures
      ∙ cut_less (holds c.self.inside.opening x y) (holds c.self.inside.cut x y) (holds c.args.region.now x y) (c.self.invariant.cut x y) (sym (c.in_ok-minus.ensures.squares x y) ∙ is);
  added = λ x y is. ap (λ s. holds s x y) c.in_ok-share.ensures
      ∙ added_more (holds c.self.inside.opening x y) (holds c.self.inside.added x y) (holds c.args.region.now x y) (squares c.args.within.now x y) (c.requires x y) (c.self.invariant.added x y)
      (rw (c.in_ok-union.ensures.squares x y, c.in_ok-beside.ensures.squares x y, c.in_ok-there.ensures.squares x y, c.region.ensures) at is);
}

pub returns : goal.returns
returns c = rw (← c.self.view_is) (record {
  squares = λ x y. rw (c.in_ok-share.ensures, c.in_ok-minus.ensures.squares x y, c.in_ok-union.ensures.squares x y, c.in_ok-beside.ensures.squares x y, c.in_ok-there.ensures.squares x y, c.region.ensures)
      (with_square (holds c.self.inside.opening x y) (holds c.self.inside.cut x y) (holds c.self.inside.added x y) (holds c.args.region.now x y) (squares c.args.within.now x y) (c.requires x y));
})
