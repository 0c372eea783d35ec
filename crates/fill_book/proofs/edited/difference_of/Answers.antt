use Rattle.std.proofs.Common.{◌∙◌, ap}
use Rattle.std.specs.Prelude.{◌&&◌, not}
use Rattle.std.proofs.lemmas.Result.{IfOk-weaker}
use Rattle.fill_base.specs.Squares.{squares}
use Rattle.fill_region.specs.Runs.{holds}
use Rattle.fill_state.specs.Layers.{in_layer, is_drawn}
use Rattle.fill_book.proofs.NearMetal.{beside_near, near_twice}
use Rattle.fill_book.proofs.edited.difference_of.Goals as goal

pub returns-in_ok-clip-in-Add-clause-metal : goal.returns-in_ok-clip-in-Add-clause-metal
returns-in_ok-clip-in-Add-clause-metal c = rw c.in-Add.is (IfOk-weaker c.added-in-Add.result _ _ (λ d h x y. h x y
    ∙ (ap (λ b. squares c.in-Add.rect x y && not b) (c.in_ok-clip-in-Add.ensures.squares x y) ∙ beside_near (squares c.in-Add.rect x y) (is_drawn c.args.drawn.now x y))) c.added-in-Add.ensures.metal)

pub returns-in_ok-metal_alone-in-Cut-clause-metal : goal.returns-in_ok-metal_alone-in-Cut-clause-metal
returns-in_ok-metal_alone-in-Cut-clause-metal c = rw c.in-Cut.is (IfOk-weaker c.cut-in-Cut.result _ _ (λ d h x y. h x y
    ∙ (ap (λ b. b && squares c.in-Cut.rect x y) (c.in_ok-metal_alone-in-Cut.ensures.squares x y) ∙ near_twice (squares c.in-Cut.rect x y) (in_layer c.args.drawn.now.metal x y && not (holds c.args.drawn.now.existing x y)))) c.cut-in-Cut.ensures.metal)
