use Rattle.std.proofs.Common.{◌≡◌, true, take, arith, subst, sym, ◌∙◌, ⊎_elim}
use Rattle.std.proofs.lemmas.List.{take_all}
use Rattle.fill_base.specs.Squares.{squares}
use Rattle.fill_bands.specs.Squares.{covered}
use Rattle.fill_region.proofs.Members.{covered_more, either}
use Rattle.fill_region.proofs.changes.hull.Goals as goal

pub rects-preserved : goal.rects-preserved
rects-preserved c = λ x y is. ⊎_elim (λ before. c.around-hull.ensures.first x y (c.rects.invariant x y before)) (λ here. c.around-hull.ensures.second x y here)
    (either (covered (take c.rects.rect-index c.args.rects.now) x y) (squares c.rect-item.result x y) (sym (covered_more c.args.rects.now c.rects.rect-index c.rect-item.result x y c.rects-test.true c.rect-item.is) ∙ is))

pub returns-clause-some : goal.returns-clause-some
returns-clause-some c = λ x y is. let whole : take c.rects.rect-index c.args.rects.now ≡ c.args.rects.now = take_all c.rects.rect-index c.args.rects.now (omega (arith, c.rects-test.false)) in
    c.rects.invariant x y (subst (λ rs. covered rs x y ≡ true) (sym whole) is)
