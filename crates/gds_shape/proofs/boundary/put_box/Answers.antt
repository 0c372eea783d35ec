use Rattle.std.proofs.Common.{◌∙◌}
use Rattle.fill_region.specs.Squares.{covered}
use Rattle.gds_shape.proofs.BoxCorners.{box_none, box_put}
use Rattle.gds_shape.proofs.boundary.put_box.Goals as goal

pub returns-then-bottom-top : goal.returns-then-bottom-top
returns-then-bottom-top c = λ x y. box_none c.args.from c.args.to c.min-bottom.result c.max-top.result c.requires.from c.requires.to c.min-bottom.ensures.value c.max-top.ensures.value c.if-bottom-top.true (covered c.args.out.now.items x y) x y

pub returns : goal.returns
returns c = λ x y. c.in_ok-put_gap.ensures x y ∙ box_put c.args.from c.args.to c.min-left.result c.max-right.result c.min-bottom.result c.max-top.result c.requires.from c.requires.to
    c.min-left.ensures.value c.max-right.ensures.value c.min-bottom.ensures.value c.max-top.ensures.value (covered c.args.out.now.items x y) x y
