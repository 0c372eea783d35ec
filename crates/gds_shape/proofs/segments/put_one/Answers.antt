use Rattle.std.proofs.Common.{◌∙◌}
use Rattle.fill_region.specs.Squares.{covered}
use Rattle.gds_shape.proofs.Spread.{one_put}
use Rattle.gds_shape.proofs.segments.put_one.Goals as goal

pub returns : goal.returns
returns c = λ x y. c.in_ok-put_gap.ensures x y ∙ one_put c.args.bounds c.requires (covered c.args.out.now.items x y) x y
