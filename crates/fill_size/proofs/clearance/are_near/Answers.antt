use Rattle.fill_size.proofs.Ranges.{near_test}
use Rattle.fill_size.proofs.clearance.are_near.Goals as goal

pub returns : goal.returns
returns c = near_test c.args.a c.args.b c.args.c c.args.d c.args.spacing c.ranges.a c.ranges.c c.requires.first c.requires.second c.requires.spacing
