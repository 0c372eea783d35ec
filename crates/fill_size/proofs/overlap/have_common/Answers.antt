use Rattle.fill_size.proofs.Overlaps.{common_test}
use Rattle.fill_size.proofs.overlap.have_common.Goals as goal

pub returns : goal.returns
returns c = common_test c.args.a c.args.b c.args.c c.args.d c.max.result c.min.result c.ranges.a c.ranges.b c.ranges.c c.ranges.d c.max.ensures.value c.min.ensures.value
