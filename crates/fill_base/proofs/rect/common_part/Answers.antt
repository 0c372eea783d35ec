use Rattle.fill_base.proofs.Areas.{read_common, read_apart}
use Rattle.fill_base.proofs.rect.common_part.Goals as goal

pub returns-then-lo-hi-clause-some : goal.returns-then-lo-hi-clause-some
returns-then-lo-hi-clause-some c = read_common c.args.a c.args.b c.args.c c.args.d c.max-lo.result c.min-hi.result c.ranges.a c.ranges.b c.ranges.c c.ranges.d c.max-lo.ensures.value c.min-hi.ensures.value c.if-lo-hi.true

pub returns-else-lo-hi-clause-none : goal.returns-else-lo-hi-clause-none
returns-else-lo-hi-clause-none c = read_apart c.args.a c.args.b c.args.c c.args.d c.max-lo.result c.min-hi.result c.ranges.a c.ranges.b c.ranges.c c.ranges.d c.max-lo.ensures.value c.min-hi.ensures.value c.if-lo-hi.false
