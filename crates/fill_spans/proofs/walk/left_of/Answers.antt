use Rattle.fill_spans.proofs.ColumnEnds.{BeginsAt, begins_at}
use Rattle.fill_spans.proofs.walk.left_of.Goals as goal

begins : (c : goal.Start) → BeginsAt c.args.first c.args.step c.args.a
begins c = begins_at c.args.first c.args.step c.args.a c.ranges.first c.ranges.step c.requires.first c.requires.step c.requires.fits c.requires.left

pub overflow_mul-result : goal.overflow_mul-result
overflow_mul-result c = (begins c).product_fits

pub overflow_add-result : goal.overflow_add-result
overflow_add-result c = (begins c).sum_fits

pub returns : goal.returns
returns c = (begins c).is
