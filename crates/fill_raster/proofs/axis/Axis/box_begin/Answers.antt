use Rattle.fill_raster.proofs.Reading.{begin_reckoned, far_fits}
use Rattle.fill_raster.proofs.axis.Axis.box_begin.Goals as goal

pub overflow_mul-result : goal.overflow_mul-result
overflow_mul-result c = far_fits c.args.self c.args.i c.requires.axis c.requires.place

pub overflow_add-result : goal.overflow_add-result
overflow_add-result c = (begin_reckoned c.args.self c.args.i c.requires.axis c.requires.place).0

pub returns : goal.returns
returns c = (begin_reckoned c.args.self c.args.i c.requires.axis c.requires.place).1
