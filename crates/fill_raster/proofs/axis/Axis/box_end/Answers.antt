use Rattle.fill_base.proofs.Signed.{read_is}
use Rattle.fill_raster.proofs.Reading.{end_reckoned}
use Rattle.fill_raster.proofs.axis.Axis.box_end.Goals as goal

pub overflow_add-result : goal.overflow_add-result
overflow_add-result c = (end_reckoned c.args.self c.args.i c.box_begin.result c.requires.axis c.requires.place (rw (read_is c.args.i c.ranges.i) at c.box_begin.ensures)).0

pub returns : goal.returns
returns c = (end_reckoned c.args.self c.args.i c.box_begin.result c.requires.axis c.requires.place (rw (read_is c.args.i c.ranges.i) at c.box_begin.ensures)).1
