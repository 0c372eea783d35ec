use Rattle.fill_raster.proofs.Reading.{last_on, end_read}
use Rattle.fill_raster.proofs.axis.Axis.band_end.Goals as goal

pub overflow_sub-band_past : goal.overflow_sub-band_past
overflow_sub-band_past c = (last_on c.args.self c.args.g c.band_past.result c.requires.axis c.requires.index c.band_past.ensures).0

pub box_end-requires-clause-place : goal.box_end-requires-clause-place
box_end-requires-clause-place c = (last_on c.args.self c.args.g c.band_past.result c.requires.axis c.requires.index c.band_past.ensures).2

pub returns : goal.returns
returns c = end_read c.args.self c.args.g c.band_past.result c.box_end.result c.requires.axis c.requires.index c.band_past.ensures c.box_end.ensures
