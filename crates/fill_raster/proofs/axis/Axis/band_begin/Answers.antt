use Rattle.fill_raster.proofs.Reading.{first_on}
use Rattle.fill_raster.proofs.axis.Axis.band_begin.Goals as goal

pub box_begin-requires-clause-place : goal.box_begin-requires-clause-place
box_begin-requires-clause-place c = first_on c.args.self c.args.g c.band_first.result c.requires.axis c.requires.index c.band_first.ensures
