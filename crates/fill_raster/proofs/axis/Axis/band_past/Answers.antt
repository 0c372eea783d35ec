use Rattle.std.proofs.Common.{pos, refl}
use Rattle.fill_raster.proofs.Reading.{band_past_reckoned}
use Rattle.fill_raster.proofs.axis.Axis.band_past.Goals as goal

pub overflow_add-band_first : goal.overflow_add-band_first
overflow_add-band_first c = (band_past_reckoned c.args.self c.args.g c.band_first.result c.from.result _ (pos 0) c.requires.axis c.requires.index c.band_first.ensures c.from.ensures refl).0

pub returns : goal.returns
returns c = (band_past_reckoned c.args.self c.args.g c.band_first.result c.from.result c.past.result c.min.result c.requires.axis c.requires.index c.band_first.ensures c.from.ensures c.past.ensures).1 c.min.ensures.value
