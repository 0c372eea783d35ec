use Rattle.fill_raster.proofs.Halos.{end_reckoned}
use Rattle.fill_raster.proofs.axis.Axis.halo_end.Goals as goal

pub overflow_add-band_end : goal.overflow_add-band_end
overflow_add-band_end c = (end_reckoned c.args.self c.args.g c.args.spacing c.band_end.result c.requires.axis c.requires.index c.requires.spacing c.band_end.ensures).fits

pub returns : goal.returns
returns c = (end_reckoned c.args.self c.args.g c.args.spacing c.band_end.result c.requires.axis c.requires.index c.requires.spacing c.band_end.ensures).is c.min.result c.min.ensures.value
