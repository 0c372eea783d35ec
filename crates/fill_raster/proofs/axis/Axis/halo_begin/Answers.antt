use Rattle.fill_raster.proofs.Halos.{begin_reckoned}
use Rattle.fill_raster.proofs.axis.Axis.halo_begin.Goals as goal

pub overflow_sub-band_begin : goal.overflow_sub-band_begin
overflow_sub-band_begin c = (begin_reckoned c.args.self c.args.g c.args.spacing c.band_begin.result c.requires.axis c.requires.index c.requires.spacing c.band_begin.ensures).fits

pub returns : goal.returns
returns c = (begin_reckoned c.args.self c.args.g c.args.spacing c.band_begin.result c.requires.axis c.requires.index c.requires.spacing c.band_begin.ensures).is c.max.result c.max.ensures.value
