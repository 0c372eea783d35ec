use Rattle.fill_raster.proofs.Levels.{are_begun, before_read, begun_fits}
use Rattle.fill_raster.proofs.axis.Axis.bands_begun.Goals as goal

pub overflow_cast-result : goal.overflow_cast-result
overflow_cast-result c = begun_fits c.args.self c.begun.result c.places_before-places.result c.from.result c.div_ceil.result c.requires.axis (before_read c.args.self c.begun.result _ (record { sfits = c.begun.type_inv }) c.places_before-places.ensures) c.from.ensures c.div_ceil.ensures

pub returns : goal.returns
returns c =
    are_begun c.args.self c.args.line c.begun.result c.places_before-places.result c.from.result c.div_ceil.result c.requires.axis c.requires.least c.requires.most c.begun.ensures
    (before_read c.args.self c.begun.result _ (record { sfits = c.begun.type_inv }) c.places_before-places.ensures) c.from.ensures c.div_ceil.ensures
