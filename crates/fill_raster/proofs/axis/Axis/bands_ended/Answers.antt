use Rattle.fill_raster.proofs.Levels.{all_ended, are_ended, before_read, ended_fits}
use Rattle.fill_raster.proofs.axis.Axis.bands_ended.Goals as goal

pub returns-then-places-extent : goal.returns-then-places-extent
returns-then-places-extent c =
    all_ended c.args.self c.args.line c.begun.result c.places_before-places.result c.extent.result c.bands.result c.requires.axis c.requires.least c.requires.most c.begun.ensures
    (before_read c.args.self c.begun.result _ (record { sfits = c.begun.type_inv }) c.places_before-places.ensures) c.extent.ensures c.if-places-extent.true c.bands.ensures

pub overflow_cast-result : goal.overflow_cast-result
overflow_cast-result c = ended_fits c.args.self c.begun.result c.places_before-places.result c.from.result c.requires.axis (before_read c.args.self c.begun.result _ (record { sfits = c.begun.type_inv }) c.places_before-places.ensures)

pub returns : goal.returns
returns c =
    are_ended c.args.self c.args.line c.begun.result c.places_before-places.result c.extent.result c.from.result c.requires.axis c.requires.least c.requires.most c.begun.ensures
    (before_read c.args.self c.begun.result _ (record { sfits = c.begun.type_inv }) c.places_before-places.ensures) c.extent.ensures c.if-places-extent.false c.from.ensures
