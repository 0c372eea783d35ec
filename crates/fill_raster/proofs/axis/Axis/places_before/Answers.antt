use Rattle.fill_raster.proofs.Levels.{before_reckoned}
use Rattle.fill_raster.proofs.axis.Axis.places_before.Goals as goal

pub returns : goal.returns
returns c =
    before_reckoned c.args.self c.args.i c.first-first.result c.past.result c.min.result c.max.result c.abs_diff.result c.requires c.ranges.i c.first-first.ensures c.past.ensures
    c.min.ensures.value c.max.ensures.value (record { sfits = c.min.type_inv }) (record { sfits = c.max.type_inv }) c.abs_diff.ensures
