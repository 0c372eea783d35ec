use Rattle.fill_raster.proofs.Reading.{last_reckoned, last_next, past_reckoned}
use Rattle.fill_raster.proofs.axis.Axis.past.Goals as goal

pub overflow_add-last : goal.overflow_add-last
overflow_add-last c = (last_next c.args.self c.div_euclid-last.result c.requires (last_reckoned c.args.self c.div_euclid-last.result c.requires c.div_euclid-last.ensures)).0

pub returns : goal.returns
returns c =
    past_reckoned c.args.self c.first.result c.div_euclid-last.result c.max.result c.requires c.first.ensures
    (last_reckoned c.args.self c.div_euclid-last.result c.requires c.div_euclid-last.ensures) c.max.ensures.value
