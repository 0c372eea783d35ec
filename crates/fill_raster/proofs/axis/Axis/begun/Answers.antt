use Rattle.fill_raster.proofs.Nearness.{begun}
use Rattle.fill_raster.proofs.axis.Axis.begun.Goals as goal

pub overflow_add-result : goal.overflow_add-result
overflow_add-result c = (begun c.args.self c.args.z c.div_euclid.result c.requires.axis c.requires.least c.requires.most c.div_euclid.ensures).fits

pub returns : goal.returns
returns c = λ i. let b = begun c.args.self c.args.z c.div_euclid.result c.requires.axis c.requires.least c.requires.most c.div_euclid.ensures in (b.below i, b.above i)
