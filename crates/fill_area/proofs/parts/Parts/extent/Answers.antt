use Rattle.fill_area.proofs.Clipping.{part_is}
use Rattle.fill_area.proofs.parts.Parts.extent.Goals as goal

pub returns : goal.returns
returns c = part_is c.args.self c.args.a c.extent-begin.result.0 c.extent-begin.result.1 c.max.result c.min.result c.max-2.result c.min-2.result c.requires.parts c.extent-begin.ensures c.max.ensures.value c.min.ensures.value c.max-2.ensures.value c.min-2.ensures.value
