use Rattle.gds_flatten.proofs.Sharing.{part_taken}
use Rattle.gds_flatten.proofs.walk.own_stretch.Goals as goal

pub returns : goal.returns
returns c = part_taken c.args.stretch.from c.args.stretch.to c.min-start.result c.min-end.result c.args.shapes.now c.min-end.ensures c.min-start.ensures
