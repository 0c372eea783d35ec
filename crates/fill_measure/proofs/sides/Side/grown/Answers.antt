use Rattle.fill_measure.proofs.Amid.{grown_is}
use Rattle.fill_measure.proofs.sides.Side.grown.Goals as goal

pub returns : goal.returns
returns c n rate count_is next_is = grown_is c.args.count c.args.next c.args.gap c.args.self.past c.abs_diff.result n rate c.requires.amid c.requires.most c.abs_diff.ensures count_is next_is
