use Rattle.fill_measure.proofs.Ends.{stepped_fits}
use Rattle.fill_measure.proofs.cuts.stepped.Goals as goal

pub returns : goal.returns
returns c = stepped_fits c.args.cut c.args.step c.args.last c.min.result c.requires.cut c.requires.last c.requires.least c.requires.most c.min.ensures.value
