use Rattle.fill_area.proofs.Shares.{high_test}
use Rattle.fill_area.proofs.area.is_high.Goals as goal

pub returns : goal.returns
returns c = high_test c.args.total c.args.max c.args.area c.requires.total c.requires.max c.requires.area
