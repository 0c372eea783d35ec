use Rattle.fill_area.proofs.Shares.{low_test}
use Rattle.fill_area.proofs.area.is_low.Goals as goal

pub returns : goal.returns
returns c = low_test c.args.total c.args.min c.args.area c.requires.total c.requires.min c.requires.area
