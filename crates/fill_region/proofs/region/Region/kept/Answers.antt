use Rattle.fill_region.specs.Operands.{wanted}
use Rattle.fill_region.proofs.region.Region.kept.Goals as goal

pub of-requires : goal.of-requires
of-requires c = c.in_ok-runs.ensures.canonical (wanted c.args.operands) c.in_ok-unordered.ensures

pub returns : goal.returns
returns c = rw (c.of.ensures) (record { squares = c.in_ok-runs.ensures.squares (wanted c.args.operands) c.in_ok-unordered.ensures })
