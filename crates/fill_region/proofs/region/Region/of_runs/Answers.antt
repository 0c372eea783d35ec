use Rattle.std.proofs.Common.{◌&&◌}
use Rattle.fill_base.specs.Squares.{squares}
use Rattle.fill_bands.specs.Squares.{covered}
use Rattle.fill_region.proofs.region.Region.of_runs.Goals as goal

pub of-requires : goal.of-requires
of-requires c = c.in_ok-runs.ensures.canonical (λ x y. covered c.args.runs.now x y && squares c.args.frame.now x y) c.in_ok-clipped.ensures

pub returns : goal.returns
returns c = rw (c.of.ensures) (record { squares = c.in_ok-runs.ensures.squares (λ x y. covered c.args.runs.now x y && squares c.args.frame.now x y) c.in_ok-clipped.ensures })
