use Rattle.std.specs.Prelude.{ℤ}
use Rattle.std.specs.List.{All, Contains}
use Rattle.fill_base.specs.Coordinates.{IsCoordinate}
use Rattle.fill_measure.proofs.cuts.put_between.Given as goal

abbrev pub invariant-loop : goal.invariant-loop
invariant-loop l = IsCoordinate l.cut × (All IsCoordinate l.numbers.items × ((z : ℤ) → Contains l.fn.numbers.items z → Contains l.numbers.items z))
