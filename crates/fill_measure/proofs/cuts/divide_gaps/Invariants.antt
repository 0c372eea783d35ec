use Rattle.std.specs.Prelude.{ℤ}
use Rattle.std.specs.List.{All, Contains}
use Rattle.fill_base.specs.Coordinates.{IsCoordinate}
use Rattle.fill_measure.proofs.cuts.divide_gaps.Given as goal

abbrev pub invariant-loop-i : goal.invariant-loop-i
invariant-loop-i l = All IsCoordinate l.numbers.items × ((z : ℤ) → Contains l.cuts z → Contains l.numbers.items z)
