use Rattle.std.specs.List.{All}
use Rattle.fill_base.specs.Coordinates.{IsCoordinate}
use Rattle.fill_measure.specs.steps.Ends.{HoldEnds}
use Rattle.fill_measure.proofs.cuts.ends_of.Given as goal

abbrev pub invariant-loop-a : goal.invariant-loop-a
invariant-loop-a l = All IsCoordinate l.ends.items × HoldEnds l.ends.items l.parts l.a
