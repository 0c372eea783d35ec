use Rattle.fill_measure.specs.steps.Sides.{AreSides}
use Rattle.fill_measure.proofs.sides.sides_of.Given as goal

abbrev pub invariant-loop-a : goal.invariant-loop-a
invariant-loop-a l = AreSides l.parts l.cuts l.a l.sides.items
