use Rattle.fill_measure.specs.steps.Meshes.{AreBelow}
use Rattle.fill_measure.proofs.mesh.Mesh.put_together.Given as goal

abbrev pub invariant-loop-k : goal.invariant-loop-k
invariant-loop-k l = AreBelow l.self l.height l.k l.below.items
