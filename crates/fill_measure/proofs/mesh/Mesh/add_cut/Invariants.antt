use Rattle.fill_measure.specs.steps.Meshes.{squares_of}
use Rattle.fill_measure.proofs.SumsAbove.{AreAdded}
use Rattle.fill_measure.proofs.mesh.Mesh.add_cut.Given as goal

abbrev pub invariant-loop-i : goal.invariant-loop-i
invariant-loop-i l = AreAdded (squares_of l.self) l.self.across.now l.self.up.now l.from l.k l.i l.total l.prefix_sums.items
