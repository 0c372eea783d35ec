use Rattle.std.proofs.Common.{◌+◌, ◌*◌, length}
use Rattle.fill_measure.specs.steps.PrefixSums.{ArePrefixSums}
use Rattle.fill_measure.specs.steps.Meshes.{squares_of}
use Rattle.fill_measure.proofs.mesh.Mesh.add_band.Given as goal

abbrev pub invariant-loop-i : goal.invariant-loop-i
invariant-loop-i l = ArePrefixSums (squares_of l.self) l.self.across.now l.self.up.now 0 l.height (l.k * length l.self.across.now + l.i) l.below.items
