use Rattle.std.proofs.Common.{◌+◌}
use Rattle.fill_measure.specs.steps.Meshes.{ArePrefixSumsOf}
use Rattle.fill_measure.proofs.mesh.Mesh.band.Given as goal

abbrev pub invariant-loop-k : goal.invariant-loop-k
invariant-loop-k l = ArePrefixSumsOf l.self l.from (l.k + 1) l.prefix_sums.items
