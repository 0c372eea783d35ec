use Rattle.fill_measure.specs.steps.Meshes.{squares_of}
use Rattle.fill_measure.proofs.SumsAbove.{lowest_cut}
use Rattle.fill_measure.proofs.mesh.Mesh.put_together.Goals as goal

pub loop-k-init : goal.loop-k-init
loop-k-init c = let mesh = c.args.self.now in rw c.in_ok-below.ensures (lowest_cut (squares_of mesh) mesh.across.now mesh.up.now 0 c.args.height)
