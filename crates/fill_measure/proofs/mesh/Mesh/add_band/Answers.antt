use Rattle.std.proofs.Common.{pos, refl, arith}
use Rattle.fill_measure.proofs.SumsAbove.{prefix_sums_more}
use Rattle.fill_measure.proofs.Stacking.{added_below}
use Rattle.fill_measure.specs.steps.Meshes.{squares_of}
use Rattle.fill_measure.proofs.mesh.Mesh.add_band.Goals as goal

pub overflow_add-index : goal.overflow_add-index
overflow_add-index c =
    let mesh = c.args.self.now in
    (added_below (squares_of mesh) mesh.across.now mesh.up.now c.loop-i.below.items c.args.band.now c.loop-i.i c.args.k c.args.height _ _ c.index.result.now (pos 0) mesh.across_cuts mesh.up_cuts c.loop-i-test.true c.requires.within.0 c.requires.within.1 refl
    c.loop-i.invariant (omega arith) c.requires.band c.index.ensures).0

pub loop-i-preserved : goal.loop-i-preserved
loop-i-preserved c =
    let mesh = c.args.self.now in
    let value = added_below (squares_of mesh) mesh.across.now mesh.up.now c.loop-i.below.items c.args.band.now c.loop-i.i c.args.k c.args.height _ _ c.index.result.now (pos 0) mesh.across_cuts mesh.up_cuts c.loop-i-test.true c.requires.within.0 c.requires.within.1 refl
    c.loop-i.invariant (omega arith) c.requires.band c.index.ensures in
    prefix_sums_more (squares_of mesh) mesh.across.now mesh.up.now 0 c.args.height c.loop-i.below.items _ c.loop-i.i c.args.k _ c.loop-i-test.true c.loop-i.invariant c.in_ok-push.ensures.items value.1
