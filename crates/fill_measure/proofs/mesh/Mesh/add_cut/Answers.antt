use Rattle.std.proofs.Common.{pos, ◌+◌}
use Rattle.fill_measure.specs.steps.Meshes.{squares_of}
use Rattle.fill_measure.proofs.SumsAbove.{added_first, added_more, total_more, prefix_sum_above}
use Rattle.fill_measure.proofs.mesh.Mesh.add_cut.Goals as goal

pub loop-i-init : goal.loop-i-init
loop-i-init c = let mesh = c.args.self.now in added_first (squares_of mesh) mesh.across.now mesh.up.now _ _ c.args.from c.args.k mesh.across_cuts c.requires.prefix_sums c.in_ok-push.ensures.items

pub overflow_add-total : goal.overflow_add-total
overflow_add-total c =
    let mesh = c.args.self.now in
    (total_more (squares_of mesh) mesh.across.now mesh.up.now c.args.row.now c.loop-i.i (c.args.from + c.args.k) _ mesh.across_cuts mesh.up_cuts c.requires.row c.loop-i-test.true c.requires.within c.loop-i.invariant.total_is (pos 0)).0

pub overflow_add-index : goal.overflow_add-index
overflow_add-index c =
    let mesh = c.args.self.now in
    let total = total_more (squares_of mesh) mesh.across.now mesh.up.now c.args.row.now c.loop-i.i (c.args.from + c.args.k) _ mesh.across_cuts mesh.up_cuts c.requires.row c.loop-i-test.true c.requires.within c.loop-i.invariant.total_is (pos 0) in
    (prefix_sum_above (squares_of mesh) mesh.across.now mesh.up.now c.loop-i.prefix_sums.items c.args.from c.loop-i.i c.args.k c.index.result.now _ mesh.across_cuts mesh.up_cuts c.loop-i-test.true c.requires.within c.loop-i.invariant.are c.index.ensures total.1).0

pub loop-i-preserved : goal.loop-i-preserved
loop-i-preserved c =
    let mesh = c.args.self.now in
    let total = total_more (squares_of mesh) mesh.across.now mesh.up.now c.args.row.now c.loop-i.i (c.args.from + c.args.k) _ mesh.across_cuts mesh.up_cuts c.requires.row c.loop-i-test.true c.requires.within c.loop-i.invariant.total_is (pos 0) in
    let corner = prefix_sum_above (squares_of mesh) mesh.across.now mesh.up.now c.loop-i.prefix_sums.items c.args.from c.loop-i.i c.args.k c.index.result.now _ mesh.across_cuts mesh.up_cuts c.loop-i-test.true c.requires.within c.loop-i.invariant.are c.index.ensures total.1 in
    added_more (squares_of mesh) mesh.across.now mesh.up.now c.loop-i.prefix_sums.items _ c.args.from c.loop-i.i c.args.k _ _ _ c.loop-i-test.true c.loop-i.invariant c.in_ok-push-2.ensures.items corner.1 total.1
