use Rattle.std.proofs.Common.{◌+◌, ◌<◌, arith, ◌∙◌}
use Rattle.fill_cells.specs.Mesh.{gaps}
use Rattle.fill_measure.specs.steps.Meshes.{squares_of}
use Rattle.fill_measure.proofs.SumsAbove.{lowest_cut}
use Rattle.fill_measure.proofs.Listing.{row_is}
use Rattle.fill_measure.proofs.mesh.Mesh.band.Goals as goal

pub loop-k-init : goal.loop-k-init
loop-k-init c = let mesh = c.args.self.now in rw c.in_ok-prefix_sums.ensures (lowest_cut (squares_of mesh) mesh.across.now mesh.up.now c.args.from 1)

pub add_cut-requires-clause-row : goal.add_cut-requires-clause-row
add_cut-requires-clause-row c =
    let mesh = c.args.self.now in
    let j_in : c.args.from + c.loop-k.k < gaps mesh.up.now = omega (arith, c.requires.within, c.loop-k-test.true) in
    rw c.deref.ensures.value (row_is (squares_of mesh) mesh.across.now mesh.up.now c.in_ok-row.row.items _ (c.args.from + c.loop-k.k) mesh.across_cuts mesh.up_cuts j_in
    (λ d x y here. c.in_ok-rects.ensures x y ∙ c.requires.chunks.each (c.args.from + c.loop-k.k) d j_in x y here) c.in_ok-row.ensures)
