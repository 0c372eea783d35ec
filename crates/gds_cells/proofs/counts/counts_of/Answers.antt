use Rattle.std.proofs.Common.{ℕ, arith, refl, subst, length}
use Rattle.std.proofs.lemmas.Option.{slice_get_read}
use Rattle.gds_cells.specs.Graphs.{item}
use Rattle.gds_cells.specs.steps.Counting.{IsCapped, counted, AreRight}
use Rattle.gds_cells.proofs.Capping.{themselves}
use Rattle.gds_cells.proofs.CountsInOrder.{counted_more}
use Rattle.gds_cells.proofs.counts.counts_of.Goals as goal

pub cells-preserved : goal.cells-preserved
cells-preserved c =
    let inside = c.requires.within c.cells.cell-index c.cells-test.true in
    let clause = subst (λ xs. (f : ℕ → ℕ) → AreRight f xs c.index-cells-cell.result.links.items → IsCapped (counted f c.index-cells-cell.result) c.count_cell.result)
    c.deref.ensures.value c.count_cell.ensures in
    let bound = (clause (item c.cells.counts.items)
    (themselves c.cells.counts.items c.index-cells-cell.result.links.items c.cells.invariant.most)).most in
    counted_more c.args.cells.now c.args.order.now c.cells.cell-index c.cells.counts.items c.index-cells-cell.result c.count_cell.result
    c.cells-test.true inside
    (slice_get_read c.args.cells.now (length c.args.cells.now) (item c.args.order.now c.cells.cell-index) c.index-cells-cell.result refl inside c.index-cells-cell.is)
    c.cells.invariant clause bound

pub returns-clause-right : goal.returns-clause-right
returns-clause-right c = λ g ordered tied q within.
    c.cells.invariant.right g ordered tied q (omega (arith, within, c.cells-test.false))
