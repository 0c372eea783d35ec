use Rattle.std.proofs.Common.{ℕ, List, arith, refl, sym, subst, length}
use Rattle.std.proofs.lemmas.Option.{slice_get_read}
use Rattle.gds_cells.specs.Copies.{Copy}
use Rattle.gds_cells.specs.Graphs.{item}
use Rattle.gds_flatten.specs.steps.Framing.{IsRight, AllFit, square, cell_draws, AreRightlyHeld}
use Rattle.gds_flatten.proofs.ExtentsInOrder.{extended_more, below_fit}
use Rattle.std.proofs.lemmas.Result.{err_from_is_err_and}
use Rattle.gds_flatten.proofs.Sized.{or_right}
use Rattle.gds_flatten.proofs.extents.extents_of.Goals as goal

pub cells-preserved : goal.cells-preserved
cells-preserved c =
    let inside = c.requires.within c.cells.cell-index c.cells-test.true in
    let cell = c.index-cells-cell.result in
    let new = c.in_ok-extents-2.field-0 in
    let held = subst (λ xs. (below : ℕ → List Copy) → AreRightlyHeld below xs cell.links.items → IsRight (cell_draws below cell) new) c.deref.ensures.value c.in_ok-extents-2.ensures.held in
    extended_more c.args.cells.now c.args.order.now c.cells.cell-index c.cells.extents.items cell new c.cells-test.true inside
    (slice_get_read c.args.cells.now (length c.args.cells.now) (item c.args.order.now c.cells.cell-index) cell refl inside c.index-cells-cell.is)
    c.cells.invariant held c.in_ok-extents-2.ensures.fine

pub returns-clause-right : goal.returns-clause-right
returns-clause-right c = λ g ordered tied q within.
    c.cells.invariant.right g ordered tied q (omega (arith, within, c.cells-test.false))

pub returns-in_err-extents-2-clause-refused : goal.returns-in_err-extents-2-clause-refused
returns-in_err-extents-2-clause-refused c =
    let p = err_from_is_err_and c.from_residual-in_err-extents-2.result c.from_residual-in_err-extents-2.ensures.1 in
    let inside = c.requires.within c.cells.cell-index c.cells-test.true in
    let cell = c.index-cells-cell.result in
    rw (p.1, p.2) (or_right c.in_err-extents-2.ensures.refused (λ no g ordered tied shallow. no 256 (omega arith)
    (subst (λ es. AllFit (square 256) es cell.links.items) (sym c.deref.ensures.value)
    (below_fit c.args.cells.now c.args.order.now c.cells.cell-index c.cells.extents.items cell c.cells-test.true
    (slice_get_read c.args.cells.now (length c.args.cells.now) (item c.args.order.now c.cells.cell-index) cell refl inside c.index-cells-cell.is)
    c.cells.invariant g ordered tied shallow))))
