use Rattle.std.proofs.Common.{subst, sym, arith, ◌≡◌, []}
use Rattle.std.proofs.lemmas.Option.{slice_get_read, slice_get_past}
use Rattle.gds_cells.specs.Copies.{copies}
use Rattle.gds_cells.specs.steps.Walks.{hierarchy}
use Rattle.gds_flatten.proofs.Drawing.{no_chain, no_cell}
use Rattle.std.proofs.Common.{length, refl}
use Rattle.gds_flatten.proofs.walk.cell_at.Goals as goal

pub returns-then-depth-eq0-clause-none : goal.returns-then-depth-eq0-clause-none
returns-then-depth-eq0-clause-none c =
    subst (λ n. copies (hierarchy c.args.cells.now) n c.args.index ≡ []) (sym c.if-depth-eq0.true) (no_chain c.args.cells.now c.args.index)

pub returns-in-Some-clause-some : goal.returns-in-Some-clause-some
returns-in-Some-clause-some c = (
  omega (arith, c.if-depth-eq0.false),
  slice_get_read c.args.cells.now (length c.args.cells.now) c.args.index c.in-Some.cell.now refl c.in-Some.ensures.lookup.3.0 c.in-Some.ensures.lookup.1,
)

pub returns-in-None-clause-none : goal.returns-in-None-clause-none
returns-in-None-clause-none c =
    no_cell c.args.cells.now c.args.depth c.args.index (slice_get_past c.args.cells.now c.args.index c.in-None.ensures.lookup.3)
