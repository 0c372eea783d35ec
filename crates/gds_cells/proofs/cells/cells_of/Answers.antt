use Rattle.std.proofs.Common.{map, ◌≡◌, ◌⊎◌, length, sym, refl, subst, arith, ◌∙◌}
use Rattle.std.proofs.lemmas.List.{length-map}
use Rattle.std.proofs.lemmas.Result.{err_from_is_err_and}
use Rattle.gds_grammar.specs.Values.{cell_of, shape_of}
use Rattle.gds_cells.specs.declared.error.FlattenError.TheVariants.{Memory}
use Rattle.gds_cells.specs.steps.Built.{AreBuilt, IsCell, IsFaulty}
use Rattle.gds_cells.specs.Designs.{AreFine}
use Rattle.gds_cells.specs.steps.Rows.{rows}
use Rattle.gds_cells.proofs.Building.{built_empty, built_more, fault_among, row_of}
use Rattle.gds_cells.proofs.cells.cells_of.Goals as goal

pub cells-preserved-then-number_at-eq0 : goal.cells-preserved-then-number_at-eq0
cells-preserved-then-number_at-eq0 g c =
    rw c.in_ok-push.ensures.items
    (built_empty (map cell_of c.args.cells.now.entries) c.args.layers.now c.args.steps.now c.cells.index c.cells.built.items
    (record { shapes = c.new.result; links = c.new-then-number_at-eq0.result }) c.cells.invariant (sym c.number_at.ensures ∙ c.if-number_at-eq0.true)
    (rw c.new.ensures.items refl) (rw c.new-then-number_at-eq0.ensures.items refl))

pub returns-in_err-cell-clause-refused : goal.returns-in_err-cell-clause-refused
returns-in_err-cell-clause-refused g c =
    let p = err_from_is_err_and c.from_residual-in_err-cell.result c.from_residual-in_err-cell.ensures.1 in
    rw (p.1, p.2) (fault_among (map cell_of c.args.cells.now.entries) c.args.layers.now c.args.steps.now c.cells.index c.cells.built.items
    c.cells.invariant c.in_err-cell.field-0.0 (λ e. c.if-number_at-eq0.false (c.number_at.ensures ∙ e))
    (subst (λ xs. (c.in_err-cell.field-0.0 ≡ Memory) ⊎ IsFaulty c.args.layers.now xs c.in_err-cell.field-0.0) c.elements_at-elements.ensures
    c.in_err-cell.ensures.refused))

pub cells-preserved : goal.cells-preserved
cells-preserved g c =
    rw c.in_ok-push-2.ensures.items
    (built_more (map cell_of c.args.cells.now.entries) c.args.layers.now c.args.steps.now c.cells.index c.cells.built.items c.in_ok-cell.cell
    c.cells.invariant (λ e. c.if-number_at-eq0.false (c.number_at.ensures ∙ e))
    (subst (λ xs. IsCell (map cell_of c.args.cells.now.entries) c.args.layers.now xs c.in_ok-cell.cell) c.elements_at-elements.ensures c.in_ok-cell.ensures.built)
    (subst (λ xs. AreFine c.args.layers.now xs) c.elements_at-elements.ensures c.in_ok-cell.ensures.fine))

pub cell_of-requires-clause-row : goal.cell_of-requires-clause-row
cell_of-requires-clause-row g c κs within =
    row_of (map cell_of c.args.cells.now.entries) (rows c.args.graph.now) c.cells.index c.links.result.now (map shape_of c.elements_at-elements.result.now)
    c.requires.graph c.links.ensures c.elements_at-elements.ensures

pub returns-clause-built : goal.returns-clause-built
returns-clause-built g c =
    let entries = map cell_of c.args.cells.now.entries in
    let upto : c.cells.index ≡ length c.args.cells.now.entries = omega (arith, c.cells-test.false, c.cells.auto.index-end, c.len-index-end.ensures.len) in
    subst (λ n. AreBuilt entries c.args.layers.now c.args.steps.now n c.cells.built.items) (upto ∙ sym (length-map c.args.cells.now.entries cell_of)) c.cells.invariant
