use Rattle.std.proofs.Common.{rules, subst, sym}
use Rattle.std.proofs.lemmas.Result.{err_from_is_err_and}
use Rattle.gds_grammar.specs.Values.{shape_of}
use Rattle.gds_cells.specs.Copies.{AllStayInRange}
use Rattle.gds_cells.specs.steps.Walks.{shape_copies, IsDrawn}
use Rattle.gds_flatten.proofs.Drawing.{drawn_next, shape_drawn, next_leaves, shape_leaves, refused_more}
use Rattle.gds_flatten.proofs.walk.carry_shapes.Goals as goal

pub returns-in_err-carry_shape-clause-refused : goal.returns-in_err-carry_shape-clause-refused
returns-in_err-carry_shape-clause-refused c =
    let p = err_from_is_err_and c.from_residual.result c.from_residual.ensures.1 in
    rw (p.1, p.2) (refused_more c.in_err-carry_shape.field-0.0
    (λ leaves. next_leaves (shape_copies c.args.at.now) c.args.shapes.now c.shapes.shape-index c.shape-item.result c.shapes-test.true
    (λ stays. shape_leaves c.args.at.now (shape_of c.shape-item.result.element.now) leaves
    (subst (λ s. AllStayInRange (shape_copies c.args.at.now s)) (sym c.shape-item.is) stays)))
    c.in_err-carry_shape.ensures.refused)

pub shapes-preserved : goal.shapes-preserved
shapes-preserved c =
    drawn_next (shape_copies c.args.at.now) c.args.shapes.now c.shapes.shape-index c.shape-item.result c.args.out.now.items c.shapes.out.items
    c.carry_shape.new.out.items c.shapes-test.true c.shapes.invariant
    (subst (λ s. IsDrawn (shape_copies c.args.at.now s) c.shapes.out.items c.carry_shape.new.out.items) c.shape-item.is
    (shape_drawn c.args.at.now (shape_of c.shape-item.result.element.now) c.shapes.out.items c.carry_shape.new.out.items (search rules) (search rules)))
