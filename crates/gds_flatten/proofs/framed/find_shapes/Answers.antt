use Rattle.std.proofs.Common.{subst, arith}
use Rattle.std.proofs.lemmas.Result.{err_from_is_err_and}
use Rattle.gds_flatten.specs.steps.Finding.{IsFound, IsRefusalOn}
use Rattle.gds_cells.specs.steps.Walks.{shape_copies}
use Rattle.gds_flatten.proofs.Missed.{found_none, found_next, found_all, many_next}
use Rattle.gds_flatten.proofs.framed.find_shapes.Goals as goal

pub shapes-init : goal.shapes-init
shapes-init c = found_none c.args.framed.now c.args.found.now

pub returns-in_err-find_shape-clause-refused : goal.returns-in_err-find_shape-clause-refused
returns-in_err-find_shape-clause-refused c =
    let p = err_from_is_err_and c.from_residual.result c.from_residual.ensures.1 in
    let e = c.in_err-find_shape.field-0.0 in
    rw (p.1, p.2) (many_next c.args.framed.now (shape_copies c.args.at.now) c.args.shapes.now c.shapes.shape-index c.shape-item.result c.args.found.now c.shapes.found e c.shapes-test.true c.shapes.invariant
    (subst (λ s. IsRefusalOn c.args.framed.now.frame.now (shape_copies c.args.at.now s) c.shapes.found e) c.shape-item.is c.in_err-find_shape.ensures.refused))

pub shapes-preserved : goal.shapes-preserved
shapes-preserved c =
    found_next c.args.framed.now (shape_copies c.args.at.now) c.args.shapes.now c.shapes.shape-index c.shape-item.result c.args.found.now c.shapes.found
    c.find_shape.new.found c.shapes-test.true c.shapes.invariant
    (subst (λ s. IsFound c.args.framed.now (shape_copies c.args.at.now s) c.shapes.found c.find_shape.new.found) c.shape-item.is c.in_ok-find_shape.ensures.found)

pub returns-clause-found : goal.returns-clause-found
returns-clause-found c =
    found_all c.args.framed.now (shape_copies c.args.at.now) c.args.shapes.now c.shapes.shape-index c.args.found.now c.shapes.found (omega (arith, c.shapes-test.false)) c.shapes.invariant
