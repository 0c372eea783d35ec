use Rattle.std.proofs.Common.{subst, arith}
use Rattle.std.specs.List.{flat_map}
use Rattle.std.proofs.lemmas.Result.{err_from_is_err_and}
use Rattle.gds_flatten.specs.steps.Finding.{IsFound, IsRefusalOn}
use Rattle.gds_cells.specs.steps.Walks.{shape_copies}
use Rattle.gds_flatten.proofs.Sharing.{chunk_copies, of_chunks}
use Rattle.gds_flatten.proofs.Missed.{found_none, found_next, found_all, many_next}
use Rattle.gds_flatten.proofs.framed.find_own.Goals as goal

pub chunks-init : goal.chunks-init
chunks-init c = found_none c.args.framed.now c.args.found.now

pub returns-in_err-find_shapes-clause-refused : goal.returns-in_err-find_shapes-clause-refused
returns-in_err-find_shapes-clause-refused c =
    let p = err_from_is_err_and c.from_residual.result c.from_residual.ensures.1 in
    let at = c.args.at.now in
    let e = c.in_err-find_shapes.field-0.0 in
    let one = subst (λ ss. IsRefusalOn c.args.framed.now.frame.now (flat_map (shape_copies at) ss) c.chunks.found e) c.deref.ensures.value c.in_err-find_shapes.ensures.refused in
    rw (p.1, p.2) (subst (λ cs. IsRefusalOn c.args.framed.now.frame.now cs c.args.found.now e) (of_chunks at c.args.chunks.now)
    (many_next c.args.framed.now (chunk_copies at) c.args.chunks.now c.chunks.chunk-index c.chunk-item.result c.args.found.now c.chunks.found e c.chunks-test.true c.chunks.invariant
    (subst (λ r. IsRefusalOn c.args.framed.now.frame.now (chunk_copies at r) c.chunks.found e) c.chunk-item.is one)))

pub chunks-preserved : goal.chunks-preserved
chunks-preserved c =
    let at = c.args.at.now in
    let found = subst (λ ss. IsFound c.args.framed.now (flat_map (shape_copies at) ss) c.chunks.found c.find_shapes.new.found) c.deref.ensures.value c.in_ok-find_shapes.ensures.found in
    found_next c.args.framed.now (chunk_copies at) c.args.chunks.now c.chunks.chunk-index c.chunk-item.result c.args.found.now c.chunks.found
    c.find_shapes.new.found c.chunks-test.true c.chunks.invariant
    (subst (λ r. IsFound c.args.framed.now (chunk_copies at r) c.chunks.found c.find_shapes.new.found) c.chunk-item.is found)

pub returns-clause-found : goal.returns-clause-found
returns-clause-found c =
    subst (λ cs. IsFound c.args.framed.now cs c.args.found.now c.chunks.found) (of_chunks c.args.at.now c.args.chunks.now)
    (found_all c.args.framed.now (chunk_copies c.args.at.now) c.args.chunks.now c.chunks.chunk-index c.args.found.now c.chunks.found (omega (arith, c.chunks-test.false)) c.chunks.invariant)
