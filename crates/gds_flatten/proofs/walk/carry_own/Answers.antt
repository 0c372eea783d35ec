use Rattle.std.proofs.Common.{◌≡◌, length, vec_len, arith, refl, ap, ◌-◌, ◌∙◌}
use Rattle.std.proofs.lemmas.Grind.{common_steps}
use Rattle.std.proofs.lemmas.Result.{err_from_is_err_and}
use Rattle.gds_cells.specs.steps.Walks.{part}
use Rattle.gds_flatten.proofs.Drawing.{refused_more}
use Rattle.gds_flatten.proofs.Sharing.{none_shared, chunk_copies, chunk_shared, chunk_leaves, all_chunks}
use Rattle.gds_flatten.proofs.walk.carry_own.Goals as goal

pub chunks-init : goal.chunks-init
chunks-init c = none_shared (chunk_copies c.args.at.now) c.args.chunks.now c.args.stretch.from c.args.stretch.to c.args.stretch.from c.args.stretch.to c.args.out.now.items refl refl

pub returns-in_err-carry_shapes-clause-refused : goal.returns-in_err-carry_shapes-clause-refused
returns-in_err-carry_shapes-clause-refused c =
    let p = err_from_is_err_and c.from_residual.result c.from_residual.ensures.1 in
    rw (p.1, p.2) (refused_more c.in_err-carry_shapes.field-0.0
    (chunk_leaves c.args.at.now c.args.chunks.now c.chunks.chunk-index c.chunk-item.result c.chunks-test.true c.chunk-item.is c.chunks.rest.from c.chunks.rest.to c.own_stretch.result.now
    (c.own_stretch.ensures ∙ ap (part c.chunks.rest.from c.chunks.rest.to) c.deref.ensures.value))
    c.in_err-carry_shapes.ensures.refused)

pub chunks-preserved : goal.chunks-preserved
chunks-preserved c =
    let long : c.len.result ≡ length c.chunk-item.result.items = let told = c.len.ensures in let listed : vec_len c.chunk-item.result ≡ length c.chunk-item.result.items = grind (arith, common_steps) in told ∙ listed in
    chunk_shared c.args.at.now c.args.chunks.now c.chunks.chunk-index c.chunk-item.result c.chunks-test.true c.chunk-item.is c.args.stretch.from c.args.stretch.to c.chunks.rest.from c.chunks.rest.to
    c.behind-rest.result.from c.behind-rest.result.to c.own_stretch.result.now c.args.out.now.items c.chunks.out.items c.carry_shapes.new.out.items c.chunks.invariant
    (c.own_stretch.ensures ∙ ap (part c.chunks.rest.from c.chunks.rest.to) c.deref.ensures.value) c.in_ok-carry_shapes.ensures.drawn
    (c.behind-rest.ensures.from ∙ ap (λ n. c.chunks.rest.from - n) long) (c.behind-rest.ensures.to ∙ ap (λ n. c.chunks.rest.to - n) long)

pub returns-clause-drawn : goal.returns-clause-drawn
returns-clause-drawn c =
    (all_chunks c.args.at.now c.args.chunks.now c.chunks.chunk-index c.args.stretch.from c.args.stretch.to c.chunks.rest.from c.chunks.rest.to c.args.out.now.items c.chunks.out.items
    (omega (arith, c.chunks-test.false)) c.chunks.invariant).0

pub returns-clause-from : goal.returns-clause-from
returns-clause-from c =
    (all_chunks c.args.at.now c.args.chunks.now c.chunks.chunk-index c.args.stretch.from c.args.stretch.to c.chunks.rest.from c.chunks.rest.to c.args.out.now.items c.chunks.out.items
    (omega (arith, c.chunks-test.false)) c.chunks.invariant).1.0

pub returns-clause-to : goal.returns-clause-to
returns-clause-to c =
    (all_chunks c.args.at.now c.args.chunks.now c.chunks.chunk-index c.args.stretch.from c.args.stretch.to c.chunks.rest.from c.chunks.rest.to c.args.out.now.items c.chunks.out.items
    (omega (arith, c.chunks-test.false)) c.chunks.invariant).1.1
