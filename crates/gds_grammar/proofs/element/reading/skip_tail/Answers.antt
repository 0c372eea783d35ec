use Rattle.std.proofs.Common.{Bool, subst}
use Rattle.std.proofs.lemmas.Result.{err_from_is_err_and}
use Rattle.gds_grammar.specs.Machine.{Tail}
use Rattle.gds_grammar.specs.steps.Reading.{Reaches, after_tail}
use Rattle.gds_grammar.proofs.Paths.{stays_put, and_then, fails_after}
use Rattle.gds_grammar.proofs.element.reading.skip_tail.Goals as goal

pub tail-init : goal.tail-init
tail-init c = λ x n sh. stays_put _ _

pub returns-in_err-ended-clause-refused : goal.returns-in_err-ended-clause-refused
returns-in_err-ended-clause-refused c =
    let p = err_from_is_err_and c.from_residual.result c.from_residual.ensures.1 in
    rw (p.1, p.2) (λ l n sh. fails_after c.args.bytes.now c.tail.rest.now _ (Tail l n sh) _ (c.tail.invariant l n sh) (c.in_err-ended.ensures.refused l n sh))

pub returns-then-ended-clause-found : goal.returns-then-ended-clause-found
returns-then-ended-clause-found c = λ l n sh.
    and_then c.args.bytes.now c.tail.rest.now c.in_ok-ended.after.now _ (Tail l n sh) _ (c.tail.invariant l n sh)
    (subst (λ (b : Bool). Reaches c.tail.rest.now (Tail l n sh) c.in_ok-ended.after.now (after_tail b l n sh)) c.if-ended.true (c.in_ok-ended.ensures.found l n sh))

pub tail-preserved : goal.tail-preserved
tail-preserved c = λ l n sh.
    and_then c.args.bytes.now c.tail.rest.now c.in_ok-ended.after.now _ (Tail l n sh) _ (c.tail.invariant l n sh)
    (subst (λ (b : Bool). Reaches c.tail.rest.now (Tail l n sh) c.in_ok-ended.after.now (after_tail b l n sh)) c.if-ended.false (c.in_ok-ended.ensures.found l n sh))
