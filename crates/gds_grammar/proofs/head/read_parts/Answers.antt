use Rattle.std.proofs.Common.{subst}
use Rattle.std.proofs.lemmas.Result.{err_from_is_err_and}
use Rattle.gds_grammar.specs.Machine.{Dated}
use Rattle.gds_grammar.specs.steps.Reading.{Reaches, parts_state, after_part}
use Rattle.gds_grammar.proofs.Paths.{stays_put, and_then, fails_after}
use Rattle.gds_grammar.proofs.head.read_parts.Goals as goal

pub parts-init : goal.parts-init
parts-init c = λ dates. stays_put _ _

pub returns-in_err-part-clause-refused : goal.returns-in_err-part-clause-refused
returns-in_err-part-clause-refused c =
    let p = err_from_is_err_and c.from_residual.result c.from_residual.ensures.1 in
    rw (p.1, p.2) (λ dates. fails_after c.args.bytes.now c.parts.rest.now (Dated dates) (parts_state c.parts.titled dates) _ (c.parts.invariant dates) (c.in_err-part.ensures.refused dates))

pub returns-in-Last-clause-found : goal.returns-in-Last-clause-found
returns-in-Last-clause-found c = λ dates.
    let here = parts_state c.parts.titled dates in
    and_then c.args.bytes.now c.parts.rest.now c.in_ok-part.after.now (Dated dates) here _ (c.parts.invariant dates)
    (subst (λ part. Reaches c.parts.rest.now here c.in_ok-part.after.now (after_part part dates c.in_ok-part.body.now)) c.in-Last.is (c.in_ok-part.ensures.found dates))

pub parts-preserved : goal.parts-preserved
parts-preserved c = λ dates.
    let here = parts_state c.parts.titled dates in
    and_then c.args.bytes.now c.parts.rest.now c.in_ok-part.after.now (Dated dates) here _ (c.parts.invariant dates)
    (subst (λ part. Reaches c.parts.rest.now here c.in_ok-part.after.now (after_part part dates c.in_ok-part.body.now)) c.in-More.is (c.in_ok-part.ensures.found dates))
