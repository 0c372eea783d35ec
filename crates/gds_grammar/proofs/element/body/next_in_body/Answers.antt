use Rattle.std.proofs.Common.{refl, map}
use Rattle.std.proofs.lemmas.Result.{err_from_is_err_and}
use Rattle.gds_record.specs.Records.{view}
use Rattle.gds_grammar.specs.Machine.{Body}
use Rattle.gds_grammar.proofs.Paths.{shorter, takes_one, refused_one, open_body}
use Rattle.gds_grammar.proofs.element.body.next_in_body.Goals as goal

pub returns-in_err-found-clause-refused : goal.returns-in_err-found-clause-refused
returns-in_err-found-clause-refused c =
    let p = err_from_is_err_and c.from_residual.result c.from_residual.ensures.1 in
    rw (p.1, p.2) (λ l n sh. c.in_err-found.ensures.refused (Body l n sh c.args.element (map view c.args.before.now)) (open_body l n sh _ _))

pub returns-in-Ok-clause-shorter : goal.returns-in-Ok-clause-shorter
returns-in-Ok-clause-shorter c = shorter _ _ (view c.in_ok-found.found) c.in_ok-found.ensures.found

pub returns-in-Ok-clause-found : goal.returns-in-Ok-clause-found
returns-in-Ok-clause-found c = λ l n sh. takes_one _ _ (view c.in_ok-found.found) _ _ c.in_ok-found.ensures.found (c.in-Ok.ensures.leads l n sh)

pub returns-in-Err-clause-refused : goal.returns-in-Err-clause-refused
returns-in-Err-clause-refused c = λ l n sh.
    rw c.refused.ensures (refused_one c.args.bytes.now _ (view c.in_ok-found.found) (Body l n sh c.args.element (map view c.args.before.now)) c.in-Err.refusal _ c.in_ok-found.ensures.found (open_body l n sh _ _) refl (c.in-Err.ensures.leads l n sh))
