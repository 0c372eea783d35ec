use Rattle.std.proofs.Common.{refl}
use Rattle.std.proofs.lemmas.Result.{err_from_is_err_and}
use Rattle.gds_record.specs.Records.{view}
use Rattle.gds_grammar.specs.steps.Reading.{parts_state}
use Rattle.gds_grammar.proofs.Paths.{shorter, takes_one, refused_one, open_parts, size_16}
use Rattle.gds_grammar.proofs.head.next_part.Goals as goal

pub returns-in_err-found-clause-refused : goal.returns-in_err-found-clause-refused
returns-in_err-found-clause-refused c =
    let p = err_from_is_err_and c.from_residual.result c.from_residual.ensures.1 in
    rw (p.1, p.2) (λ dates. c.in_err-found.ensures.refused (parts_state c.args.titled dates) (open_parts c.args.titled dates))

pub returns-in-Ok-clause-size : goal.returns-in-Ok-clause-size
returns-in-Ok-clause-size c = λ last. size_16 (view c.in_ok-found.found) c.in_ok-found.ensures.found.well (c.in-Ok.ensures.last last)

pub returns-in-Ok-clause-found : goal.returns-in-Ok-clause-found
returns-in-Ok-clause-found c = λ dates. takes_one _ _ (view c.in_ok-found.found) _ _ c.in_ok-found.ensures.found (c.in-Ok.ensures.leads dates)

pub returns-in-Err-clause-refused : goal.returns-in-Err-clause-refused
returns-in-Err-clause-refused c = λ dates.
    rw c.refused.ensures (refused_one c.args.bytes.now _ (view c.in_ok-found.found) (parts_state c.args.titled dates) c.in-Err.refusal _ c.in_ok-found.ensures.found (open_parts c.args.titled dates) refl (c.in-Err.ensures.leads dates))

pub returns-in-Ok-clause-shorter : goal.returns-in-Ok-clause-shorter
returns-in-Ok-clause-shorter c = shorter _ _ (view c.in_ok-found.found) c.in_ok-found.ensures.found
