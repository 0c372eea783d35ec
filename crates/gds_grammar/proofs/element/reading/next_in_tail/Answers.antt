use Rattle.std.proofs.Common.{refl, arith}
use Rattle.std.proofs.lemmas.Result.{err_from_is_err_and}
use Rattle.gds_record.specs.Records.{view}
use Rattle.gds_grammar.specs.declared.error.Refusal.TheVariants.{Unexpected}
use Rattle.gds_grammar.specs.Grammar.{all_rules}
use Rattle.gds_grammar.specs.Machine.{Tail, Paired}
use Rattle.gds_grammar.proofs.Along.{move_attribute, move_endel}
use Rattle.gds_grammar.proofs.Paths.{and_then, fails_after, takes_one, refused_one, reach_value, open_tail, open_paired, only_value, tail_refused}
use Rattle.gds_grammar.proofs.element.reading.next_in_tail.Goals as goal

pub returns-in_err-found-clause-refused : goal.returns-in_err-found-clause-refused
returns-in_err-found-clause-refused c =
    let p = err_from_is_err_and c.from_residual.result c.from_residual.ensures.1 in
    rw (p.1, p.2) (λ l n sh. c.in_err-found.ensures.refused (Tail l n sh) (open_tail l n sh))

pub returns-in_err-_value-in-43-clause-refused : goal.returns-in_err-_value-in-43-clause-refused
returns-in_err-_value-in-43-clause-refused c =
    let p = err_from_is_err_and c.from_residual-in_err-_value-in-43.result c.from_residual-in_err-_value-in-43.ensures.1 in
    rw (p.1, p.2) (λ l n sh. fails_after c.args.bytes.now c.in_ok-found.rest.now (Tail l n sh) (Paired l n sh) _
    (takes_one _ _ (view c.in_ok-found.found) (Tail l n sh) (Paired l n sh) c.in_ok-found.ensures.found (move_attribute all_rules l n sh (view c.in_ok-found.found) c.in-43.is))
    (c.in_err-_value-in-43.ensures.refused (Paired l n sh) (open_paired l n sh) (only_value l n sh)))

pub returns-in_ok-_value-in-43-clause-found : goal.returns-in_ok-_value-in-43-clause-found
returns-in_ok-_value-in-43-clause-found c = λ l n sh.
    and_then c.args.bytes.now c.in_ok-found.rest.now c.in_ok-_value-in-43.after.now (Tail l n sh) (Paired l n sh) (Tail l n sh)
    (takes_one _ _ (view c.in_ok-found.found) (Tail l n sh) (Paired l n sh) c.in_ok-found.ensures.found (move_attribute all_rules l n sh (view c.in_ok-found.found) c.in-43.is))
    (reach_value _ _ _ l n sh c.in_ok-_value-in-43.ensures.found)

pub returns-in-17-clause-found : goal.returns-in-17-clause-found
returns-in-17-clause-found c = λ l n sh. takes_one _ _ (view c.in_ok-found.found) _ _ c.in_ok-found.ensures.found (move_endel all_rules l n sh (view c.in_ok-found.found) c.in-17.is)

pub returns-in_default-clause-refused : goal.returns-in_default-clause-refused
returns-in_default-clause-refused c = λ l n sh.
    rw c.refused.ensures (refused_one c.args.bytes.now _ (view c.in_ok-found.found) (Tail l n sh) Unexpected _ c.in_ok-found.ensures.found (open_tail l n sh) refl
    (tail_refused l n sh (view c.in_ok-found.found) (λ e. omega (arith, e)) (λ e. omega (arith, e))))
