use Rattle.std.proofs.Common.{[], refl, arith}
use Rattle.std.proofs.lemmas.Result.{err_from_is_err_and}
use Rattle.gds_record.specs.Records.{view}
use Rattle.gds_grammar.specs.declared.error.Refusal.TheVariants.{Unexpected}
use Rattle.gds_grammar.specs.Grammar.{all_rules}
use Rattle.gds_grammar.specs.Machine.{Between, Opened}
use Rattle.gds_grammar.proofs.Along.{move_bgnstr, move_endlib}
use Rattle.gds_grammar.proofs.Paths.{and_then, fails_after, takes_one, refused_one, shorter, open_between, between_refused}
use Rattle.gds_grammar.proofs.library.next_cell.Goals as goal

pub returns-in_err-found-clause-refused : goal.returns-in_err-found-clause-refused
returns-in_err-found-clause-refused c =
    let p = err_from_is_err_and c.from_residual.result c.from_residual.ensures.1 in
    rw (p.1, p.2) (λ l same. c.in_err-found.ensures.refused (Between l) (open_between l))

pub returns-in_err-rest-in-5-clause-refused : goal.returns-in_err-rest-in-5-clause-refused
returns-in_err-rest-in-5-clause-refused c =
    let p = err_from_is_err_and c.from_residual-in_err-rest-in-5.result c.from_residual-in_err-rest-in-5.ensures.1 in
    rw (p.1, p.2) (λ l same. fails_after c.args.bytes.now c.in_ok-found.after.now (Between l) (Opened l) _
    (takes_one _ _ (view c.in_ok-found.found) (Between l) (Opened l) c.in_ok-found.ensures.found (move_bgnstr all_rules l (view c.in_ok-found.found) c.in-5.is))
    (c.in_err-rest-in-5.ensures.refused l same))

pub returns-in_ok-rest-in-5-clause-found : goal.returns-in_ok-rest-in-5-clause-found
returns-in_ok-rest-in-5-clause-found c = λ l same.
    let led = c.in_ok-rest-in-5.ensures.found l same in
    record {
      contents = led.contents;
      kept_are = led.kept_are;
      reached = and_then c.args.bytes.now c.in_ok-found.after.now c.in_ok-rest-in-5.rest.now (Between l) (Opened l) _
          (takes_one _ _ (view c.in_ok-found.found) (Between l) (Opened l) c.in_ok-found.ensures.found (move_bgnstr all_rules l (view c.in_ok-found.found) c.in-5.is))
          led.reached;
    }

pub returns-in_ok-rest-in-5-clause-shorter : goal.returns-in_ok-rest-in-5-clause-shorter
returns-in_ok-rest-in-5-clause-shorter c =
    omega (arith, shorter _ _ (view c.in_ok-found.found) c.in_ok-found.ensures.found, c.in_ok-rest-in-5.ensures.shorter)

pub returns-in-4-clause-found : goal.returns-in-4-clause-found
returns-in-4-clause-found c = λ l same. record {
  contents = l;
  kept_are = same;
  reached = takes_one _ _ (view c.in_ok-found.found) _ _ c.in_ok-found.ensures.found (move_endlib all_rules l (view c.in_ok-found.found) c.in-4.is);
}

pub returns-in_default-clause-refused : goal.returns-in_default-clause-refused
returns-in_default-clause-refused c =
    rw c.refused.ensures (λ l same. refused_one c.args.bytes.now _ (view c.in_ok-found.found) (Between l) Unexpected _ c.in_ok-found.ensures.found (open_between l) refl
    (between_refused l (view c.in_ok-found.found) (λ e. omega (arith, e)) (λ e. omega (arith, e))))
