use Rattle.std.proofs.Common.{◌≡◌, ◌∙◌, rules, None}
use Rattle.clap.specs.Words.{found_of, rows_of}
use Rattle.densfill_args.proofs.Saying.{both_numbers, no_crew, no_turns}
use Rattle.densfill_args.proofs.numbers_in.Goals as goal

pub returns-in_err-workers-clause-numbers : goal.returns-in_err-workers-clause-numbers
returns-in_err-workers-clause-numbers c =
    let none : c.from_residual.result ≡ None = search rules in
    none ∙ no_crew (rows_of (found_of c.args.found.now)) c.in_err-workers.ensures.workers

pub returns-in_err-limit-clause-numbers : goal.returns-in_err-limit-clause-numbers
returns-in_err-limit-clause-numbers c =
    let none : c.from_residual-in_err-limit.result ≡ None = search rules in
    none ∙ no_turns (rows_of (found_of c.args.found.now)) c.in_ok-workers.workers c.in_ok-workers.ensures.workers c.in_err-limit.ensures

pub returns-clause-numbers : goal.returns-clause-numbers
returns-clause-numbers c = both_numbers (rows_of (found_of c.args.found.now)) c.in_ok-workers.workers c.in_ok-limit.limit c.in_ok-workers.ensures.workers c.in_ok-limit.ensures
