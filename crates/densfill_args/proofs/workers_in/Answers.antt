use Rattle.std.proofs.Common.{◌∙◌, sym}
use Rattle.std.specs.Prelude.{codes}
use Rattle.clap.specs.Words.{found_of, one_of, rows_of}
use Rattle.clap.proofs.WalkLemmas.{first_value-rows, one_text-rows}
use Rattle.densfill_args.proofs.Saying.{no_workers, number_read, number_unread, some_text, workers_read, workers_unread}
use Rattle.densfill_args.proofs.workers_in.Goals as goal

pub returns-in-None-clause-workers : goal.returns-in-None-clause-workers
returns-in-None-clause-workers c = no_workers (rows_of (found_of c.args.found.now)) (sym (first_value-rows (found_of c.args.found.now) (codes "workers")) ∙ sym c.in-None.ensures)

pub returns-in_ok-get_one-in-Some-clause-workers : goal.returns-in_ok-get_one-in-Some-clause-workers
returns-in_ok-get_one-in-Some-clause-workers c =
    let found = found_of c.args.found.now in
    let text = some_text (codes "workers") (rows_of found) c.in-Some.field-0.now (sym (first_value-rows found (codes "workers")) ∙ sym c.in-Some.ensures) in
    let parsed = c.in_ok-get_one-in-Some.ensures.value text.0 (one_text-rows found (codes "workers") ∙ text.1) in
    c.crew.ensures ∙ workers_read (one_of (codes "workers") (rows_of found)) text.0 c.in_ok-get_one-in-Some.field-0 text.1 (number_read text.0 c.in_ok-get_one-in-Some.field-0 parsed.0.0 parsed.0.1)

pub returns-in_err-get_one-in-Some-clause-workers : goal.returns-in_err-get_one-in-Some-clause-workers
returns-in_err-get_one-in-Some-clause-workers c =
    let found = found_of c.args.found.now in
    let text = some_text (codes "workers") (rows_of found) c.in-Some.field-0.now (sym (first_value-rows found (codes "workers")) ∙ sym c.in-Some.ensures) in
    let parsed = c.in_err-get_one-in-Some.ensures.value text.0 (one_text-rows found (codes "workers") ∙ text.1) in
    c.from_residual.ensures ∙ workers_unread (one_of (codes "workers") (rows_of found)) text.0 text.1 (number_unread text.0 parsed.1.0)
