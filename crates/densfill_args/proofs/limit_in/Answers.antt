use Rattle.std.proofs.Common.{◌∙◌, sym}
use Rattle.std.specs.Prelude.{codes}
use Rattle.clap.specs.Words.{found_of, one_of, rows_of}
use Rattle.clap.proofs.WalkLemmas.{first_value-rows, one_text-rows}
use Rattle.densfill_args.proofs.Saying.{limit_read, limit_unread, no_limit, number_read, number_unread, some_text}
use Rattle.densfill_args.proofs.limit_in.Goals as goal

pub returns-in-None : goal.returns-in-None
returns-in-None c = no_limit (rows_of (found_of c.args.found.now)) (sym (first_value-rows (found_of c.args.found.now) (codes "limit")) ∙ sym c.in-None.ensures)

pub returns-in_ok-get_one-in-Some : goal.returns-in_ok-get_one-in-Some
returns-in_ok-get_one-in-Some c =
    let found = found_of c.args.found.now in
    let text = some_text (codes "limit") (rows_of found) c.in-Some.field-0.now (sym (first_value-rows found (codes "limit")) ∙ sym c.in-Some.ensures) in
    let parsed = c.in_ok-get_one-in-Some.ensures.value text.0 (one_text-rows found (codes "limit") ∙ text.1) in
    limit_read (one_of (codes "limit") (rows_of found)) text.0 c.in_ok-get_one-in-Some.field-0 text.1 (number_read text.0 c.in_ok-get_one-in-Some.field-0 parsed.0.0 parsed.0.1)

pub returns-in_err-get_one-in-Some : goal.returns-in_err-get_one-in-Some
returns-in_err-get_one-in-Some c =
    let found = found_of c.args.found.now in
    let text = some_text (codes "limit") (rows_of found) c.in-Some.field-0.now (sym (first_value-rows found (codes "limit")) ∙ sym c.in-Some.ensures) in
    let parsed = c.in_err-get_one-in-Some.ensures.value text.0 (one_text-rows found (codes "limit") ∙ text.1) in
    c.from_residual.ensures ∙ limit_unread (one_of (codes "limit") (rows_of found)) text.0 text.1 (number_unread text.0 parsed.1.0)
