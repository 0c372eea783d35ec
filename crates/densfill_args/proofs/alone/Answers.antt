use Rattle.std.proofs.Common.{◌≡◌, ◌∙◌, sym, refl, Some, None}
use Rattle.std.specs.Prelude.{codes}
use Rattle.clap.specs.Words.{first_of, found_of, rows_of}
use Rattle.clap.proofs.WalkLemmas.{first_value-rows}
use Rattle.densfill_args.proofs.Saying.{alone_is}
use Rattle.densfill_args.proofs.alone.Goals as goal

pub returns-in-Some-clause-numbers : goal.returns-in-Some-clause-numbers
returns-in-Some-clause-numbers c =
    let rows = rows_of (found_of c.args.found.now) in
    alone_is (Some c.in-Some.field-0.now) (first_of (codes "limit") rows) (first_of (codes "workers") rows) (first_of (codes "limit") rows) None (sym (first_value-rows (found_of c.args.found.now) (codes "workers")) ∙ sym c.in-Some.ensures) refl refl

pub returns-in-Some-get_str-clause-numbers : goal.returns-in-Some-get_str-clause-numbers
returns-in-Some-get_str-clause-numbers c =
    let rows = rows_of (found_of c.args.found.now) in
    alone_is None (Some c.in-Some-get_str.field-0.now) (first_of (codes "workers") rows) (first_of (codes "limit") rows) None (sym (first_value-rows (found_of c.args.found.now) (codes "workers")) ∙ sym c.in-None.ensures)
    (sym (first_value-rows (found_of c.args.found.now) (codes "limit")) ∙ sym c.in-Some-get_str.ensures) refl

pub returns-in-None-get_str-clause-numbers : goal.returns-in-None-get_str-clause-numbers
returns-in-None-get_str-clause-numbers c =
    let rows = rows_of (found_of c.args.found.now) in
    alone_is None None (first_of (codes "workers") rows) (first_of (codes "limit") rows) (Some (1, None)) (sym (first_value-rows (found_of c.args.found.now) (codes "workers")) ∙ sym c.in-None.ensures)
    (sym (first_value-rows (found_of c.args.found.now) (codes "limit")) ∙ sym c.in-None-get_str.ensures) refl
