use Rattle.std.proofs.Common.{◌≡◌, ◌∙◌, sym, None, rules}
use Rattle.std.specs.Prelude.{codes}
use Rattle.clap.specs.Words.{first_of, found_of, rows_of}
use Rattle.clap.proofs.WalkLemmas.{first_value-rows}
use Rattle.densfill_args.proofs.Saying.{no_part_named, part_read, part_unread}
use Rattle.densfill_args.proofs.part_in.Goals as goal

pub returns-in_err-part_numbers-in-Some-clause-part : goal.returns-in_err-part_numbers-in-Some-clause-part
returns-in_err-part_numbers-in-Some-clause-part c =
    let none : c.from_residual.result ≡ None = search rules in
    none ∙ part_unread (first_of (codes "part") (rows_of (found_of c.args.found.now))) c.in-Some.part.now (sym (first_value-rows (found_of c.args.found.now) (codes "part")) ∙ sym c.in-Some.ensures) c.in_err-part_numbers-in-Some.ensures.numbers

pub returns-in_ok-part_numbers-in-Some-clause-part : goal.returns-in_ok-part_numbers-in-Some-clause-part
returns-in_ok-part_numbers-in-Some-clause-part c =
    part_read (first_of (codes "part") (rows_of (found_of c.args.found.now))) c.in-Some.part.now c.in_ok-part_numbers-in-Some.field-0 (sym (first_value-rows (found_of c.args.found.now) (codes "part")) ∙ sym c.in-Some.ensures) c.in_ok-part_numbers-in-Some.ensures.numbers

pub returns-in-None-clause-part : goal.returns-in-None-clause-part
returns-in-None-clause-part c = no_part_named (first_of (codes "part") (rows_of (found_of c.args.found.now))) (sym (first_value-rows (found_of c.args.found.now) (codes "part")) ∙ sym c.in-None.ensures)
