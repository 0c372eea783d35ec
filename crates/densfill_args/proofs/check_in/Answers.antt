use Rattle.std.proofs.Common.{◌≡◌, ◌∙◌, rules, sym, ap, None, option_map}
use Rattle.std.specs.Prelude.{codes}
use Rattle.clap.specs.Words.{found_of, rows_of}
use Rattle.clap.proofs.WalkLemmas.{first_value-rows}
use Rattle.densfill_args.specs.Lines.{text_of}
use Rattle.densfill_args.proofs.Saying.{bad_part, checked, no_check_design, no_check_rules}
use Rattle.densfill_args.proofs.check_in.Goals as goal

pub returns-in_err-rules-clause-line : goal.returns-in_err-rules-clause-line
returns-in_err-rules-clause-line c =
    let none : c.from_residual.result ≡ None = search rules in
    ap (option_map text_of) none ∙ no_check_rules (rows_of (found_of c.args.found.now))
    (sym (first_value-rows (found_of c.args.found.now) (codes "RULES")) ∙ sym c.in_err-rules.ensures)

pub returns-in_err-design-clause-line : goal.returns-in_err-design-clause-line
returns-in_err-design-clause-line c =
    let none : c.from_residual-in_err-design.result ≡ None = search rules in
    ap (option_map text_of) none ∙ no_check_design (rows_of (found_of c.args.found.now)) c.in_ok-rules.rules.now
    (sym (first_value-rows (found_of c.args.found.now) (codes "RULES")) ∙ sym c.in_ok-rules.ensures)
    (sym (first_value-rows (found_of c.args.found.now) (codes "DESIGN")) ∙ sym c.in_err-design.ensures)

pub returns-in_err-part-clause-line : goal.returns-in_err-part-clause-line
returns-in_err-part-clause-line c =
    let none : c.from_residual-in_err-part.result ≡ None = search rules in
    ap (option_map text_of) none ∙ bad_part (rows_of (found_of c.args.found.now)) c.in_ok-rules.rules.now c.in_ok-design.design.now
    (sym (first_value-rows (found_of c.args.found.now) (codes "RULES")) ∙ sym c.in_ok-rules.ensures)
    (sym (first_value-rows (found_of c.args.found.now) (codes "DESIGN")) ∙ sym c.in_ok-design.ensures)
    c.in_err-part.ensures.part

pub returns-clause-line : goal.returns-clause-line
returns-clause-line c =
    checked (rows_of (found_of c.args.found.now)) c.in_ok-rules.rules.now c.in_ok-design.design.now c.in_ok-part.part
    (sym (first_value-rows (found_of c.args.found.now) (codes "RULES")) ∙ sym c.in_ok-rules.ensures)
    (sym (first_value-rows (found_of c.args.found.now) (codes "DESIGN")) ∙ sym c.in_ok-design.ensures)
    c.in_ok-part.ensures.part
