use Rattle.std.proofs.Common.{◌≡◌, ◌∙◌, rules, sym, ap, None, option_map}
use Rattle.std.specs.Prelude.{codes}
use Rattle.clap.specs.Words.{found_of, rows_of}
use Rattle.clap.proofs.WalkLemmas.{first_value-rows}
use Rattle.densfill_args.specs.Lines.{text_of}
use Rattle.densfill_args.proofs.Saying.{all_found, bad_numbers, no_design, no_out, no_part, no_rules, no_script}
use Rattle.densfill_args.proofs.fill_in.Goals as goal

pub returns-in_err-rules-clause-line : goal.returns-in_err-rules-clause-line
returns-in_err-rules-clause-line c =
    let none : c.from_residual.result ≡ None = search rules in
    ap (option_map text_of) none ∙ no_rules (rows_of (found_of c.args.found.now))
    (sym (first_value-rows (found_of c.args.found.now) (codes "RULES")) ∙ sym c.in_err-rules.ensures)

pub returns-in_err-design-clause-line : goal.returns-in_err-design-clause-line
returns-in_err-design-clause-line c =
    let none : c.from_residual-in_err-design.result ≡ None = search rules in
    ap (option_map text_of) none ∙ no_design (rows_of (found_of c.args.found.now)) c.in_ok-rules.rules.now (sym (first_value-rows (found_of c.args.found.now) (codes "RULES")) ∙ sym c.in_ok-rules.ensures)
    (sym (first_value-rows (found_of c.args.found.now) (codes "DESIGN")) ∙ sym c.in_err-design.ensures)

pub returns-in_err-script-clause-line : goal.returns-in_err-script-clause-line
returns-in_err-script-clause-line c =
    let none : c.from_residual-in_err-script.result ≡ None = search rules in
    ap (option_map text_of) none ∙ no_script (rows_of (found_of c.args.found.now)) c.in_ok-rules.rules.now c.in_ok-design.design.now (sym (first_value-rows (found_of c.args.found.now) (codes "RULES")) ∙ sym c.in_ok-rules.ensures) (sym (first_value-rows (found_of c.args.found.now) (codes "DESIGN")) ∙ sym c.in_ok-design.ensures)
    (sym (first_value-rows (found_of c.args.found.now) (codes "SCRIPT")) ∙ sym c.in_err-script.ensures)

pub returns-in_err-out-clause-line : goal.returns-in_err-out-clause-line
returns-in_err-out-clause-line c =
    let none : c.from_residual-in_err-out.result ≡ None = search rules in
    ap (option_map text_of) none ∙ no_out (rows_of (found_of c.args.found.now)) c.in_ok-rules.rules.now c.in_ok-design.design.now c.in_ok-script.script.now (sym (first_value-rows (found_of c.args.found.now) (codes "RULES")) ∙ sym c.in_ok-rules.ensures) (sym (first_value-rows (found_of c.args.found.now) (codes "DESIGN")) ∙ sym c.in_ok-design.ensures) (sym (first_value-rows (found_of c.args.found.now) (codes "SCRIPT")) ∙ sym c.in_ok-script.ensures)
    (sym (first_value-rows (found_of c.args.found.now) (codes "OUT")) ∙ sym c.in_err-out.ensures)

pub returns-in_err-part-clause-line : goal.returns-in_err-part-clause-line
returns-in_err-part-clause-line c =
    let none : c.from_residual-in_err-part.result ≡ None = search rules in
    ap (option_map text_of) none ∙ no_part (rows_of (found_of c.args.found.now)) c.in_ok-rules.rules.now c.in_ok-design.design.now c.in_ok-script.script.now c.in_ok-out.out.now
    (record {
      rules = sym (first_value-rows (found_of c.args.found.now) (codes "RULES")) ∙ sym c.in_ok-rules.ensures;
      design = sym (first_value-rows (found_of c.args.found.now) (codes "DESIGN")) ∙ sym c.in_ok-design.ensures;
      script = sym (first_value-rows (found_of c.args.found.now) (codes "SCRIPT")) ∙ sym c.in_ok-script.ensures;
      out = sym (first_value-rows (found_of c.args.found.now) (codes "OUT")) ∙ sym c.in_ok-out.ensures;
    })
    c.in_err-part.ensures.part

pub returns-in_err-workers-clause-line : goal.returns-in_err-workers-clause-line
returns-in_err-workers-clause-line c =
    let none : c.from_residual-in_err-workers.result ≡ None = search rules in
    ap (option_map text_of) none ∙ bad_numbers (rows_of (found_of c.args.found.now)) c.in_ok-rules.rules.now c.in_ok-design.design.now c.in_ok-script.script.now c.in_ok-out.out.now c.in_ok-part.part
    (record {
      rules = sym (first_value-rows (found_of c.args.found.now) (codes "RULES")) ∙ sym c.in_ok-rules.ensures;
      design = sym (first_value-rows (found_of c.args.found.now) (codes "DESIGN")) ∙ sym c.in_ok-design.ensures;
      script = sym (first_value-rows (found_of c.args.found.now) (codes "SCRIPT")) ∙ sym c.in_ok-script.ensures;
      out = sym (first_value-rows (found_of c.args.found.now) (codes "OUT")) ∙ sym c.in_ok-out.ensures;
    })
    c.in_ok-part.ensures.part c.in_err-workers.ensures.numbers

pub returns-clause-line : goal.returns-clause-line
returns-clause-line c =
    all_found (rows_of (found_of c.args.found.now)) c.in_ok-rules.rules.now c.in_ok-design.design.now c.in_ok-script.script.now c.in_ok-out.out.now c.in_ok-part.part (c.in_ok-workers.workers, c.in_ok-workers.limit)
    (record {
      rules = sym (first_value-rows (found_of c.args.found.now) (codes "RULES")) ∙ sym c.in_ok-rules.ensures;
      design = sym (first_value-rows (found_of c.args.found.now) (codes "DESIGN")) ∙ sym c.in_ok-design.ensures;
      script = sym (first_value-rows (found_of c.args.found.now) (codes "SCRIPT")) ∙ sym c.in_ok-script.ensures;
      out = sym (first_value-rows (found_of c.args.found.now) (codes "OUT")) ∙ sym c.in_ok-out.ensures;
    })
    c.in_ok-part.ensures.part c.in_ok-workers.ensures.numbers
