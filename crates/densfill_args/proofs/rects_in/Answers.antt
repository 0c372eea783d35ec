use Rattle.std.proofs.Common.{◌≡◌, ◌∙◌, rules, sym, ap, None, option_map}
use Rattle.std.specs.Prelude.{codes}
use Rattle.clap.specs.Words.{found_of, rows_of}
use Rattle.clap.proofs.WalkLemmas.{first_value-rows}
use Rattle.densfill_args.specs.Grammar.{rects}
use Rattle.densfill_args.specs.Lines.{text_of}
use Rattle.densfill_args.proofs.Saying.{no_first, no_second, both_found}
use Rattle.densfill_args.proofs.rects_in.Goals as goal

pub returns-in_err-rules : goal.returns-in_err-rules
returns-in_err-rules c =
    let none : c.from_residual.result ≡ None = search rules in
    ap (option_map text_of) none ∙ no_first rects (codes "RULES") (codes "SCRIPT") (rows_of (found_of c.args.found.now))
    (sym (first_value-rows (found_of c.args.found.now) (codes "RULES")) ∙ sym c.in_err-rules.ensures)

pub returns-in_err-script : goal.returns-in_err-script
returns-in_err-script c =
    let none : c.from_residual-in_err-script.result ≡ None = search rules in
    ap (option_map text_of) none ∙ no_second rects (codes "RULES") (codes "SCRIPT") (rows_of (found_of c.args.found.now)) c.in_ok-rules.rules.now
    (sym (first_value-rows (found_of c.args.found.now) (codes "RULES")) ∙ sym c.in_ok-rules.ensures)
    (sym (first_value-rows (found_of c.args.found.now) (codes "SCRIPT")) ∙ sym c.in_err-script.ensures)

pub returns : goal.returns
returns c =
    both_found rects (codes "RULES") (codes "SCRIPT") (rows_of (found_of c.args.found.now)) c.in_ok-rules.rules.now c.in_ok-script.script.now
    (sym (first_value-rows (found_of c.args.found.now) (codes "RULES")) ∙ sym c.in_ok-rules.ensures)
    (sym (first_value-rows (found_of c.args.found.now) (codes "SCRIPT")) ∙ sym c.in_ok-script.ensures)
