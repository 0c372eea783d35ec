use Rattle.std.proofs.Common.{◌∙◌, ℕ, ℤ, Bool, List, Err, ap, map, take}
use Rattle.std.proofs.lemmas.Result.{err_from_is_err_and}
use Rattle.std.specs.Io.KnownBytes.{Appends}
use Rattle.std.specs.List.{flat_map}
use Rattle.std.specs.Vec.{vec_items}
use Rattle.densfill_io.specs.Taps.{under}
use Rattle.fill_region.specs.Squares.{covered}
use Rattle.fill_report.specs.RulesReport.{metal_report}
use Rattle.fill_text.specs.Script.{change_of}
use Rattle.fill_text.specs.ValuesOfRules.{values_of}
use Rattle.fill_text.specs.declared.script.Edit.{Edit}
use Rattle.densfill_engine.specs.declared.refusal.Refusal.TheVariants.{Report}
use Rattle.densfill_engine.specs.Metal.{is_metal}
use Rattle.densfill_engine.proofs.Checking.{as_error}
use Rattle.densfill_engine.proofs.Reasons.{answered, output_reason, report_is, rules_are, script_reason}
use Rattle.densfill_engine.proofs.subcommands.rects.Goals as goal

pub returns-in_err-edits-clause-refused : goal.returns-in_err-edits-clause-refused
returns-in_err-edits-clause-refused g c =
    let p = err_from_is_err_and c.from_residual-in_err-edits.result c.from_residual-in_err-edits.ensures.1 in
    rw (p.1, p.2) (script_reason (g.R.Read.remaining (under c.args.rules.now)) (g.S.Read.remaining (under c.args.script.now)) (values_of c.in_ok-values.values) c.in_err-edits.field-0.0 c.in_ok-values.ensures.rules c.in_err-edits.ensures.refused)

pub returns-in_err-lists-clause-refused : goal.returns-in_err-lists-clause-refused
returns-in_err-lists-clause-refused g c =
    let p = err_from_is_err_and c.from_residual-in_err-lists.result c.from_residual-in_err-lists.ensures.1 in
    rw (p.1, p.2) (answered (g.R.Read.remaining (under c.args.rules.now)) (g.S.Read.remaining (under c.args.script.now)) (values_of c.in_ok-values.values) (map change_of c.in_ok-edits.edits.items) c.in_ok-values.ensures.rules c.in_ok-edits.ensures.edits)

pub returns-in_err-write_report-clause-refused : goal.returns-in_err-write_report-clause-refused
returns-in_err-write_report-clause-refused g c =
    let p = err_from_is_err_and c.from_residual-in_err-write_report.result c.from_residual-in_err-write_report.ensures.1 in
    rw (p.1, p.2) (output_reason (g.R.Read.remaining (under c.args.rules.now)) (g.S.Read.remaining (under c.args.script.now)) (values_of c.in_ok-values.values) (map change_of c.in_ok-edits.edits.items) c.in_err-write_report.field-0.0
    c.in_ok-values.ensures.rules c.in_ok-edits.ensures.edits c.in_err-write_report.ensures.refused)

pub returns-in_err-write_report-clause-prefix : goal.returns-in_err-write_report-clause-prefix
returns-in_err-write_report-clause-prefix g c =
    let p = err_from_is_err_and c.from_residual-in_err-write_report.result c.from_residual-in_err-write_report.ensures.1 in
    let made = ap (λ (m : ℤ → ℤ → Bool). metal_report m (values_of c.in_ok-values.values))
    (c.in_ok-lists.ensures ∙ ap (λ (l : List Edit). is_metal (map change_of l)) c.deref.ensures.value) in
    λ is. report_is (g.R.Read.remaining (under c.args.rules.now)) (g.S.Read.remaining (under c.args.script.now)) (values_of c.in_ok-values.values)
    (map change_of c.in_ok-edits.edits.items) (metal_report (covered (flat_map vec_items c.in_ok-lists.lists.items)) (values_of c.in_ok-values.values))
    (λ text. (k : ℕ) × Appends (g.W.Write.contents (under c.args.out.now)) (g.W.Write.contents (under c.write_report.new.out)) (take k text))
    c.in_ok-values.ensures.rules c.in_ok-edits.ensures.edits made (c.in_err-write_report.ensures.prefix
    (ap Err (as_error c.from_residual-in_err-write_report.result p.0 c.in_err-write_report.field-0.0 Report p.1 p.2 is)))

pub returns-clause-written : goal.returns-clause-written
returns-clause-written g c =
    let made = ap (λ (m : ℤ → ℤ → Bool). metal_report m (values_of c.in_ok-values.values))
    (c.in_ok-lists.ensures ∙ ap (λ (l : List Edit). is_metal (map change_of l)) c.deref.ensures.value) in
    report_is (g.R.Read.remaining (under c.args.rules.now)) (g.S.Read.remaining (under c.args.script.now)) (values_of c.in_ok-values.values)
    (map change_of c.in_ok-edits.edits.items) (metal_report (covered (flat_map vec_items c.in_ok-lists.lists.items)) (values_of c.in_ok-values.values))
    (Appends (g.W.Write.contents (under c.args.out.now)) (g.W.Write.contents (under c.write_report.new.out)))
    c.in_ok-values.ensures.rules c.in_ok-edits.ensures.edits made c.in_ok-write_report.ensures.whole

pub returns-in_err-write_report-clause-in_turn : goal.returns-in_err-write_report-clause-in_turn
returns-in_err-write_report-clause-in_turn g c =
    let p = err_from_is_err_and c.from_residual-in_err-write_report.result c.from_residual-in_err-write_report.ensures.1 in
    rw (p.1, p.2) (λ _. rules_are (g.R.Read.remaining (under c.args.rules.now)) (values_of c.in_ok-values.values) c.in_ok-values.ensures.rules)
