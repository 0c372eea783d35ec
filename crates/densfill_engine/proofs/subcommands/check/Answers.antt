use Rattle.std.proofs.Common.{ℕ, Err, ap, take}
use Rattle.densfill_engine.specs.declared.refusal.Refusal.TheVariants.{Report}
use Rattle.std.proofs.lemmas.Result.{err_from_is_err_and}
use Rattle.std.specs.Io.KnownBytes.{Appends}
use Rattle.std.specs.List.{flat_map}
use Rattle.std.specs.Vec.{vec_items}
use Rattle.densfill_io.specs.Taps.{under}
use Rattle.fill_region.specs.Squares.{covered}
use Rattle.fill_text.specs.ValuesOfRules.{values_of}
use Rattle.densfill_engine.proofs.Checking.{as_error, check_reason, check_written, design_reason}
use Rattle.densfill_engine.proofs.subcommands.check.Goals as goal

pub returns-in-Err-clause-refused : goal.returns-in-Err-clause-refused
returns-in-Err-clause-refused g c =
    let v = c.in_ok-view.view in
    design_reason c.args.scope (g.R.Read.remaining (under c.args.rules.now)) (g.D.Read.remaining (under c.args.design.now)) (values_of v.rules) v.told v.frame c.in_ok-view.ensures.view
    c.in-Err.fault c.in-Err.ensures.refused c.design_fault.result c.design_fault.ensures.told

pub returns-in_err-write_report-clause-refused : goal.returns-in_err-write_report-clause-refused
returns-in_err-write_report-clause-refused g c =
    let p = err_from_is_err_and c.from_residual-in_err-write_report.result c.from_residual-in_err-write_report.ensures.1 in
    let v = c.in_ok-view.view in
    rw (p.1, p.2) (check_reason c.args.scope (g.R.Read.remaining (under c.args.rules.now)) (g.D.Read.remaining (under c.args.design.now)) (values_of v.rules) v.told v.frame c.in_ok-view.ensures.view
    (covered (flat_map vec_items c.in-Ok.lists.items)) c.in-Ok.ensures.counted c.in_err-write_report.field-0.0 c.in_err-write_report.ensures.refused)

pub returns-in_err-write_report-clause-prefix : goal.returns-in_err-write_report-clause-prefix
returns-in_err-write_report-clause-prefix g c =
    let p = err_from_is_err_and c.from_residual-in_err-write_report.result c.from_residual-in_err-write_report.ensures.1 in
    let v = c.in_ok-view.view in
    λ is. check_written c.args.scope (g.R.Read.remaining (under c.args.rules.now)) (g.D.Read.remaining (under c.args.design.now)) (values_of v.rules) v.told v.frame c.in_ok-view.ensures.view
    (covered (flat_map vec_items c.in-Ok.lists.items)) c.in-Ok.ensures.counted
    (λ text. (k : ℕ) × Appends (g.W.Write.contents (under c.args.out.now)) (g.W.Write.contents (under c.write_report.new.out)) (take k text))
    (c.in_err-write_report.ensures.prefix (ap Err (as_error c.from_residual-in_err-write_report.result p.0 c.in_err-write_report.field-0.0 Report p.1 p.2 is)))

pub returns-clause-written : goal.returns-clause-written
returns-clause-written g c =
    let v = c.in_ok-view.view in
    check_written c.args.scope (g.R.Read.remaining (under c.args.rules.now)) (g.D.Read.remaining (under c.args.design.now)) (values_of v.rules) v.told v.frame c.in_ok-view.ensures.view
    (covered (flat_map vec_items c.in-Ok.lists.items)) c.in-Ok.ensures.counted
    (Appends (g.W.Write.contents (under c.args.out.now)) (g.W.Write.contents (under c.write_report.new.out))) c.in_ok-write_report.ensures.whole
