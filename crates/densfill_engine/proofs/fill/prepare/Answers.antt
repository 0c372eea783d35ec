use Rattle.std.proofs.Common.{map, ap, subst, Err}
use Rattle.std.proofs.lemmas.Result.{err_from_is_err_and}
use Rattle.densfill_io.specs.Taps.{under}
use Rattle.fill_job.specs.Basis.{layers_in}
use Rattle.fill_text.specs.Script.{change_of}
use Rattle.fill_text.specs.ValuesOfRules.{values_of}
use Rattle.densfill_engine.specs.Fills.{IsFillOf, IsLeftOpen, IsMixedUp}
use Rattle.densfill_engine.proofs.Preparing.{both_read, design_refused, filled, run_refused, script_refused}
use Rattle.densfill_engine.proofs.fill.prepare.Goals as goal

pub returns-in-Err-clause-refused : goal.returns-in-Err-clause-refused
returns-in-Err-clause-refused g c =
    let v = c.in_ok-view.view in
    design_refused c.args.scope (g.R.Read.remaining (under c.args.inputs.now.rules)) (g.D.Read.remaining (under c.args.inputs.now.design)) (g.S.Read.remaining (under c.args.inputs.now.script)) c.args.crew
    (values_of v.rules) v.told v.frame c.in_ok-view.ensures.view c.in-Err.fault c.in-Err.ensures.refused c.design_fault.result c.design_fault.ensures.told

pub returns-in_err-edits-clause-refused : goal.returns-in_err-edits-clause-refused
returns-in_err-edits-clause-refused g c =
    let p = err_from_is_err_and c.from_residual-in_err-edits.result c.from_residual-in_err-edits.ensures.1 in
    let v = c.in_ok-view.view in let d = c.in-Ok.design in
    rw (p.1, p.2) (script_refused c.args.scope (g.R.Read.remaining (under c.args.inputs.now.rules)) (g.D.Read.remaining (under c.args.inputs.now.design)) (g.S.Read.remaining (under c.args.inputs.now.script)) c.args.crew
    (values_of v.rules) v.told v.frame c.in_ok-view.ensures.view (layers_in d.metal d.fill d.keep) d.units d.dates c.in-Ok.ensures.design c.in_err-edits.field-0.0 c.in_err-edits.ensures.refused)

pub returns-in_err-edits-clause-script_in_turn : goal.returns-in_err-edits-clause-script_in_turn
returns-in_err-edits-clause-script_in_turn g c =
    let p = err_from_is_err_and c.from_residual-in_err-edits.result c.from_residual-in_err-edits.ensures.1 in
    let v = c.in_ok-view.view in let d = c.in-Ok.design in
    rw (p.1, p.2) (λ _. both_read c.args.scope (g.R.Read.remaining (under c.args.inputs.now.rules)) (g.D.Read.remaining (under c.args.inputs.now.design)) (g.S.Read.remaining (under c.args.inputs.now.script)) c.args.crew
    (values_of v.rules) v.told v.frame c.in_ok-view.ensures.view (layers_in d.metal d.fill d.keep) d.units d.dates c.in-Ok.ensures.design)

pub returns-in_err-filled-clause-refused : goal.returns-in_err-filled-clause-refused
returns-in_err-filled-clause-refused g c =
    let p = err_from_is_err_and c.from_residual-in_err-filled.result c.from_residual-in_err-filled.ensures.1 in
    let v = c.in_ok-view.view in let d = c.in-Ok.design in
    let near = ap (map change_of) c.keep_near.ensures in
    rw (p.1, p.2) (run_refused c.args.scope (g.R.Read.remaining (under c.args.inputs.now.rules)) (g.D.Read.remaining (under c.args.inputs.now.design)) (g.S.Read.remaining (under c.args.inputs.now.script)) c.args.crew
    (values_of v.rules) v.told v.frame c.in_ok-view.ensures.view (layers_in d.metal d.fill d.keep) d.units d.dates c.in-Ok.ensures.design c.in_ok-edits.edits.items c.in_ok-edits.ensures.edits
    c.crew.result c.crew.ensures.crew c.rules_make_a_plan.ensures c.in_err-filled.field-0.0
    (λ is. subst (λ es. IsLeftOpen (values_of v.rules) (layers_in d.metal d.fill d.keep) es c.crew.result.workers c.crew.result.limit) near (c.in_err-filled.ensures.unfinished (ap Err is)))
    (λ is. c.in_err-filled.ensures.short (ap Err is))
    (λ is. subst (λ es. IsMixedUp (values_of v.rules) (layers_in d.metal d.fill d.keep) es c.crew.result.workers c.crew.result.limit) near (c.in_err-filled.ensures.mixed (ap Err is))))

pub returns-in_err-filled-clause-script_in_turn : goal.returns-in_err-filled-clause-script_in_turn
returns-in_err-filled-clause-script_in_turn g c =
    let p = err_from_is_err_and c.from_residual-in_err-filled.result c.from_residual-in_err-filled.ensures.1 in
    let v = c.in_ok-view.view in let d = c.in-Ok.design in
    rw (p.1, p.2) (λ _. both_read c.args.scope (g.R.Read.remaining (under c.args.inputs.now.rules)) (g.D.Read.remaining (under c.args.inputs.now.design)) (g.S.Read.remaining (under c.args.inputs.now.script)) c.args.crew
    (values_of v.rules) v.told v.frame c.in_ok-view.ensures.view (layers_in d.metal d.fill d.keep) d.units d.dates c.in-Ok.ensures.design)

pub returns-clause-filled : goal.returns-clause-filled
returns-clause-filled g c =
    let v = c.in_ok-view.view in let d = c.in-Ok.design in
    let texts = c.in_ok-filled.filled in
    filled c.args.scope (g.R.Read.remaining (under c.args.inputs.now.rules)) (g.D.Read.remaining (under c.args.inputs.now.design)) (g.S.Read.remaining (under c.args.inputs.now.script)) c.args.crew
    (values_of v.rules) v.told v.frame c.in_ok-view.ensures.view (layers_in d.metal d.fill d.keep) d.units d.dates c.in-Ok.ensures.design c.in_ok-edits.edits.items c.in_ok-edits.ensures.edits
    c.crew.result c.crew.ensures.crew c.rules_make_a_plan.ensures c.edits_are_changes.ensures c.clipped_agrees.ensures c.chip_run_is_the_part.ensures c.text_of_some_rows.ensures
    texts.library.items texts.report.items
    (subst (λ es. IsFillOf v.told (values_of v.rules) (layers_in d.metal d.fill d.keep) d.units d.dates es c.crew.result.workers c.crew.result.limit texts.library.items texts.report.items) (ap (map change_of) c.keep_near.ensures)
    c.in_ok-filled.ensures.filled)
