use Rattle.std.proofs.Common.{List, ap, map, refl, subst, Err}
use Rattle.std.proofs.lemmas.Result.{err_from_is_err_and}
use Rattle.fill_base.proofs.Results.{if_both}
use Rattle.fill_text.specs.Script.{change_of}
use Rattle.fill_text.specs.ValuesOfRules.{values_of}
use Rattle.fill_text.specs.declared.script.Edit.{Edit}
use Rattle.fill_job.specs.Basis.{layers_in}
use Rattle.fill_shared.specs.Runs.{IsMixed, IsUnfinished}
use Rattle.densfill_engine.specs.Fills.{IsFillOf}
use Rattle.densfill_engine.specs.Runs.{IsBack}
use Rattle.densfill_engine.specs.declared.refusal.RunFault.TheVariants.{Mixed, Unfinished}
use Rattle.densfill_engine.proofs.Checking.{as_error}
use Rattle.densfill_engine.proofs.Filling.{came_back, fill_terms, texts_of_run}
use Rattle.densfill_engine.proofs.fill.fill_by_many.Goals as goal

pub returns-in_err-book-2-clause-unfinished : goal.returns-in_err-book-2-clause-unfinished
returns-in_err-book-2-clause-unfinished g c =
    let task = c.args.task in
    let crew = c.args.crew in
    let values = values_of task.view.rules in
    let p = err_from_is_err_and c.from_residual-in_err-book-2.result c.from_residual-in_err-book-2.ensures.1 in
    λ is.
    let (b, after, left, rounds) = c.in_err-book-2.ensures.unfinished (ap Err (as_error c.from_residual-in_err-book-2.result p.0 c.in_err-book-2.field-0.0 Unfinished p.1 p.2 is)) in
    subst (λ (l : List Edit). IsBack IsUnfinished values (layers_in task.design.metal task.design.fill task.design.keep) (map change_of l) crew.workers crew.limit) c.deref.ensures.value
    (came_back IsUnfinished (fill_terms values task.design.metal task.design.fill task.design.keep) c.in_ok-book.book b c.deref.result.now c.in_ok-book.pass after crew.workers crew.limit
    refl c.in_ok-book.ensures.book c.in_ok-book.ensures.pass left rounds)

pub returns-in_err-book-2-clause-mixed : goal.returns-in_err-book-2-clause-mixed
returns-in_err-book-2-clause-mixed g c =
    let task = c.args.task in
    let crew = c.args.crew in
    let values = values_of task.view.rules in
    let p = err_from_is_err_and c.from_residual-in_err-book-2.result c.from_residual-in_err-book-2.ensures.1 in
    λ is.
    let (b, after, left, rounds) = c.in_err-book-2.ensures.mixed (ap Err (as_error c.from_residual-in_err-book-2.result p.0 c.in_err-book-2.field-0.0 Mixed p.1 p.2 is)) in
    subst (λ (l : List Edit). IsBack IsMixed values (layers_in task.design.metal task.design.fill task.design.keep) (map change_of l) crew.workers crew.limit) c.deref.ensures.value
    (came_back IsMixed (fill_terms values task.design.metal task.design.fill task.design.keep) c.in_ok-book.book b c.deref.result.now c.in_ok-book.pass after crew.workers crew.limit
    refl c.in_ok-book.ensures.book c.in_ok-book.ensures.pass left rounds)

pub returns-clause-filled : goal.returns-clause-filled
returns-clause-filled g c =
    let task = c.args.task in
    let crew = c.args.crew in
    let values = values_of task.view.rules in
    let design = task.design in
    if_both c.texts_of.result _ _ _ (λ f library report.
    subst (λ (l : List Edit). IsFillOf task.view.told values (layers_in design.metal design.fill design.keep) design.units design.dates (map change_of l) crew.workers crew.limit f.library.items f.report.items) c.deref.ensures.value
    (texts_of_run task.view.told (fill_terms values design.metal design.fill design.keep) c.in_ok-book.book c.in_ok-book-2.book c.in_ok-book.pass c.deref.result.now crew.workers crew.limit
    design.units design.dates f.library.items f.report.items c.rules_make_a_plan.ensures c.requires.workers.0 refl c.in_ok-book.ensures.book c.in_ok-book.ensures.pass
    c.in_ok-book-2.ensures.finished library report)) c.texts_of.ensures.library c.texts_of.ensures.report
