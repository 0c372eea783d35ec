use Rattle.std.proofs.Common.{◌∙◌, ap, sym, subst, Err}
use Rattle.std.proofs.lemmas.Result.{err_from_is_err_and}
use Rattle.fill_base.proofs.Results.{if_both}
use Rattle.fill_text.specs.Rules.{Values}
use Rattle.fill_text.specs.ValuesOfRules.{values_of}
use Rattle.fill_core.specs.Accounts.{Account}
use Rattle.densfill_engine.specs.Views.{FitsIn}
use Rattle.densfill_engine.specs.declared.refusal.RunFault.TheVariants.{Unfinished}
use Rattle.densfill_engine.proofs.Checking.{as_error}
use Rattle.densfill_engine.proofs.Filling.{blank_fresh, fill_terms, texts_alone, tiles_short}
use Rattle.densfill_engine.proofs.fill.fill_alone.Goals as goal

pub fill_tiles-requires-clause-fresh : goal.fill_tiles-requires-clause-fresh
fill_tiles-requires-clause-fresh g c κs within = blank_fresh (fill_terms (values_of c.args.view.rules) c.args.design.metal c.args.design.fill c.args.design.keep) c.in_ok-book.book c.in_ok-book.ensures.book

pub texts_of-requires-after_bounds : goal.texts_of-requires-after_bounds
texts_of-requires-after_bounds g c κs within =
    subst (λ (v : Values). FitsIn v c.args.view.told) (sym (c.in_ok-fill_tiles.ensures.run.rules ∙ ap (λ (a : Account). a.rules) c.in_ok-book.ensures.book)) c.args.view.fits

pub returns-in_err-fill_tiles-clause-unfinished : goal.returns-in_err-fill_tiles-clause-unfinished
returns-in_err-fill_tiles-clause-unfinished g c =
    let p = err_from_is_err_and c.from_residual-in_err-fill_tiles.result c.from_residual-in_err-fill_tiles.ensures.1 in
    λ is. tiles_short (fill_terms (values_of c.args.view.rules) c.args.design.metal c.args.design.fill c.args.design.keep) c.in_ok-book.book c.args.limit c.in_ok-book.ensures.book
    (c.in_err-fill_tiles.ensures.unfinished (ap Err (as_error c.from_residual-in_err-fill_tiles.result p.0 c.in_err-fill_tiles.field-0.0 Unfinished p.1 p.2 is)))

pub returns-clause-filled : goal.returns-clause-filled
returns-clause-filled g c =
    if_both c.texts_of.result _ _ _ (λ f library report. texts_alone (fill_terms (values_of c.args.view.rules) c.args.design.metal c.args.design.fill c.args.design.keep) c.in_ok-book.book c.args.limit c.in_ok-book.ensures.book
    c.args.view.told c.fill_tiles.new.book c.args.design.units c.args.design.dates f.library.items f.report.items c.rules_make_a_plan.ensures
    c.in_ok-fill_tiles.ensures.run c.in_ok-fill_tiles.ensures.complete library report) c.texts_of.ensures.library c.texts_of.ensures.report
