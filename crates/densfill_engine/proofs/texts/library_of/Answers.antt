use Rattle.std.proofs.Common.{◌∙◌, ap, sym}
use Rattle.std.proofs.lemmas.Result.{IfOk-weaker}
use Rattle.fill_text.specs.ValuesOfRules.{values_of}
use Rattle.fill_job.specs.Plans.{plan_of}
use Rattle.fill_core.specs.Accounts.{state_of}
use Rattle.fill_state.specs.Filling.{is_filled}
use Rattle.gds_out.specs.Places.{marked_by}
use Rattle.densfill_engine.specs.Views.{places_told}
use Rattle.densfill_engine.specs.declared.view.Told.{Told}
use Rattle.densfill_engine.proofs.Filling.{text_is}
use Rattle.densfill_engine.proofs.texts.library_of.Goals as goal

pub returns-in_ok-marks-in-Everything : goal.returns-in_ok-marks-in-Everything
returns-in_ok-marks-in-Everything g c =
    let a = g.B.FillBook.account c.args.book.now in
    IfOk-weaker c.fill_library.result _ _ (λ v given. text_is v.items c.args.units.now c.args.dates.now (values_of c.rules.result.now) a.rules (marked_by c.in_ok-marks-in-Everything.marks.items)
    (places_told c.args.told.now (plan_of a.rules) (state_of a).fill) given c.rules.ensures
    (c.in_ok-marks-in-Everything.ensures.marked ∙ ap (λ (t : Told). places_told t (plan_of a.rules) (state_of a).fill) (sym c.in-Everything.is))) c.fill_library.ensures

pub returns-in_ok-places-in-Rows : goal.returns-in_ok-places-in-Rows
returns-in_ok-places-in-Rows g c =
    let a = g.B.FillBook.account c.args.book.now in
    IfOk-weaker c.fill_text.result _ _ (λ v given. text_is v.items c.args.units.now c.args.dates.now (values_of c.rules-in-Rows.result.now) a.rules (is_filled c.in_ok-places-in-Rows.places)
    (places_told c.args.told.now (plan_of a.rules) (state_of a).fill) given c.rules-in-Rows.ensures
    (c.in_ok-places-in-Rows.ensures.told ∙ ap (λ (t : Told). places_told t (plan_of a.rules) (state_of a).fill) (sym c.in-Rows.is))) c.fill_text.ensures.text
