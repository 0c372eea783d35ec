use Rattle.std.proofs.Common.{◌≡◌, sym, ap, subst, ◌∙◌, Bor, List, Option, Some}
use Rattle.std.specs.Prelude.{option_map}
use Rattle.std.proofs.lemmas.Result.{IfOk-weaker}
use Rattle.fill_state.specs.Filling.{Filling}
use Rattle.fill_text.specs.ValuesOfChips.{chip_values}
use Rattle.fill_text.specs.ValuesOfRules.{values_of}
use Rattle.fill_parts.specs.Cuts.{Part}
use Rattle.fill_parts.specs.PartChip.{own_alone}
use Rattle.gds_out.specs.declared.sheet.Strip.{Strip}
use Rattle.gds_join.specs.Joined.{design_of}
use Rattle.gds_join.specs.declared.joined.First.{First}
use Rattle.gds_join.specs.steps.Strips.{AreStripsOf}
use Rattle.gds_join.proofs.Taking.{chip_text, is_sheet, of_some}
use Rattle.gds_join.proofs.joined.Joined.text.Goals as goal

first_is : (o : Option First) (r : Option (Bor First)) (f : Bor First) → option_map (λ (b : Bor First). b.now) r ≡ o → r ≡ Some f → o ≡ Some f.now
first_is o r f e g = sym e ∙ ap (option_map (λ (b : Bor First). b.now)) g

are_strips : (fills fs : List Filling) (strips ss : List Strip) → fs ≡ fills → ss ≡ strips → AreStripsOf fs strips → AreStripsOf fills ss
are_strips fills fs strips ss e d are = subst (λ (x : List Strip). AreStripsOf fills x) (sym d) (subst (λ (x : List Filling). AreStripsOf x strips) e are)

pub sheet_library-requires : goal.sheet_library-requires
sheet_library-requires c =
    let j = c.args.self.now in let v = chip_values j.chip in
    let first = first_is j.first c.as_ref.result c.unwrap-first.result c.as_ref.ensures.value c.unwrap-first.ensures in
    let rules = of_some (λ (f : First). (k : Part) × (values_of f.rules ≡ own_alone v k)) j.first c.unwrap-first.result.now first c.requires.joined.rules in
    is_sheet v j.count j.taken rules.0 j.fills.items _ rules.1 c.place_rows.ensures.axis c.place_rows.ensures.value
    (are_strips j.fills.items c.deref.result.now c.in_ok-strips.strips.items c.deref-2.result.now c.deref.ensures.value c.deref-2.ensures.value c.in_ok-strips.ensures) c.requires.joined.fills

pub returns : goal.returns
returns c =
    let j = c.args.self.now in let v = chip_values j.chip in let f = c.unwrap-first.result.now in
    let first = first_is j.first c.as_ref.result c.unwrap-first.result c.as_ref.ensures.value c.unwrap-first.ensures in
    let rules = of_some (λ (g : First). (k : Part) × (values_of g.rules ≡ own_alone v k)) j.first f first c.requires.joined.rules in
    let are = are_strips j.fills.items c.deref.result.now c.in_ok-strips.strips.items c.deref-2.result.now c.deref.ensures.value c.deref-2.ensures.value c.in_ok-strips.ensures in
    IfOk-weaker c.sheet_library.result _ _ (λ text is. ((f.units, f.dates), ap design_of first, is ∙ chip_text v rules.0 f.rules f.units f.dates j.fills.items c.deref-2.result.now c.place_rows.result rules.1 c.place_rows.ensures.value are)) c.sheet_library.ensures
