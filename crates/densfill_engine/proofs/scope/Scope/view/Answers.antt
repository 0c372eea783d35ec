use Rattle.std.proofs.Common.{◌≡◌, ◌⊎◌, ◌+◌, ℕ, List, Option, None, Some, Ok, Err, refl, sym, subst}
use Rattle.std.specs.Prelude.{IfSome}
use Rattle.std.proofs.lemmas.Result.{err_from_is_err_and}
use Rattle.densfill_io.specs.Taps.{under}
use Rattle.fill_parts.specs.Cuts.{Part}
use Rattle.fill_parts.specs.PartChip.{part_rules}
use Rattle.fill_parts.specs.declared.part_rules.PartRulesError.{PartRulesError}
use Rattle.fill_parts.specs.declared.part_rules.PartRulesError.TheVariants.{Memory}
use Rattle.fill_text.specs.Rules.{Values}
use Rattle.fill_text.specs.ValuesOfChips.{chip_values}
use Rattle.fill_text.specs.ValuesOfRules.{values_of}
use Rattle.densfill_engine.specs.Inputs.{IsRulesReason, chip_answer}
use Rattle.densfill_engine.specs.Views.{IsView}
use Rattle.densfill_engine.specs.declared.refusal.Refusal.TheVariants.{TooLarge}
use Rattle.densfill_engine.specs.declared.scope.Scope.{Scope}
use Rattle.densfill_engine.specs.declared.scope.Scope.TheVariants as asked
use Rattle.densfill_engine.specs.declared.view.Told.TheVariants.{Everything, Rows}
use Rattle.densfill_engine.proofs.Checking.{fits_rows}
use Rattle.densfill_engine.proofs.scope.Scope.view.Goals as goal

pub returns-in_ok-rules-in-Whole-clause-view : goal.returns-in_ok-rules-in-Whole-clause-view
returns-in_ok-rules-in-Whole-clause-view g c =
    let small = values_of c.in_ok-rules-in-Whole.rules in
    subst (λ (s : Scope). IsView s c.args.reach (g.R.Read.remaining (under c.args.tap.now)) small Everything None) (sym c.in-Whole.is) (small, (refl, refl, refl), c.in_ok-rules-in-Whole.ensures.rules)

pub returns-in_ok-chip-in-Part-clause-view : goal.returns-in_ok-chip-in-Part-clause-view
returns-in_ok-chip-in-Part-clause-view g c =
    let chip = c.in_ok-chip-in-Part.chip in
    subst (λ (s : Scope). IsView s c.args.reach (g.R.Read.remaining (under c.args.tap.now)) (values_of chip.rules) (Rows chip.told) (Some c.frame-frame.result)) (sym c.in-Part.is) (
      chip_values c.in_ok-values-in-Part.values,
      (
        chip.told,
        c.frame-frame.result,
        refl,
        refl,
        record { rules = c.in_ok-chip-in-Part.ensures.rules; holds = c.in_ok-chip-in-Part.ensures.part; fits = fits_rows (values_of chip.rules) chip.told chip.ordered chip.within; frame_is = c.frame-frame.ensures },
      ),
      c.in_ok-values-in-Part.ensures.rules,
    )

-- the rules are those of a chip, but the part has none of its own
too_large : (text : Option (List ℕ)) (values : Values) (k : Part) (fault : PartRulesError) → IfSome text (λ rules. chip_answer rules ≡ Ok values) → (fault ≡ Memory) ⊎ (part_rules values k ≡ Err fault)
    → IfSome text (λ rules. IsRulesReason (asked.Part k) rules (TooLarge fault (k.number + 1) k.count))
too_large None values k fault accepted why = tt
too_large (Some rules) values k fault accepted why = record { values = values; accepted = accepted; why = why; number_is = refl; count_is = refl }

pub returns-in_err-chip-in-Part-clause-refused : goal.returns-in_err-chip-in-Part-clause-refused
returns-in_err-chip-in-Part-clause-refused g c =
    let (fault, is, why) = c.in_err-chip-in-Part.ensures.refused in
    let p = err_from_is_err_and c.from_residual-in_err-chip-in-Part.result c.from_residual-in_err-chip-in-Part.ensures.1 in
    let k = c.in-Part.part in
    rw (p.1, p.2, is)
    (subst (λ (s : Scope). IfSome (g.R.Read.remaining (under c.args.tap.now)) (λ text. IsRulesReason s text (TooLarge fault (k.number + 1) k.count))) (sym c.in-Part.is)
    (too_large (g.R.Read.remaining (under c.args.tap.now)) (chip_values c.in_ok-values-in-Part.values) k fault c.in_ok-values-in-Part.ensures.rules why))
