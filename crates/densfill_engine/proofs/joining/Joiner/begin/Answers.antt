use Rattle.std.proofs.Common.{sym, ap, subst, ◌∙◌, [], Option, Ok}
use Rattle.std.specs.Prelude.{is_some}
use Rattle.densfill_io.specs.Taps.{under}
use Rattle.fill_text.specs.ValuesOfChips.{chip_values}
use Rattle.fill_text.specs.declared.chip.ChipRules.{ChipRules}
use Rattle.gds_join.specs.Fills.{filled_in}
use Rattle.gds_join.specs.Joins.{AreTaken, Design}
use Rattle.densfill_engine.proofs.Joined.{known_more}
use Rattle.densfill_engine.proofs.joining.Joiner.begin.Goals as goal

pub returns-clause-begun : goal.returns-clause-begun
returns-clause-begun g c =
    let j = c.begin.result in let none = c.begin.ensures.none in let counted = c.begin.ensures.count in (
      record {
        count = counted.1;
        taken = subst (λ (o : Option Design). AreTaken (chip_values j.chip) j.count [] o (filled_in j.fills.items)) (sym none.0) (c.none_are_taken.ensures (chip_values j.chip) j.count (filled_in j.fills.items) none.1);
      },
      counted.0,
      known_more (g.R.Read.remaining (under c.args.rules.now)) (λ r said. (said.0 ∙ ap (λ (k : ChipRules). Ok (chip_values k)) (sym c.begin.ensures.chip), ap is_some c.begin.ensures.whole ∙ said.1)) c.in_ok-chip.ensures.rules,
    )
