use Rattle.std.proofs.Common.{◌≡◌, sym, subst, ◌&&◌}
use Rattle.fill_base.specs.Sides.{Sides, sides_of}
use Rattle.fill_report.specs.Report.{nothing}
use Rattle.fill_text.specs.Rules.{windows_of}
use Rattle.fill_text.specs.ValuesOfRules.{values_of}
use Rattle.fill_parts.specs.Needs.{is_inside, round_windows}
use Rattle.fill_parts.specs.PartChip.{rows_told}
use Rattle.fill_parts.specs.Told.{windows_in}
use Rattle.fill_parts.proofs.Framed.{told_framed, told_none}
use Rattle.fill_parts.proofs.part_rules.PartChip.window_rect.Goals as goal

pub returns-then-own : goal.returns-then-own
returns-then-own c = λ metal.
    let chip = c.args.self.now in
    told_none (values_of chip.rules) (windows_in chip.told) chip.told.below _ metal c.rules_make_a_plan.ensures chip.ordered chip.within c.if-own.true

pub returns : goal.returns
returns c = λ metal.
    let chip = c.args.self.now in
    let e : sides_of c.around_windows.result ≡ round_windows (windows_of (values_of chip.rules)) chip.told.windows.start chip.told.windows.end = rw c.windows.ensures at c.around_windows.ensures in
    subst (λ (s : Sides). rows_told (values_of chip.rules) (windows_in chip.told) chip.told.below (λ x y. metal x y && is_inside s x y) nothing ≡ rows_told (values_of chip.rules) (windows_in chip.told) chip.told.below metal nothing) (sym e)
    (told_framed (values_of chip.rules) (windows_in chip.told) chip.told.below metal c.rules_make_a_plan.ensures chip.ordered chip.within)
