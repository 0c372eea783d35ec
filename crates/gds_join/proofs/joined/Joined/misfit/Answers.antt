use Rattle.std.proofs.Common.{◌≡◌, subst}
use Rattle.std.specs.Prelude.{is_some}
use Rattle.fill_text.specs.Rules.{Values}
use Rattle.fill_text.specs.ValuesOfChips.{chip_values}
use Rattle.fill_text.specs.ValuesOfRules.{values_of}
use Rattle.fill_text.specs.declared.rules.Rules.{Rules}
use Rattle.fill_parts.specs.Laws.{part}
use Rattle.gds_join.specs.Fills.{filled_in}
use Rattle.gds_join.specs.Joined.{design_of}
use Rattle.gds_join.specs.Joins.{IsUnread}
use Rattle.gds_join.proofs.Taking.{of_some, unread_whole}
use Rattle.gds_join.proofs.joined.Joined.misfit.Goals as goal

pub returns-in-Err : goal.returns-in-Err
returns-in-Err c =
    let j = c.args.self.now in
    let whole = of_some (λ (w : Rules). values_of w ≡ chip_values j.chip) j.whole c.in-Some.rules c.in-Some.is c.requires.whole in
    unread_whole (chip_values j.chip) (is_some j.whole) (part j.taken j.count) (design_of j.first) (filled_in j.fills.items) c.args.bytes.now c.in-Err.error c.requires.other
    (subst (λ (v : Values). IsUnread v c.args.bytes.now c.in-Err.error) whole c.in-Err.ensures.refused)
