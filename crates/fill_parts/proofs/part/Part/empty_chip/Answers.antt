use Rattle.std.proofs.Common.{◌≡◌, ◌∙◌, sym, subst, true, false, Ok}
use Rattle.fill_text.specs.Rules.{raster_of, whole_windows}
use Rattle.fill_text.specs.ValuesOfChips.{chip_values}
use Rattle.fill_text.specs.ValuesOfRules.{values_of}
use Rattle.fill_job.specs.Searches.{some_below}
use Rattle.fill_parts.specs.Cuts.{Part}
use Rattle.fill_parts.specs.PartChip.{by_size, part_alone}
use Rattle.fill_parts.specs.PartRows.{looks_at_row}
use Rattle.fill_parts.proofs.HoldingPart.{held_none, last_looks}
use Rattle.fill_parts.proofs.PartRules.{option_some}
use Rattle.fill_parts.proofs.part.Part.empty_chip.Goals as goal

pub unwrap-rows-requires : goal.unwrap-rows-requires
unwrap-rows-requires c = option_some c.chip_rows.result (λ none.
    let looks : some_below (looks_at_row c.last-last.result c.place_rows.result c.window_rows.result) c.window_rows.result.count ≡ true
    = subst (λ (k : Part). some_below (looks_at_row k c.place_rows.result c.window_rows.result) c.window_rows.result.count ≡ true) (sym c.last-last.ensures)
    (last_looks c.args.self c.place_rows.result c.window_rows.result c.keeps_few.ensures c.window_rows.ensures.axis.count_is.least) in
    let clash : true ≡ false = sym looks ∙ c.chip_rows.ensures.none.0 none in
    cc)

pub rules_of-requires-clause-looks : goal.rules_of-requires-clause-looks
rules_of-requires-clause-looks c =
    subst (λ (k : Part). some_below (looks_at_row k (raster_of (chip_values c.args.chip.now).numbers).up (whole_windows (chip_values c.args.chip.now).numbers).up) (whole_windows (chip_values c.args.chip.now).numbers).up.count ≡ true) (sym c.last-last.ensures)
    (last_looks c.args.self (raster_of (chip_values c.args.chip.now).numbers).up (whole_windows (chip_values c.args.chip.now).numbers).up c.keeps_few.ensures c.keeps_faultless.ensures.numbers.windows_up.count_is.least)

pub returns-clause-part : goal.returns-clause-part
returns-clause-part c =
    held_none (chip_values c.args.chip.now) c.args.self c.keeps_faultless.ensures.numbers c.keeps_few.ensures c.requires.none (values_of c.in_ok-rules.rules)
    (subst (λ (k : Part). by_size (part_alone (chip_values c.args.chip.now) k) ≡ Ok (values_of c.in_ok-rules.rules)) c.last-last.ensures c.in_ok-rules.ensures) c.rules_make_a_plan.ensures
