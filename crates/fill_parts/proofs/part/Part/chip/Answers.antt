use Rattle.std.proofs.Common.{◌∙◌, sym}
use Rattle.std.proofs.lemmas.Result.{err_from_is_err_and}
use Rattle.fill_text.specs.Rules.{windows_of}
use Rattle.fill_text.specs.ValuesOfChips.{chip_values}
use Rattle.fill_text.specs.ValuesOfRules.{values_of}
use Rattle.fill_raster.specs.Axes.{bands}
use Rattle.fill_job.specs.Plans.{plan_of}
use Rattle.fill_parts.specs.PartChip.{counted_from, part_tiles, part_windows}
use Rattle.fill_parts.specs.PartRows.{own_rows}
use Rattle.fill_parts.proofs.HoldingPart.{AreRowsTold, below_is, held, held_as, own_fit, tiles_as, told_as, windows_as}
use Rattle.fill_parts.proofs.PartRules.{looks_by_plan, looks_here, rules_of_own}
use Rattle.fill_parts.proofs.part.Part.chip.Goals as goal

pub rules_of-requires-clause-looks : goal.rules_of-requires-clause-looks
rules_of-requires-clause-looks c = (looks_here (chip_values c.args.chip.now) c.args.self c.place_rows-places.result c.window_rows-windows.result c.in-Some.rows c.place_rows-places.ensures.value c.window_rows-windows.ensures.value c.in-Some.ensures.none)

pub returns-in_err-rules-clause-rules : goal.returns-in_err-rules-clause-rules
returns-in_err-rules-clause-rules c =
    let p = err_from_is_err_and c.from_residual.result c.from_residual.ensures.1 in
    let own = rules_of_own (chip_values c.args.chip.now) c.args.self (looks_here (chip_values c.args.chip.now) c.args.self c.place_rows-places.result c.window_rows-windows.result c.in-Some.rows c.place_rows-places.ensures.value c.window_rows-windows.ensures.value c.in-Some.ensures.none) in
    rw (p.1, p.2, own) c.in_err-rules.ensures

pub invariant_of-result : goal.invariant_of-result
invariant_of-result c =
    let values = chip_values c.args.chip.now in
    let told : AreRowsTold (windows_of (values_of c.in_ok-rules.rules)).up.count (record { from = c.counted_from-2.result.start; to = c.counted_from-2.result.end }) =
    told_as (windows_of (values_of c.in_ok-rules.rules)).up.count (counted_from (part_windows (plan_of values) c.args.self).from (own_rows c.args.self (plan_of values).windows.up.count)) (record { from = c.counted_from-2.result.start; to = c.counted_from-2.result.end })
    (windows_as (chip_values c.args.chip.now) c.args.self c.place_rows-places.result c.window_rows-windows.result c.place_rows-places.ensures.value c.window_rows-windows.ensures.value
    c.rows-2.result.start c.rows-2.result.end c.in-Some.rows.windows.start c.counted_from-2.result.start c.counted_from-2.result.end c.rows-2.ensures.first c.rows-2.ensures.past c.in-Some.ensures.windows.0 c.counted_from-2.ensures.from c.counted_from-2.ensures.to)
    (own_fit values c.args.self c.keeps_faultless.ensures.numbers (sym (looks_by_plan (chip_values c.args.chip.now) c.args.self) ∙ (looks_here (chip_values c.args.chip.now) c.args.self c.place_rows-places.result c.window_rows-windows.result c.in-Some.rows c.place_rows-places.ensures.value c.window_rows-windows.ensures.value c.in-Some.ensures.none)) c.keeps_few.ensures (values_of c.in_ok-rules.rules) c.in_ok-rules.ensures) in
    record { ordered = told.ordered; within = told.within }

pub returns-clause-rules : goal.returns-clause-rules
returns-clause-rules c = rules_of_own (chip_values c.args.chip.now) c.args.self (looks_here (chip_values c.args.chip.now) c.args.self c.place_rows-places.result c.window_rows-windows.result c.in-Some.rows c.place_rows-places.ensures.value c.window_rows-windows.ensures.value c.in-Some.ensures.none) ∙ c.in_ok-rules.ensures

pub returns-clause-part : goal.returns-clause-part
returns-clause-part c =
    let values = chip_values c.args.chip.now in
    held_as values c.args.self (values_of c.in_ok-rules.rules) (counted_from (part_tiles values c.args.self).from (own_rows c.args.self (bands (plan_of values).raster.up)))
    (counted_from (part_windows (plan_of values) c.args.self).from (own_rows c.args.self (plan_of values).windows.up.count)) (record { from = c.counted_from.result.start; to = c.counted_from.result.end })
    (record { from = c.counted_from-2.result.start; to = c.counted_from-2.result.end }) (part_windows (plan_of values) c.args.self).from c.in-Some.rows.windows.start
    (tiles_as (chip_values c.args.chip.now) c.args.self c.place_rows-places.result c.window_rows-windows.result c.place_rows-places.ensures.value c.window_rows-windows.ensures.value
    c.bands.result c.rows.result.start c.rows.result.end c.in-Some.rows.tiles.start c.counted_from.result.start c.counted_from.result.end c.bands.ensures c.rows.ensures.first c.rows.ensures.past (rw c.ignores_padding.ensures at c.in-Some.ensures.tiles.0) c.counted_from.ensures.from c.counted_from.ensures.to)
    (windows_as (chip_values c.args.chip.now) c.args.self c.place_rows-places.result c.window_rows-windows.result c.place_rows-places.ensures.value c.window_rows-windows.ensures.value
    c.rows-2.result.start c.rows-2.result.end c.in-Some.rows.windows.start c.counted_from-2.result.start c.counted_from-2.result.end c.rows-2.ensures.first c.rows-2.ensures.past c.in-Some.ensures.windows.0 c.counted_from-2.ensures.from c.counted_from-2.ensures.to)
    (below_is (chip_values c.args.chip.now) c.args.self c.place_rows-places.result c.window_rows-windows.result c.place_rows-places.ensures.value c.window_rows-windows.ensures.value c.in-Some.rows.windows.start c.in-Some.ensures.windows.0)
    (held values c.args.self c.keeps_faultless.ensures.numbers (sym (looks_by_plan (chip_values c.args.chip.now) c.args.self) ∙ (looks_here (chip_values c.args.chip.now) c.args.self c.place_rows-places.result c.window_rows-windows.result c.in-Some.rows c.place_rows-places.ensures.value c.window_rows-windows.ensures.value c.in-Some.ensures.none)) c.keeps_few.ensures (values_of c.in_ok-rules.rules) c.in_ok-rules.ensures c.rules_make_a_plan.ensures)
