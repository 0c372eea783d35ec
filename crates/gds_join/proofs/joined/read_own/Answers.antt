use Rattle.std.proofs.Common.{sym, subst, ◌∙◌}
use Rattle.std.proofs.lemmas.Result.{err_from_is_err_and}
use Rattle.fill_state.specs.Filling.{is_filled}
use Rattle.fill_text.specs.Rules.{Values}
use Rattle.fill_text.specs.ValuesOfChips.{chip_values}
use Rattle.fill_text.specs.ValuesOfRules.{values_of}
use Rattle.fill_parts.specs.PartChip.{own_alone}
use Rattle.fill_parts.proofs.PartRules.{sized_is}
use Rattle.gds_join.specs.Reading.{IsFillOf}
use Rattle.gds_join.proofs.Own.{part_text}
use Rattle.gds_join.proofs.Taking.{unread_of}
use Rattle.gds_join.proofs.joined.read_own.Goals as goal

pub returns-clause-rules : goal.returns-clause-rules
returns-clause-rules c = sym (sized_is (own_alone (chip_values c.args.chip.now) c.args.part) (values_of c.in-Ok.rules) c.in-Ok.ensures)

pub returns-clause-fill : goal.returns-clause-fill
returns-clause-fill c =
    let v = chip_values c.args.chip.now in let numbers = c.keeps_faultless.ensures.numbers in
    let rules_are = sym (sized_is (own_alone v c.args.part) (values_of c.in-Ok.rules) c.in-Ok.ensures) in
    let f = c.in_ok-fill.fill in
    part_text v c.args.part numbers.places_across numbers.places_up c.keeps_few.ensures c.in-Ok.rules c.args.bytes.now f.units f.dates (is_filled f.filled) rules_are
    (λ h. c.in_ok-fill.ensures.none (c.has_tiles.ensures ∙ h)) (subst (λ (w : Values). IsFillOf w c.args.bytes.now f.units f.dates (is_filled f.filled)) rules_are c.in_ok-fill.ensures.fill)

pub returns-in_err-fill-clause-refused : goal.returns-in_err-fill-clause-refused
returns-in_err-fill-clause-refused c =
    let v = chip_values c.args.chip.now in let numbers = c.keeps_faultless.ensures.numbers in
    let rules_are = sym (sized_is (own_alone v c.args.part) (values_of c.in-Ok.rules) c.in-Ok.ensures) in
    let p = err_from_is_err_and c.from_residual.result c.from_residual.ensures.1 in
    rw (p.1, p.2) (unread_of v c.args.part numbers.places_across numbers.places_up c.keeps_few.ensures c.in-Ok.rules c.has_tiles.result c.args.bytes.now c.in_err-fill.field-0.0 rules_are c.has_tiles.ensures c.in_err-fill.ensures.refused)
