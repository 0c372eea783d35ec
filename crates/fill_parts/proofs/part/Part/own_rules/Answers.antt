use Rattle.std.proofs.Common.{◌≡◌, refl, ap, subst, ◌∙◌, arith, ℕ}
use Rattle.fill_raster.specs.Axes.{bands}
use Rattle.fill_raster.specs.declared.axis.Axis.{Axis}
use Rattle.fill_text.specs.Refusals.{Gives}
use Rattle.fill_text.specs.Rules.{raster_of}
use Rattle.fill_text.specs.ValuesOfChips.{chip_values}
use Rattle.fill_text.specs.ValuesOfRules.{values_of}
use Rattle.fill_parts.specs.PartChip.{by_size, own_tiles}
use Rattle.fill_parts.specs.Smaller.{AreRowsOf, Rows}
use Rattle.fill_parts.specs.SmallerRules.{rules_alone}
use Rattle.fill_parts.specs.declared.part_rules.PartRulesError.TheVariants.{Memory}
use Rattle.fill_parts.proofs.part.Part.own_rules.Goals as goal

abbrev rows : ℕ → ℕ → Rows
rows from to = record { from = from; to = to }

pub rules_alone-requires-clause-tiles : goal.rules_alone-requires-clause-tiles
rules_alone-requires-clause-tiles c = subst (λ (n : ℕ). AreRowsOf (record { from = c.own_tiles-tiles.result.start; to = c.own_tiles-tiles.result.end }) n) (c.bands.ensures ∙ ap (λ (a : Axis). bands a) c.place_rows.ensures.value) c.own_tiles-tiles.ensures.are

pub rules_alone-requires-clause-windows : goal.rules_alone-requires-clause-windows
rules_alone-requires-clause-windows c = let least = c.keeps_faultless.ensures.numbers.windows_up.count_is.least in record { some = omega arith; within = omega (arith, least) }

pub returns : goal.returns
returns c =
    let n : c.bands.result ≡ bands (raster_of (chip_values c.args.chip.now).numbers).up = c.bands.ensures ∙ ap (λ (a : Axis). bands a) c.place_rows.ensures.value in
    let t : rows c.own_tiles-tiles.result.start c.own_tiles-tiles.result.end ≡ own_tiles c.args.self (bands (raster_of (chip_values c.args.chip.now).numbers).up) = rw (c.own_tiles-tiles.ensures.from, c.own_tiles-tiles.ensures.to, n) refl in
    subst (λ (r : Rows). Gives Memory values_of c.rules_alone.result (by_size (rules_alone (chip_values c.args.chip.now) r (record { from = 0; to = 1 })))) t c.rules_alone.ensures
