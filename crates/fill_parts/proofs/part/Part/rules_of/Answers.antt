use Rattle.std.proofs.Common.{subst}
use Rattle.fill_text.specs.Refusals.{Gives}
use Rattle.fill_text.specs.Rules.{Values}
use Rattle.fill_text.specs.ValuesOfChips.{chip_values}
use Rattle.fill_text.specs.ValuesOfRules.{values_of}
use Rattle.fill_parts.specs.PartChip.{by_size}
use Rattle.fill_parts.specs.declared.part_rules.PartRulesError.TheVariants.{Memory}
use Rattle.fill_parts.proofs.PartRules.{part_alone_here, tiles_here, windows_here}
use Rattle.fill_parts.proofs.part.Part.rules_of.Goals as goal

pub rules_alone-requires-clause-tiles : goal.rules_alone-requires-clause-tiles
rules_alone-requires-clause-tiles c = tiles_here (chip_values c.args.chip.now) c.args.self c.args.rows.now.tiles.start c.args.rows.now.tiles.end c.args.rows.now.windows.start c.args.rows.now.windows.end c.requires.tiles c.requires.windows

pub rules_alone-requires-clause-windows : goal.rules_alone-requires-clause-windows
rules_alone-requires-clause-windows c = windows_here (chip_values c.args.chip.now) c.args.self c.args.rows.now.tiles.start c.args.rows.now.tiles.end c.args.rows.now.windows.start c.args.rows.now.windows.end c.requires.tiles c.requires.windows c.requires.looks

pub returns : goal.returns
returns c = subst (λ (v : Values). Gives Memory values_of c.rules_alone.result (by_size v)) (part_alone_here (chip_values c.args.chip.now) c.args.self c.args.rows.now.tiles.start c.args.rows.now.tiles.end c.args.rows.now.windows.start c.args.rows.now.windows.end c.requires.tiles c.requires.windows) c.rules_alone.ensures
