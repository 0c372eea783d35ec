-- What the values of a chip's rules show.
use Rattle.fill_text.specs.Rules.{Values}
use Rattle.fill_text.specs.ValuesOfRules.{values_from}
use Rattle.fill_text.specs.declared.chip.ChipRules.{ChipRules}

-- the value of each key
abbrev pub chip_values : ChipRules → Values
chip_values c = values_from c.numbers c.texts c.also c.keep c.ignores
