use Rattle.fill_text.specs.ValuesOfChips.{chip_values}
use Rattle.fill_text.proofs.Chips.{chip_numbers}
use Rattle.fill_text.proofs.chip.ChipRules.keeps_faultless.Goals as goal

pub returns-clause-numbers : goal.returns-clause-numbers
returns-clause-numbers c = chip_numbers (chip_values c.args.self.now) (λ key. (c.args.self.now.numbers.low key, c.args.self.now.numbers.high key)) c.args.self.now.faultless
