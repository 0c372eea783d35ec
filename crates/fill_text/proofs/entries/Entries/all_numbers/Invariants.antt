-- The numbers so far, and then those of the keys behind them, are the whole.
use Rattle.std.proofs.Common.{◌≡◌, length, take, drop}
use Rattle.fill_text.specs.Keys.{all_number_keys}
use Rattle.fill_text.specs.steps.Entries.{all_numbers, with_front}
use Rattle.fill_text.proofs.entries.Entries.all_numbers.Given as goal

abbrev pub invariant-loop-i : goal.invariant-loop-i
invariant-loop-i l = record {
  size : length l.numbers ≡ 28;
  read : all_numbers all_number_keys l.self.numbers ≡ with_front (take l.i l.numbers) (all_numbers (drop l.i all_number_keys) (drop l.i l.self.numbers));
}
