use Rattle.std.proofs.Common.{sym}
use Rattle.fill_text.specs.declared.keys.TextKey.TheVariants.{Top, FillLib, FillCell, FillTop}
use Rattle.fill_text.proofs.Ranges.{values_ranged}
use Rattle.fill_text.proofs.rule_file.all_values.Goals as goal

pub new-numbers-requires-clause-low : goal.new-numbers-requires-clause-low
new-numbers-requires-clause-low c = λ key. (values_ranged c.args.entries.numbers c.in_ok-all_numbers.field-0 c.requires.numbers (sym c.in_ok-all_numbers.ensures) key).0

pub new-numbers-requires-clause-high : goal.new-numbers-requires-clause-high
new-numbers-requires-clause-high c = λ key. (values_ranged c.args.entries.numbers c.in_ok-all_numbers.field-0 c.requires.numbers (sym c.in_ok-all_numbers.ensures) key).1

pub invariant_of-result : goal.invariant_of-result
invariant_of-result c = record {
  top_allowed = rw c.in_ok-top.ensures.ok_part at (c.requires.texts Top);
  fill_lib_allowed = rw c.in_ok-fill_lib.ensures.ok_part at (c.requires.texts FillLib);
  fill_cell_allowed = rw c.in_ok-fill_cell.ensures.ok_part at (c.requires.texts FillCell);
  fill_top_allowed = rw c.in_ok-fill_top.ensures.ok_part at (c.requires.texts FillTop);
}
