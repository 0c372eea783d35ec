use Rattle.std.proofs.lemmas.Result.{err_from_is_err_and}
use Rattle.fill_text.specs.ValuesOfChips.{chip_values}
use Rattle.fill_text.specs.steps.Entries.{checked_chip}
use Rattle.fill_text.proofs.FirstFaults.{given_behind, refused_before}
use Rattle.fill_text.proofs.Given.{chip_rules_given}
use Rattle.fill_text.proofs.rule_file.read_chip_rules.Goals as goal

pub returns-in_err-values_in : goal.returns-in_err-values_in
returns-in_err-values_in c =
    let p = err_from_is_err_and c.from_residual.result c.from_residual.ensures.1 in
    rw (p.1, p.2) (refused_before _ _ _ checked_chip _ (chip_rules_given c.args.text.now) c.in_err-values_in.ensures)

pub returns : goal.returns
returns c = given_behind _ chip_values _ _ _ checked_chip _ (chip_rules_given c.args.text.now) c.in_ok-values_in.ensures c.checked_chip.ensures
