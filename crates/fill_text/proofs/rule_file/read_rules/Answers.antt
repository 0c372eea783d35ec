use Rattle.std.proofs.lemmas.Result.{err_from_is_err_and}
use Rattle.fill_text.specs.ValuesOfRules.{values_of}
use Rattle.fill_text.specs.steps.Entries.{checked}
use Rattle.fill_text.proofs.FirstFaults.{given_behind, refused_before}
use Rattle.fill_text.proofs.Given.{rules_given}
use Rattle.fill_text.proofs.rule_file.read_rules.Goals as goal

pub returns-in_err-values_in : goal.returns-in_err-values_in
returns-in_err-values_in c =
    let p = err_from_is_err_and c.from_residual.result c.from_residual.ensures.1 in
    rw (p.1, p.2) (refused_before _ _ _ checked _ (rules_given c.args.text.now) c.in_err-values_in.ensures)

pub returns : goal.returns
returns c = given_behind _ values_of _ _ _ checked _ (rules_given c.args.text.now) c.in_ok-values_in.ensures c.checked.ensures
