use Rattle.fill_parts.proofs.RulesAlone.{smaller_chip}
use Rattle.fill_parts.proofs.laws.rules_alone_make_a_smaller_chip.Goals as goal

pub returns : goal.returns
returns c = smaller_chip
