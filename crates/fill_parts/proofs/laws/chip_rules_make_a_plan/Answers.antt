use Rattle.fill_parts.proofs.ChipStanding.{any_size}
use Rattle.fill_parts.proofs.laws.chip_rules_make_a_plan.Goals as goal

pub returns : goal.returns
returns c = any_size _ c.keeps_faultless.ensures.numbers
