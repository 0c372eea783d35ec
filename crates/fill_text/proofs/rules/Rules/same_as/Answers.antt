use Rattle.fill_text.specs.ValuesOfRules.{values_of}
use Rattle.fill_text.proofs.SameRules.{same_values}
use Rattle.fill_text.proofs.rules.Rules.same_as.Goals as goal

pub returns : goal.returns
returns c = rw c.eq.ensures (same_values (values_of c.args.self.now) (values_of c.args.other.now))
