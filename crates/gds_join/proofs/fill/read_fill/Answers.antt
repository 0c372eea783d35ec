use Rattle.std.proofs.lemmas.Result.{IfErr-weaker}
use Rattle.fill_text.specs.ValuesOfRules.{values_of}
use Rattle.gds_join.proofs.Taking.{unread_if}
use Rattle.gds_join.proofs.fill.read_fill.Goals as goal

pub returns-clause-refused : goal.returns-clause-refused
returns-clause-refused c = IfErr-weaker c.read_fill_of.result _ _ (λ e why. unread_if (values_of c.args.rules.now) c.args.bytes.now e why) c.read_fill_of.ensures.refused
