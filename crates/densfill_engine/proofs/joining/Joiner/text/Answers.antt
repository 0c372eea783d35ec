use Rattle.densfill_engine.proofs.Joined.{all_joined}
use Rattle.densfill_engine.proofs.joining.Joiner.text.Goals as goal

pub returns-clause-joined : goal.returns-clause-joined
returns-clause-joined c =
    let t = c.in_ok-text.ensures in
    all_joined c.taken_are_joined.ensures c.args.self.now t.0 c.in_ok-text.text.items c.chip_rules_make_a_plan.ensures t.1 c.requires.whole c.requires.joiner.some c.requires.joiner.few t.2
