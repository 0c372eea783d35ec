use Rattle.std.proofs.Common.{rules, refl}
use Rattle.std.proofs.lemmas.Fn.{filter_same}
use Rattle.gds_flatten.specs.steps.Idle.{is_busy}
use Rattle.gds_flatten.proofs.idle.drop_idle_from.Goals as goal

pub returns : goal.returns
returns c = record { shapes = refl; links = filter_same _ (is_busy c.args.counts.now) _ (λ x b q k. search rules) _ _ c.retain.ensures.filtered }
