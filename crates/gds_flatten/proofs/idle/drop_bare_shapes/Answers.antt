use Rattle.std.proofs.Common.{rules}
use Rattle.std.proofs.lemmas.Fn.{filter_same}
use Rattle.gds_flatten.specs.steps.Idle.{is_drawn}
use Rattle.gds_flatten.proofs.idle.drop_bare_shapes.Goals as goal

pub returns : goal.returns
returns c = filter_same _ is_drawn _ (λ x b q k. search rules) _ _ c.retain.ensures.filtered
