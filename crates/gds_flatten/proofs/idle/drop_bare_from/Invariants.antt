use Rattle.std.proofs.Common.{◌≡◌}
use Rattle.std.specs.Prelude.{filter}
use Rattle.gds_flatten.specs.steps.Idle.{is_drawn}
use Rattle.gds_flatten.proofs.Busy.{AreChanged}
use Rattle.gds_flatten.proofs.idle.drop_bare_from.Given as goal

abbrev pub invariant-chunks : goal.invariant-chunks
invariant-chunks l = AreChanged (λ v w. w.items ≡ filter is_drawn v.items) l.initial.chunk-items l.chunk-items l.chunk-index
