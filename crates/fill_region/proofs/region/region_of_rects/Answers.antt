use Rattle.std.proofs.Common.{◌∙◌}
use Rattle.fill_region.specs.Operands.{wanted}
use Rattle.fill_region.proofs.region.region_of_rects.Goals as goal

pub of-requires : goal.of-requires
of-requires g c = c.in_ok-runs.ensures.canonical (wanted c.in_ok-operands.operands) c.in_ok-unordered.ensures

pub returns : goal.returns
returns g c = rw (c.of.ensures) (record { squares = λ x y. c.in_ok-runs.ensures.squares (wanted c.in_ok-operands.operands) c.in_ok-unordered.ensures x y ∙ c.in_ok-operands.ensures x y })
