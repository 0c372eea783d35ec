use Rattle.fill_base.specs.Limits.{IsSpacing}
use Rattle.fill_size.proofs.Ranges.{spacing_read}
use Rattle.fill_job.specs.Plans.{plan_of}
use Rattle.fill_state.proofs.pieces.metal_pieces.Goals as goal

pub returns : goal.returns
returns g c =
    let p = plan_of c.args.rules.now in
    let range : IsSpacing c.spacing.result = record { least = c.spacing.ensures.range.0; most = c.spacing.ensures.range.1 } in
    let is : IsSpacing p.spacing = rw c.spacing.ensures.value at range in
    rw (c.raster.ensures.raster, c.spacing.ensures.value, spacing_read p.spacing is) at c.pieces_of.ensures
