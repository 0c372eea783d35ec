use Rattle.fill_base.specs.Limits.{IsSpacing}
use Rattle.fill_size.proofs.Ranges.{spacing_read}
use Rattle.fill_job.specs.Plans.{plan_of}
use Rattle.fill_state.proofs.pieces.existing_pieces.Goals as goal

pub returns : goal.returns
returns g c =
    let p = plan_of c.args.rules.now in
    let range : IsSpacing c.fill_spacing.result = record { least = c.fill_spacing.ensures.range.0; most = c.fill_spacing.ensures.range.1 } in
    let is : IsSpacing p.fill_spacing = rw c.fill_spacing.ensures.value at range in
    rw (c.raster.ensures.raster, c.fill_spacing.ensures.value, spacing_read p.fill_spacing is) at c.pieces_of.ensures
