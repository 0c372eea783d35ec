use Rattle.std.proofs.Common.{◌∙◌, sym, rules, FitsSigned, w64}
use Rattle.std.proofs.lemmas.Bool.{and_from, and_parts}
use Rattle.fill_base.specs.Counts.{is_between}
use Rattle.fill_base.specs.Limits.{IsSpacing}
use Rattle.fill_base.proofs.Signed.{read_is}
use Rattle.fill_size.proofs.Ranges.{spacing_read}
use Rattle.fill_raster.specs.Lattice.{in_tile}
use Rattle.fill_job.specs.Basis.{layers_by, plan_by, windows_in}
use Rattle.fill_job.specs.Plans.{is_suitable}
use Rattle.fill_job.proofs.Marking.{tile_marked}
use Rattle.fill_job.proofs.Reaching.{first_in}
use Rattle.fill_job.proofs.basis.Basis.mark_tile.Goals as goal

pub reaches-requires-clause-places : goal.reaches-requires-clause-places
reaches-requires-clause-places c =
    let left : FitsSigned w64 c.places.result.0.start = search rules in
    let right : FitsSigned w64 c.places.result.0.end = search rules in
    let bottom : FitsSigned w64 c.places.result.1.start = search rules in
    let places = rw c.raster.ensures.raster at c.places.ensures.places in
    rw (read_is _ left, read_is _ right, read_is _ bottom)
    (λ i h. (and_parts _ _ (sym (places i c.places.result.1.start) ∙ and_from _ _ h (first_in c.places.result.1.start c.places.result.1.end c.places.ensures.rows))).0)

pub reaches-requires-2-clause-places : goal.reaches-requires-2-clause-places
reaches-requires-2-clause-places c =
    let left : FitsSigned w64 c.places.result.0.start = search rules in
    let right : FitsSigned w64 c.places.result.0.end = search rules in
    let bottom : FitsSigned w64 c.places.result.1.start = search rules in
    let places = rw c.raster.ensures.raster at c.places.ensures.places in
    rw (read_is _ left, read_is _ right, read_is _ bottom)
    (λ i h. (and_parts _ _ (sym (places i c.places.result.1.start) ∙ and_from _ _ h (first_in c.places.result.1.start c.places.result.1.end c.places.ensures.rows))).0)

pub reaches-requires-3-clause-places : goal.reaches-requires-3-clause-places
reaches-requires-3-clause-places c =
    let left : FitsSigned w64 c.places.result.0.start = search rules in
    let right : FitsSigned w64 c.places.result.0.end = search rules in
    let bottom : FitsSigned w64 c.places.result.1.start = search rules in
    let places = rw c.raster.ensures.raster at c.places.ensures.places in
    rw (read_is _ left, read_is _ right, read_is _ bottom)
    (λ i h. (and_parts _ _ (sym (places i c.places.result.1.start) ∙ and_from _ _ h (first_in c.places.result.1.start c.places.result.1.end c.places.ensures.rows))).0)

pub mark_rows-requires-clause-reaches : goal.mark_rows-requires-clause-reaches
mark_rows-requires-clause-reaches c =
    let p = plan_by c.args.self.now in
    let spacing : IsSpacing c.spacing.result = record { least = c.spacing.ensures.range.0; most = c.spacing.ensures.range.1 } in
    let fill_spacing : IsSpacing c.fill_spacing.result = record { least = c.fill_spacing.ensures.range.0; most = c.fill_spacing.ensures.range.1 } in
    let is : IsSpacing p.spacing = rw c.spacing.ensures.value at spacing in
    let fill_is : IsSpacing p.fill_spacing = rw c.fill_spacing.ensures.value at fill_spacing in
    record {
      metal = rw (c.spacing.ensures.value, spacing_read p.spacing is) at c.in_ok-reaches.ensures;
      fill = rw (c.fill_spacing.ensures.value, spacing_read p.fill_spacing fill_is) at c.in_ok-reaches-2.ensures;
      keep = c.in_ok-reaches-3.ensures;
    }

pub mark_rows-requires-clause-places : goal.mark_rows-requires-clause-places
mark_rows-requires-clause-places c =
    let left : FitsSigned w64 c.places.result.0.start = search rules in
    let right : FitsSigned w64 c.places.result.0.end = search rules in
    let bottom : FitsSigned w64 c.places.result.1.start = search rules in
    let top : FitsSigned w64 c.places.result.1.end = search rules in
    let places = rw c.raster.ensures.raster at c.places.ensures.places in
    rw (read_is _ left, read_is _ right, read_is _ bottom, read_is _ top) (λ i j h. (and_parts _ _ (sym (places i j) ∙ h)).0)

pub mark_rows-requires-clause-block : goal.mark_rows-requires-clause-block
mark_rows-requires-clause-block c =
    let left : FitsSigned w64 c.places.result.0.start = search rules in
    let right : FitsSigned w64 c.places.result.0.end = search rules in
    let bottom : FitsSigned w64 c.places.result.1.start = search rules in
    let top : FitsSigned w64 c.places.result.1.end = search rules in
    let places = rw c.raster.ensures.raster at c.places.ensures.places in
    rw (read_is _ left, read_is _ right, read_is _ bottom, read_is _ top) (λ i j h. c.requires.block i j ∙ (sym (places i j) ∙ h))

pub returns : goal.returns
returns c =
    let left : FitsSigned w64 c.places.result.0.start = search rules in
    let right : FitsSigned w64 c.places.result.0.end = search rules in
    let bottom : FitsSigned w64 c.places.result.1.start = search rules in
    let top : FitsSigned w64 c.places.result.1.end = search rules in
    let places = rw c.raster.ensures.raster at c.places.ensures.places in
    let marked = rw (read_is _ left, read_is _ right, read_is _ bottom, read_is _ top) at c.mark_rows.ensures in
    λ i j. marked i j ∙ tile_marked (in_tile (plan_by c.args.self.now).raster c.args.tile i j)
    (is_between c.places.result.0.start c.places.result.0.end i) (is_between c.places.result.1.start c.places.result.1.end j)
    (is_suitable (plan_by c.args.self.now) (layers_by c.args.self.now) (windows_in c.args.self.now.low) i j) (places i j)
