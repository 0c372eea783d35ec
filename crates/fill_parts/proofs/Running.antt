-- One part, run as a smaller chip on what lies where it looks.
use Rattle.std.proofs.Common.{ap, ◌∙◌}
use Rattle.fill_base.specs.Sides.{Sides}
use Rattle.fill_job.specs.Plans.{Layers, drawn_squares, plan_of}
use Rattle.fill_core.specs.Boxes.{low_fill}
use Rattle.fill_parts.specs.Needs.{IsEnough, LayersAgree, in_coordinates, layers_met, needed_sides}
use Rattle.fill_parts.specs.PartChip.{rows_fill}
use Rattle.fill_parts.specs.PartFill.{part_fill, layers_with}
use Rattle.fill_parts.specs.PartReport.{part_report}
use Rattle.fill_parts.specs.Laws.{ChipRunIsThePart}
use Rattle.fill_parts.proofs.Agreeing.{fills_agree}
use Rattle.fill_parts.proofs.Clipping.{clipped}
use Rattle.fill_parts.proofs.Editing.{both_agree, edits_agree, edits_changes, inside_suffice, turned}
use Rattle.fill_parts.proofs.Lines.{lines_agree}
use Rattle.fill_parts.proofs.Sides.{sides_least}
use Rattle.std.specs.List.{filter}

pub chip_run : ChipRunIsThePart
chip_run values k small tiles windows below layers touches edits holds is ordered within metal_in fill_in keep_in outside =
    let plan = plan_of small in
    let s : Sides = needed_sides plan in
    let enough : IsEnough plan s = (sides_least plan is).enough in
    let d = layers_met (in_coordinates s) layers in
    let e = layers_with (filter touches edits) d in
    let w = layers_with edits layers in
    let clip : LayersAgree s layers d = record { metal = clipped s layers.metal metal_in; fill = clipped s layers.fill fill_in; keep = clipped s layers.keep keep_in } in
    let agree : LayersAgree s e w = turned s w e (both_agree s w (layers_with edits d) e (edits_agree s edits layers d clip) (inside_suffice s touches edits d outside)) in
    let whole = edits_changes edits layers in
    record {
      places = ap (rows_fill plan tiles) (fills_agree plan s e w is enough agree) ∙ (holds.fill w ∙ ap (λ (m : Layers). part_fill (plan_of values) m k) whole);
      lines = lines_agree small windows below s e w is enough agree ordered within ∙ (holds.lines w ∙ ap (λ (m : Layers). part_report values (drawn_squares m) (low_fill (plan_of values) m) k) whole);
    }
