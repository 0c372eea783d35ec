use Rattle.std.proofs.Common.{sym, ap, ◌∙◌, ◌||◌}
use Rattle.fill_state.specs.Filling.{is_filled}
use Rattle.gds_cells.specs.Links.{singles}
use Rattle.gds_grammar.specs.declared.element.Array as arrays
use Rattle.gds_grammar.specs.declared.element.Element.{Element}
use Rattle.gds_grammar.specs.declared.element.Ref as references
use Rattle.gds_grammar.specs.Values.{array, shape_of, shape_of_reference}
use Rattle.gds_out.specs.Laws.{raster_in}
use Rattle.gds_join.specs.Reading.{corners_of}
use Rattle.gds_join.specs.steps.Far.{stands_at}
use Rattle.gds_join.proofs.Marking.{array_falls, array_stands, reference_falls, reference_stands, stands_none}
use Rattle.gds_join.proofs.reading.fill_element.Goals as goal

pub returns-in-Ok-clause-filled : goal.returns-in-Ok-clause-filled
returns-in-Ok-clause-filled c = λ i j.
    let r = c.deref.result.now in
    c.fill_link.ensures.filled i j
    ∙ ap (λ ps. is_filled c.args.filled.now i j || stands_at (raster_in c.args.rules.now) ps i j)
    (reference_stands r.cell.now r.transform r.origin (singles c.in-Ok.link) c.in-Ok.ensures.ok.0 c.in-Ok.ensures.ok.2
    ∙ (ap (λ (x : references.Ref). corners_of (shape_of_reference x)) c.deref.ensures ∙ ap (λ (e : Element). corners_of (shape_of e)) (sym c.in-Ref.is)))

pub returns-in_default-clause-filled : goal.returns-in_default-clause-filled
returns-in_default-clause-filled c = λ i j.
    let r = c.deref.result.now in
    stands_none (raster_in c.args.rules.now) i j (is_filled c.args.filled.now i j)
    ∙ ap (λ ps. is_filled c.args.filled.now i j || stands_at (raster_in c.args.rules.now) ps i j)
    (sym (reference_falls r.cell.now r.transform r.origin c.in_default.field-0 c.in_default.ensures.refused)
    ∙ (ap (λ (x : references.Ref). corners_of (shape_of_reference x)) c.deref.ensures ∙ ap (λ (e : Element). corners_of (shape_of e)) (sym c.in-Ref.is)))

pub returns-in-Ok-array_link-clause-filled : goal.returns-in-Ok-array_link-clause-filled
returns-in-Ok-array_link-clause-filled c = λ i j.
    let a = c.deref-in-Array.result.now in
    c.fill_link-in-Ok-array_link.ensures.filled i j
    ∙ ap (λ ps. is_filled c.args.filled.now i j || stands_at (raster_in c.args.rules.now) ps i j)
    (array_stands a.cell.now a.transform a.columns a.rows a.points (singles c.in-Ok-array_link.link) c.in-Ok-array_link.ensures.ok.0 c.in-Ok-array_link.ensures.ok.2
    ∙ (ap (λ (x : arrays.Array). corners_of (array x.cell.now x.transform x.columns x.rows x.points)) c.deref-in-Array.ensures ∙ ap (λ (e : Element). corners_of (shape_of e)) (sym c.in-Array.is)))

pub returns-in_default-array_link-clause-filled : goal.returns-in_default-array_link-clause-filled
returns-in_default-array_link-clause-filled c = λ i j.
    let a = c.deref-in-Array.result.now in
    stands_none (raster_in c.args.rules.now) i j (is_filled c.args.filled.now i j)
    ∙ ap (λ ps. is_filled c.args.filled.now i j || stands_at (raster_in c.args.rules.now) ps i j)
    (sym (array_falls a.cell.now a.transform a.columns a.rows a.points c.in_default-array_link.field-0 c.in_default-array_link.ensures.refused)
    ∙ (ap (λ (x : arrays.Array). corners_of (array x.cell.now x.transform x.columns x.rows x.points)) c.deref-in-Array.ensures ∙ ap (λ (e : Element). corners_of (shape_of e)) (sym c.in-Array.is)))

pub returns-in-Boundary-clause-filled : goal.returns-in-Boundary-clause-filled
returns-in-Boundary-clause-filled c = λ i j.
    stands_none (raster_in c.args.rules.now) i j (is_filled c.args.filled.now i j)
    ∙ ap (λ (e : Element). is_filled c.args.filled.now i j || stands_at (raster_in c.args.rules.now) (corners_of (shape_of e)) i j) (sym c.in-Boundary.is)
