use Rattle.std.proofs.Common.{sym, ap, ◌∙◌, length}
use Rattle.gds_cells.specs.Links.{singles}
use Rattle.gds_grammar.specs.declared.element.Array as arrays
use Rattle.gds_grammar.specs.declared.element.Element.{Element}
use Rattle.gds_grammar.specs.Values.{array, shape_of}
use Rattle.gds_join.specs.Reading.{corners_of}
use Rattle.gds_join.proofs.Marking.{array_falls, array_stands}
use Rattle.gds_join.proofs.Numbering.{link_counted}
use Rattle.gds_join.proofs.number.references_of.Goals as goal

pub returns-in-Ok-array_link : goal.returns-in-Ok-array_link
returns-in-Ok-array_link c =
    let a = c.deref-in-Array.result.now in
    link_counted c.in-Ok-array_link.link (corners_of (shape_of c.args.element.now))
    (array_stands a.cell.now a.transform a.columns a.rows a.points (singles c.in-Ok-array_link.link) c.in-Ok-array_link.ensures.ok.0 c.in-Ok-array_link.ensures.ok.2
    ∙ (ap (λ (x : arrays.Array). corners_of (array x.cell.now x.transform x.columns x.rows x.points)) c.deref-in-Array.ensures ∙ ap (λ (e : Element). corners_of (shape_of e)) (sym c.in-Array.is)))

pub returns-in-Err-array_link : goal.returns-in-Err-array_link
returns-in-Err-array_link c =
    let a = c.deref-in-Array.result.now in
    ap length (sym (array_falls a.cell.now a.transform a.columns a.rows a.points c.in-Err-array_link.field-0 c.in-Err-array_link.ensures.refused)
    ∙ (ap (λ (x : arrays.Array). corners_of (array x.cell.now x.transform x.columns x.rows x.points)) c.deref-in-Array.ensures ∙ ap (λ (e : Element). corners_of (shape_of e)) (sym c.in-Array.is)))
