use Rattle.std.proofs.Common.{◌≡◌, refl, ap, sym, subst, ◌∙◌, List}
use Rattle.fill_state.specs.Layers.{is_drawn}
use Rattle.fill_region.specs.Runs.{Sides, holds}
use Rattle.fill_area.specs.Density.{AreMeasured}
use Rattle.fill_area.specs.Grid.{Grid}
use Rattle.fill_job.specs.Basis.{layers_in, layers_of}
use Rattle.fill_job.specs.Plans.{PointSet, drawn_squares, plan_of}
use Rattle.fill_job.specs.declared.shared.Pieces.{Pieces}
use Rattle.fill_core.specs.Machine.{opening}
use Rattle.fill_book.specs.Standing.{squares_in}
use Rattle.fill_book.proofs.Accounted.{design_drawn, keeps_opening, opening_squares}
use Rattle.fill_book.proofs.book.BookOf.open.Goals as goal

pub open-requires-clause-measured : goal.open-requires-clause-measured
open-requires-clause-measured g c κs within =
    let o = c.in_ok-origin in
    let design : Pieces = record { metal = c.in_ok-new.field-0; fill = c.in_ok-new-2.field-0; keep = c.in_ok-new-3.field-0 } in
    let drawn = design_drawn design o.origin.opening o.origin.existing c.in_ok-drawn.drawn c.region.result.now o.ensures.opening o.ensures.existing c.in_ok-drawn.ensures c.region.ensures in
    rw (← c.windows-windows.ensures, c.deref.ensures.value) (subst (λ (p : PointSet). AreMeasured p c.windows-windows.result c.in_ok-areas.areas.items) drawn c.in_ok-areas.ensures.areas)

pub open-requires-clause-bounded : goal.open-requires-clause-bounded
open-requires-clause-bounded g c κs within = rw c.deref.ensures.value c.in_ok-areas.ensures.bounded

pub of-requires : goal.of-requires
of-requires g c = subst (λ (b : List Sides). AreMeasured (holds b) c.windows-windows.result c.in_ok-areas.areas.items) (c.region.ensures ∙ sym c.region-2.ensures) c.in_ok-areas.ensures.areas

pub invariant_of-book : goal.invariant_of-book
invariant_of-book g c =
    let o = c.in_ok-origin.origin in let e = c.in_ok-origin.ensures in let plan = plan_of o.rules in let s = c.in_ok-stored.stored in
    let design : Pieces = record { metal = c.in_ok-new.field-0; fill = c.in_ok-new-2.field-0; keep = c.in_ok-new-3.field-0 } in
    let same : layers_of design ≡ layers_in o.opening o.existing o.keep = rw (e.opening, e.existing, e.keep) refl in
    let state = c.in_ok-stored.ensures.state ∙ ap (opening plan) same in
    let opened : (is_drawn s.drawn ≡ drawn_squares (layers_of design)) × (squares_in s ≡ drawn_squares (layers_of design)) = opening_squares o.rules s (layers_of design) c.in_ok-stored.ensures.fits c.in_ok-stored.ensures.state in
    let drawn = design_drawn design o.opening o.existing c.in_ok-drawn.drawn c.region-2.result.now e.opening e.existing c.in_ok-drawn.ensures c.region-2.ensures in
    let given = subst (λ (w : Grid). g.T.Totals.stand_for c.in_ok-totals.totals w (holds c.region-2.result.now) (holds c.region-2.result.now)) c.windows-windows.ensures c.in_ok-totals.ensures in
    let stands = subst (λ (p : PointSet). g.T.Totals.stand_for c.in_ok-totals.totals plan.windows p p) (drawn ∙ sym opened.0) given in
    rw (c.new-5.ensures, e.most) (
      keeps_opening o.rules o.opening o.existing o.keep c.args.max_events c.open-books.result.0 s c.make_a_plan.ensures c.in_ok-stored.ensures.fits state c.requires.most c.open-books.ensures.books,
      subst (λ (p : PointSet). g.T.Totals.stand_for c.in_ok-totals.totals plan.windows (is_drawn s.drawn) p) (opened.0 ∙ sym opened.1) stands,
    )
