use Rattle.std.proofs.Common.{◌≡◌, true, false, refl, subst, sym, ap, ◌∙◌}
use Rattle.std.proofs.lemmas.Result.{err_from_is_err_and}
use Rattle.gds_grammar.specs.Values.{shape_of}
use Rattle.gds_flatten.specs.Frames.{meets}
use Rattle.gds_cells.specs.Placements.{carried_bounds}
use Rattle.gds_cells.specs.steps.Filled.{rects_in}
use Rattle.gds_cells.specs.steps.Prepared.{IsPrepared}
use Rattle.gds_cells.specs.steps.Walks.{shape_copies}
use Rattle.gds_flatten.proofs.Missed.{found_missed, shape_missed, bare_shape, shape_found, shape_many}
use Rattle.gds_flatten.proofs.framed.find_shape.Goals as goal

pub returns-in_default-clause-found : goal.returns-in_default-clause-found
returns-in_default-clause-found c =
    let s = c.args.shape.now in
    let prepared = subst (IsPrepared (shape_of s.element.now) (rects_in s.filled)) (sym c.extent.ensures ∙ c.in_default.is) s.prepared in
    found_missed c.args.framed.now (shape_copies c.args.at.now s) c.args.found.now (bare_shape c.args.framed.now.frame.now c.args.at.now (shape_of s.element.now) (rects_in s.filled) prepared)

pub returns-then-not-meets-clause-found : goal.returns-then-not-meets-clause-found
returns-then-not-meets-clause-found c =
    let s = c.args.shape.now in
    let prepared = subst (IsPrepared (shape_of s.element.now) (rects_in s.filled)) (sym c.extent.ensures ∙ c.in-Some.is) s.prepared in
    let apart : meets c.args.framed.now.frame.now (carried_bounds c.args.at.now c.in-Some.extent) ≡ false = ap (meets c.args.framed.now.frame.now) (sym c.carried_bounds.ensures) ∙ sym c.meets.ensures ∙ c.if-not-meets.true in
    found_missed c.args.framed.now (shape_copies c.args.at.now s) c.args.found.now
    (shape_missed c.args.framed.now.frame.now c.args.at.now (shape_of s.element.now) (rects_in s.filled) c.in-Some.extent prepared apart)

pub returns-in_err-found-clause-refused : goal.returns-in_err-found-clause-refused
returns-in_err-found-clause-refused c =
    let p = err_from_is_err_and c.from_residual.result c.from_residual.ensures.1 in
    let s = c.args.shape.now in
    let prepared = subst (IsPrepared (shape_of s.element.now) (rects_in s.filled)) (sym c.extent.ensures ∙ c.in-Some.is) s.prepared in
    let here : meets c.args.framed.now.frame.now (carried_bounds c.args.at.now c.in-Some.extent) ≡ true = ap (meets c.args.framed.now.frame.now) (sym c.carried_bounds.ensures) ∙ sym c.meets.ensures ∙ c.if-not-meets.false in
    rw (p.1, p.2) (shape_many c.args.framed.now.frame.now c.args.at.now (shape_of s.element.now) (rects_in s.filled) c.in-Some.extent c.args.found.now c.in_err-found.field-0.0 prepared here c.in_err-found.ensures.refused)

pub returns-clause-found : goal.returns-clause-found
returns-clause-found c =
    let s = c.args.shape.now in
    let prepared = subst (IsPrepared (shape_of s.element.now) (rects_in s.filled)) (sym c.extent.ensures ∙ c.in-Some.is) s.prepared in
    let here : meets c.args.framed.now.frame.now (carried_bounds c.args.at.now c.in-Some.extent) ≡ true = ap (meets c.args.framed.now.frame.now) (sym c.carried_bounds.ensures) ∙ sym c.meets.ensures ∙ c.if-not-meets.false in
    shape_found c.args.framed.now c.args.at.now (shape_of s.element.now) (rects_in s.filled) c.in-Some.extent c.args.found.now _ prepared here c.in_ok-found.ensures.counted refl refl c.in_ok-carry_if_inside.ensures.added
