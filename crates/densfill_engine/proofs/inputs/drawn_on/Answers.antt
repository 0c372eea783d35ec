use Rattle.std.proofs.Common.{Option, Some, None, IfOk, IfErr, subst, sym}
use Rattle.std.proofs.lemmas.Result.{err_from_is_err_and}
use Rattle.std.specs.List.{flat_map}
use Rattle.std.specs.Vec.{vec_items}
use Rattle.fill_base.specs.declared.rect.Rect.{Rect}
use Rattle.fill_region.specs.Squares.{covered}
use Rattle.fill_text.specs.ValuesOfRules.{values_of}
use Rattle.gds_grammar.specs.Values.{contents_of}
use Rattle.densfill_engine.specs.Designs.{IsDrawnNear, IsRefusedNear}
use Rattle.densfill_engine.proofs.Checking.{all_ok}
use Rattle.densfill_engine.proofs.inputs.drawn_on.Goals as goal

pub returns-in_err-rects-in-Some-clause-refused : goal.returns-in_err-rects-in-Some-clause-refused
returns-in_err-rects-in-Some-clause-refused g c =
    let p = err_from_is_err_and c.from_residual.result c.from_residual.ensures.1 in
    rw (p.1, p.2) (subst (λ (f : Option Rect). IsRefusedNear f (contents_of c.args.library.now).cells (values_of c.args.view.now.rules).top c.args.layers.now c.in_err-rects-in-Some.field-0.0) (sym c.in-Some.is)
    (rw c.top-top.ensures at c.in_err-rects-in-Some.ensures.refused))

pub returns-in-None-clause-drawn : goal.returns-in-None-clause-drawn
returns-in-None-clause-drawn g c =
    let cells = (contents_of c.args.library.now).cells in
    subst (λ (f : Option Rect). IfOk c.flatten_parts.result (λ lists. IsDrawnNear f cells (values_of c.args.view.now.rules).top c.args.layers.now (covered (flat_map vec_items lists.items)))) (sym c.in-None.is)
    (subst (λ t. IfOk c.flatten_parts.result (λ lists. IsDrawnNear None cells t c.args.layers.now (covered (flat_map vec_items lists.items)))) c.top-top.ensures
    (all_ok c.flatten_parts.result (λ lists fine inside squares. record { countable = fine; inside = inside; ranged = tt; squares_are = squares })
    c.flatten_parts.ensures.fine c.flatten_parts.ensures.inside c.flatten_parts.ensures.squares))

pub returns-in-None-clause-refused : goal.returns-in-None-clause-refused
returns-in-None-clause-refused g c =
    let cells = (contents_of c.args.library.now).cells in
    subst (λ (f : Option Rect). IfErr c.flatten_parts.result (λ e. IsRefusedNear f cells (values_of c.args.view.now.rules).top c.args.layers.now e)) (sym c.in-None.is)
    (subst (λ t. IfErr c.flatten_parts.result (λ e. IsRefusedNear None cells t c.args.layers.now e)) c.top-top.ensures c.flatten_parts.ensures.refused)

pub returns-in_ok-lists-in-Some-clause-drawn : goal.returns-in_ok-lists-in-Some-clause-drawn
returns-in_ok-lists-in-Some-clause-drawn g c =
    let cells = (contents_of c.args.library.now).cells in
    let top = (values_of c.args.view.now.rules).top in
    subst (λ (f : Option Rect). IsDrawnNear f cells top c.args.layers.now (covered (flat_map vec_items c.in_ok-lists-in-Some.lists.items))) (sym c.in-Some.is)
    (subst (λ rects. IsDrawnNear (Some c.in-Some.frame) cells top c.args.layers.now (covered rects)) (sym c.in_ok-lists-in-Some.ensures) (record {
      countable = rw c.top-top.ensures at c.in_ok-rects-in-Some.ensures.fine;
      inside = rw c.top-top.ensures at c.in_ok-rects-in-Some.ensures.inside;
      ranged = rw c.top-top.ensures at c.in_ok-rects-in-Some.ensures.range;
      squares_are = rw c.top-top.ensures at c.in_ok-rects-in-Some.ensures.squares;
    }))
