use Rattle.std.proofs.Common.{◌≡◌, ◌∙◌, ap, ◌||◌, pos, ◌-ℤ◌}
use Rattle.std.specs.List.{list_any}
use Rattle.std.proofs.lemmas.Result.{err_from_is_err_and}
use Rattle.fill_region.specs.Squares.{covered}
use Rattle.gds_shape.specs.Paths.{in_bounds}
use Rattle.gds_shape.proofs.Faults.{refusal_is}
use Rattle.gds_shape.proofs.Spread.{still_all, still_squares}
use Rattle.gds_grammar.specs.Values.{wire_of}
use Rattle.gds_shape.proofs.path.path_region.Goals as goal

pub returns-in_err-segments-clause-refused : goal.returns-in_err-segments-clause-refused
returns-in_err-segments-clause-refused c =
    let p = err_from_is_err_and c.from_residual.result c.from_residual.ensures.1 in
    rw (p.1, p.2) (refusal_is (wire_of c.args.path.now) c.in_err-segments.field-0.0 c.in_err-segments.ensures.is)

pub put_bounds-requires : goal.put_bounds-requires
put_bounds-requires c = rw (still_all c.deref-2.result.now, c.deref-2.ensures.value) (rw c.deref.ensures.value at (c.are_in_range.ensures.0 c.if-not-are_in_range.false))

pub returns-clause-squares : goal.returns-clause-squares
returns-clause-squares c = λ x y.
    let put : covered c.put_bounds.new.out.items x y ≡ (covered c.new-rects.result.items x y || list_any (λ b. in_bounds b (x -ℤ pos 0) (y -ℤ pos 0)) c.deref-2.result.now) = c.in_ok-put_bounds.ensures x y in
    c.in_ok-region.ensures.squares x y ∙ (ap (λ rects. covered rects x y) c.deref-3.ensures.value
    ∙ (put ∙ (ap (λ rects. covered rects x y || list_any (λ b. in_bounds b (x -ℤ pos 0) (y -ℤ pos 0)) c.deref-2.result.now) c.new-rects.ensures.items
    ∙ (still_squares c.deref-2.result.now x y ∙ ap (λ all. list_any (λ b. in_bounds b x y) all) (c.deref-2.ensures.value ∙ c.in_ok-segments.ensures.is.1)))))
