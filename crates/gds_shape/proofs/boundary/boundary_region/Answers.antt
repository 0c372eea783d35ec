use Rattle.std.proofs.Common.{◌≡◌, ◌∙◌, ap, ◌||◌, ◌-ℤ◌, pos}
use Rattle.fill_region.specs.Squares.{covered}
use Rattle.gds_shape.specs.Winding.{covers}
use Rattle.gds_shape.proofs.Carried.{still, covers_still}
use Rattle.gds_shape.proofs.boundary.boundary_region.Goals as goal

pub put_boundary-requires-clause-within : goal.put_boundary-requires-clause-within
put_boundary-requires-clause-within c = rw (still c.args.points.now) (c.are_in_range.ensures.0 c.if-not-are_in_range.false)

pub returns-clause-squares : goal.returns-clause-squares
returns-clause-squares c = λ x y.
    let put : covered c.put_boundary.new.out.items x y ≡ (covered c.new-rects.result.items x y || covers c.args.points.now (x -ℤ pos 0) (y -ℤ pos 0)) = c.in_ok-put_boundary.ensures x y in
    c.in_ok-region.ensures.squares x y ∙ (ap (λ rects. covered rects x y) c.deref.ensures.value
    ∙ (put ∙ (ap (λ rects. covered rects x y || covers c.args.points.now (x -ℤ pos 0) (y -ℤ pos 0)) c.new-rects.ensures.items ∙ covers_still c.args.points.now x y)))
