use Rattle.std.proofs.Common.{◌∙◌, ap, ◌||◌}
use Rattle.fill_region.specs.Squares.{covered}
use Rattle.gds_shape.proofs.Carried.{manhattan_moved, closed_moved, covers_moved}
use Rattle.gds_shape.proofs.BoxCorners.{box_carried}
use Rattle.gds_shape.proofs.boundary.put_boundary.Goals as goal

pub put_swept-requires-clause-manhattan : goal.put_swept-requires-clause-manhattan
put_swept-requires-clause-manhattan c = manhattan_moved c.args.by c.args.points.now c.requires.manhattan

pub put_swept-requires-clause-closed : goal.put_swept-requires-clause-closed
put_swept-requires-clause-closed c = closed_moved c.args.by c.args.points.now c.requires.closed

pub returns-then-is_box : goal.returns-then-is_box
returns-then-is_box c = λ x y. c.in_ok-put_box.ensures x y ∙ ap (λ b. covered c.args.out.now.items x y || b)
    (box_carried c.args.by c.args.points.now _ c.moved.result c.moved-then-is_box.result x y (c.is_box.ensures c.if-is_box.true) c.requires.closed c.moved.ensures c.moved-then-is_box.ensures)

pub returns : goal.returns
returns c = λ x y. c.in_ok-put_swept.ensures x y ∙ ap (λ b. covered c.args.out.now.items x y || b) (covers_moved c.args.by c.args.points.now x y)
