use Rattle.std.proofs.Common.{pos}
use Rattle.fill_base.specs.declared.place.Point.{Point}
use Rattle.gds_shape.proofs.Cornering.{near_points, points_within}
use Rattle.gds_shape.proofs.Inside.{boundary_inside}
use Rattle.gds_shape.proofs.boundary.put_boundary_at_corner.Goals as goal

origin : Point
origin = record { x = pos 0; y = pos 0 }

pub move_to_corner-requires : goal.move_to_corner-requires
move_to_corner-requires c = near_points c.args.points.now origin c.points_extent-extent.result c.requires.filled c.requires.stored c.points_extent-extent.ensures

pub put_boundary-requires-clause-within : goal.put_boundary-requires-clause-within
put_boundary-requires-clause-within c = points_within c.args.points.now c.points_extent-extent.result c.in-Some.by c.points_extent-extent.ensures c.in-Some.ensures.some.0 c.in-Some.ensures.some.1

pub returns-in_ok-put_boundary-in-Some-clause-near : goal.returns-in_ok-put_boundary-in-Some-clause-near
returns-in_ok-put_boundary-in-Some-clause-near c = near_points c.args.points.now origin c.points_extent-extent.result c.requires.filled c.requires.stored c.points_extent-extent.ensures

pub returns-in_ok-put_boundary-in-Some-clause-inside : goal.returns-in_ok-put_boundary-in-Some-clause-inside
returns-in_ok-put_boundary-in-Some-clause-inside c = boundary_inside c.args.points.now c.points_extent-extent.result c.requires.manhattan c.requires.closed c.points_extent-extent.ensures

pub returns-in-None-clause-near : goal.returns-in-None-clause-near
returns-in-None-clause-near c = near_points c.args.points.now origin c.points_extent-extent.result c.requires.filled c.requires.stored c.points_extent-extent.ensures

pub returns-in-None-clause-inside : goal.returns-in-None-clause-inside
returns-in-None-clause-inside c = boundary_inside c.args.points.now c.points_extent-extent.result c.requires.manhattan c.requires.closed c.points_extent-extent.ensures

pub returns-in_ok-put_boundary-in-Some-clause-added : goal.returns-in_ok-put_boundary-in-Some-clause-added
returns-in_ok-put_boundary-in-Some-clause-added c = λ narrow x y. rw c.in-Some.ensures.some.1 at (c.in_ok-put_boundary-in-Some.ensures x y)
