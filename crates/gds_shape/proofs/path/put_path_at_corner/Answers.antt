use Rattle.std.proofs.Common.{◌<◌, length, arith, rules}
use Rattle.std.specs.Prelude.{All}
use Rattle.gds_shape.specs.Extents.{IsNear, IsExtent}
use Rattle.gds_shape.specs.Paths.{segments_of}
use Rattle.gds_shape.proofs.Spread.{zero_bounds}
use Rattle.gds_shape.proofs.Inside.{bounds_inside}
use Rattle.gds_shape.proofs.Near.{near_bounds, bounds_within, some_items}
use Rattle.gds_grammar.specs.Values.{wire_of}
use Rattle.gds_shape.proofs.path.put_path_at_corner.Goals as goal

pub move_to_corner-requires : goal.move_to_corner-requires
move_to_corner-requires c =
    let near : All IsNear c.deref.result.now = rw c.deref.ensures.value c.in_ok-segments.ensures.near in
    let filled : 0 < length c.deref.result.now = search rules in
    near_bounds c.deref.result.now zero_bounds c.bounds_extent-extent.result filled near c.bounds_extent-extent.ensures

pub put_bounds-requires : goal.put_bounds-requires
put_bounds-requires c =
    let extent : IsExtent c.in_ok-segments.segments.items c.bounds_extent-extent.result = rw c.deref.ensures.value at c.bounds_extent-extent.ensures in
    rw c.deref-in-Some.ensures.value (bounds_within c.in_ok-segments.segments.items c.bounds_extent-extent.result c.in-Some.by c.in_ok-segments.ensures.near extent c.in-Some.ensures.some.0 c.in-Some.ensures.some.1)

pub returns-in-Some-clause-extent : goal.returns-in-Some-clause-extent
returns-in-Some-clause-extent c =
    let all = c.in_ok-segments.segments.items in
    let extent : IsExtent all c.bounds_extent-extent.result = rw c.deref.ensures.value at c.bounds_extent-extent.ensures in
    let filled : 0 < length all = omega (arith, some_items _ c.if-is_empty.ensures) in
    let found : IsExtent (segments_of (wire_of c.args.path.now)) c.bounds_extent-extent.result = rw c.in_ok-segments.ensures.is.1 at extent in
    (found, near_bounds all zero_bounds c.bounds_extent-extent.result filled c.in_ok-segments.ensures.near extent, bounds_inside (segments_of (wire_of c.args.path.now)) c.bounds_extent-extent.result found)

pub returns-clause-extent : goal.returns-clause-extent
returns-clause-extent c =
    let all = c.in_ok-segments.segments.items in
    let extent : IsExtent all c.bounds_extent-extent.result = rw c.deref.ensures.value at c.bounds_extent-extent.ensures in
    let filled : 0 < length all = omega (arith, some_items _ c.if-is_empty.ensures) in
    let found : IsExtent (segments_of (wire_of c.args.path.now)) c.bounds_extent-extent.result = rw c.in_ok-segments.ensures.is.1 at extent in
    (found, near_bounds all zero_bounds c.bounds_extent-extent.result filled c.in_ok-segments.ensures.near extent, bounds_inside (segments_of (wire_of c.args.path.now)) c.bounds_extent-extent.result found)
