use Rattle.std.proofs.Common.{◌≡◌, arith, to_z, w64}
use Rattle.std.proofs.lemmas.Int.{ints}
use Rattle.fill_base.proofs.Signed.{read}
use Rattle.gds_shape.proofs.Segmented.{segmented_step, segmented_end}
use Rattle.gds_shape.proofs.segments.segments_along.Goals as goal

pub segments-preserved : goal.segments-preserved
segments-preserved c =
    let half : read c.args.half ≡ c.args.half = omega (arith, ints) in
    let before : read c.args.before ≡ c.args.before = omega (arith, ints) in
    let after : read c.args.after ≡ c.args.after = omega (arith, ints) in
    let end : read c.ending-end.result ≡ c.ending-end.result = omega (arith, ints) in
    rw (half, before, after) (segmented_step c.args.half c.args.before c.args.after c.args.corners.now _ c.segments.rest.now c.split_at.result.1.now (to_z w64 c.segments.longer-bits) c.ending-end.result
    c.segments.made.items c.push.new.self.items c.segment.result (rw (half, before, after) at c.segments.invariant) c.segments-test.true c.requires.half (rw (half, after) at c.ending-end.ensures)
    (rw (half, end) at c.segment.ensures) c.in_ok-push.ensures.items c.split_at.ensures.back)

pub returns : goal.returns
returns c =
    let half : read c.args.half ≡ c.args.half = omega (arith, ints) in
    let before : read c.args.before ≡ c.args.before = omega (arith, ints) in
    let after : read c.args.after ≡ c.args.after = omega (arith, ints) in
    segmented_end c.args.half c.args.before c.args.after c.args.corners.now c.segments.rest.now (to_z w64 c.segments.longer-bits) c.segments.made.items (rw (half, before, after) at c.segments.invariant) c.segments-test.false
