use Rattle.gds_shape.proofs.Spread.{zero_bounds, range_at, bounds_next}
use Rattle.gds_shape.proofs.segments.put_bounds.Goals as goal

pub moved_bounds-requires : goal.moved_bounds-requires
moved_bounds-requires c = range_at c.args.by c.args.all.now c.all.bounds-index zero_bounds c.all-test.true c.requires

pub put_one-requires : goal.put_one-requires
put_one-requires c = rw c.moved_bounds.ensures (range_at c.args.by c.args.all.now c.all.bounds-index zero_bounds c.all-test.true c.requires)

pub all-preserved : goal.all-preserved
all-preserved c = λ x y. bounds_next c.args.by c.args.all.now c.all.bounds-index zero_bounds c.moved_bounds.result x y _ _ _ c.all-test.true c.moved_bounds.ensures (c.in_ok-put_one.ensures x y) (c.all.invariant x y)
