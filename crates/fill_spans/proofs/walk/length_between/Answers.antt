use Rattle.std.proofs.Common.{refl, ap, ◌∙◌}
use Rattle.fill_base.proofs.Signed.{read, read_is}
use Rattle.fill_spans.proofs.Walking.{Counted, walk_counts, not_beyond_more}
use Rattle.fill_spans.proofs.walk.length_between.Goals as goal

pub advanced-walk-requires-clause-not_beyond : goal.advanced-walk-requires-clause-not_beyond
advanced-walk-requires-clause-not_beyond c =
    not_beyond_more _ _ _ _ (rw (read_is c.args.lo c.ranges.lo, read_is c.args.hi c.ranges.hi) c.requires.ordered) c.begin.ensures.reached.not_beyond

found : (c : goal.After-advanced-walk) → Counted c.args.edges.now c.advanced-walk.result (read c.args.lo) (read c.args.hi)
found c = walk_counts c.args.edges.now _ _ _ (c.advanced-walk.ensures.starts ∙ c.begin.ensures.starts)
    (rw (read_is c.args.lo c.ranges.lo) c.requires.low) (rw (read_is c.args.hi c.ranges.hi) c.requires.high) c.advanced-walk.ensures.counts c.advanced-walk.ensures.reached

pub counted-requires-clause-least : goal.counted-requires-clause-least
counted-requires-clause-least c = (found c).length.least

pub counted-requires-clause-most : goal.counted-requires-clause-most
counted-requires-clause-most c = (found c).length.most

pub returns : goal.returns
returns c =
    let counted = walk_counts c.args.edges.now c.advanced-walk.result (read c.args.lo) (read c.args.hi) (c.advanced-walk.ensures.starts ∙ c.begin.ensures.starts)
    (rw (read_is c.args.lo c.ranges.lo) c.requires.low) (rw (read_is c.args.hi c.ranges.hi) c.requires.high) c.advanced-walk.ensures.counts c.advanced-walk.ensures.reached in
    ap read c.counted.ensures ∙ (counted.is ∙ rw (read_is c.args.lo c.ranges.lo, read_is c.args.hi c.ranges.hi) refl)
