use Rattle.std.proofs.Common.{◌+ℤ◌, ◌∙◌, arith}
use Rattle.fill_base.proofs.Signed.{read, read_is}
use Rattle.fill_spans.proofs.ColumnEnds.{reads_within, ends}
use Rattle.fill_spans.proofs.ColumnWalks.{walks_begin}
use Rattle.fill_spans.proofs.ColumnSums.{none_added, Column, column_more}
use Rattle.fill_spans.proofs.Walking.{Counted, walk_counts}
use Rattle.fill_spans.proofs.walk.add_columns.Goals as goal

pub columns-init : goal.columns-init
columns-init c = (
  walks_begin c.args.edges.now _ _ _ c.begin-behind.result (rw (read_is c.args.width c.ranges.width) c.requires.width) c.begin-behind.ensures.starts c.begin-behind.ensures.counts c.begin-behind.ensures.reached,
  none_added _ _ _ _ _ _,
)

pub left_of-left-requires-clause-left : goal.left_of-left-requires-clause-left
left_of-left-requires-clause-left c =
    (reads_within _ _ _ _ c.columns.a c.ranges.first c.ranges.step c.ranges.width c.requires.first c.requires.step c.requires.width c.requires.last c.columns-test.true).left_high

pub overflow_add-right : goal.overflow_add-right
overflow_add-right c =
    let within = reads_within _ _ _ _ _ c.ranges.first c.ranges.step c.ranges.width c.requires.first c.requires.step c.requires.width c.requires.last c.columns-test.true in
    rw (ends _ _ _ _ _ within c.left_of-left.ensures).left_is within.right_fits

pub advanced-ahead-requires-clause-not_beyond : goal.advanced-ahead-requires-clause-not_beyond
advanced-ahead-requires-clause-not_beyond c =
    let within = reads_within _ _ _ _ _ c.ranges.first c.ranges.step c.ranges.width c.requires.first c.requires.step c.requires.width c.requires.last c.columns-test.true in
    rw (ends _ _ _ _ _ within c.left_of-left.ensures).right_is c.columns.invariant.0.ahead_right

counts_ahead : (c : goal.After-advanced-ahead) → Counted c.args.edges.now c.advanced-ahead.result (read c.args.first) (read (read c.left_of-left.result +ℤ read c.args.width))
counts_ahead c =
    let within = reads_within _ _ _ _ _ c.ranges.first c.ranges.step c.ranges.width c.requires.first c.requires.step c.requires.width c.requires.last c.columns-test.true in
    walk_counts c.args.edges.now _ _ _ (c.advanced-ahead.ensures.starts ∙ c.columns.invariant.0.both.ahead_starts) within.first_low
    (rw (ends _ _ _ _ _ within c.left_of-left.ensures).right_is within.high) c.advanced-ahead.ensures.counts c.advanced-ahead.ensures.reached

pub counted-requires-clause-least : goal.counted-requires-clause-least
counted-requires-clause-least c = (counts_ahead c).length.least

pub counted-requires-clause-most : goal.counted-requires-clause-most
counted-requires-clause-most c = (counts_ahead c).length.most

counts_behind : (c : goal.After-counted) → Counted c.args.edges.now c.advanced-behind.result (read c.args.first) (read c.left_of-left.result)
counts_behind c =
    let within = reads_within _ _ _ _ _ c.ranges.first c.ranges.step c.ranges.width c.requires.first c.requires.step c.requires.width c.requires.last c.columns-test.true in
    walk_counts c.args.edges.now _ _ _ (c.advanced-behind.ensures.starts ∙ c.columns.invariant.0.both.behind_starts) within.first_low
    (rw (ends _ _ _ _ _ within c.left_of-left.ensures).left_is within.left_high) c.advanced-behind.ensures.counts c.advanced-behind.ensures.reached

pub counted-requires-in-columns-clause-least : goal.counted-requires-in-columns-clause-least
counted-requires-in-columns-clause-least c = (counts_behind c).length.least

pub counted-requires-in-columns-clause-most : goal.counted-requires-in-columns-clause-most
counted-requires-in-columns-clause-most c = (counts_behind c).length.most

column_counted : (c : goal.After-counted-in-columns)
    → Column c.args.edges.now (read c.args.first) (read c.args.step) (read c.args.width) (read c.args.height) c.args.sums.now c.columns.sums c.columns.a
    c.advanced-behind.result c.advanced-ahead.result c.counted.result c.counted-in-columns.result
column_counted c =
    let within = reads_within _ _ _ _ _ c.ranges.first c.ranges.step c.ranges.width c.requires.first c.requires.step c.requires.width c.requires.last c.columns-test.true in
    column_more c.args.edges.now _ _ _ _ _ _ _ _ _ _ _ _ within c.left_of-left.ensures c.requires.sums c.columns.invariant.1 c.columns-test.true
    (rw (read_is c.args.height c.ranges.height) c.requires.least) (rw (read_is c.args.height c.ranges.height) c.requires.most)
    (record {
      both = record { behind_starts = c.advanced-behind.ensures.starts ∙ c.columns.invariant.0.both.behind_starts; ahead_starts = c.advanced-ahead.ensures.starts ∙ c.columns.invariant.0.both.ahead_starts; behind_counts = c.advanced-behind.ensures.counts; ahead_counts = c.advanced-ahead.ensures.counts };
      behind_left = c.advanced-behind.ensures.reached;
      ahead_right = c.advanced-ahead.ensures.reached;
    })
    c.counted.ensures c.counted-in-columns.ensures

pub overflow_sub-sums : goal.overflow_sub-sums
overflow_sub-sums c = (column_counted c).difference_fits

pub overflow_mul-sums : goal.overflow_mul-sums
overflow_mul-sums c = (column_counted c).addition.product_fits

column_added : (c : goal.After-sums-1)
    → Column c.args.edges.now (read c.args.first) (read c.args.step) (read c.args.width) (read c.args.height) c.args.sums.now c.columns.sums c.columns.a
    c.advanced-behind.result c.advanced-ahead.result c.counted.result c.counted-in-columns.result
column_added c =
    let within = reads_within _ _ _ _ _ c.ranges.first c.ranges.step c.ranges.width c.requires.first c.requires.step c.requires.width c.requires.last c.columns-test.true in
    column_more c.args.edges.now _ _ _ _ _ _ _ _ _ _ _ _ within c.left_of-left.ensures c.requires.sums c.columns.invariant.1 c.columns-test.true
    (rw (read_is c.args.height c.ranges.height) c.requires.least) (rw (read_is c.args.height c.ranges.height) c.requires.most)
    (record {
      both = record { behind_starts = c.advanced-behind.ensures.starts ∙ c.columns.invariant.0.both.behind_starts; ahead_starts = c.advanced-ahead.ensures.starts ∙ c.columns.invariant.0.both.ahead_starts; behind_counts = c.advanced-behind.ensures.counts; ahead_counts = c.advanced-ahead.ensures.counts };
      behind_left = c.advanced-behind.ensures.reached;
      ahead_right = c.advanced-ahead.ensures.reached;
    })
    c.counted.ensures c.counted-in-columns.ensures

pub overflow_add-sums : goal.overflow_add-sums
overflow_add-sums c = (column_added c).addition.sum_fits

pub columns-preserved : goal.columns-preserved
columns-preserved c = ((column_added c).walks, (column_added c).added)

pub returns-clause-added : goal.returns-clause-added
returns-clause-added c = λ a d lt.
    rw (read_is c.args.first c.ranges.first, read_is c.args.step c.ranges.step, read_is c.args.width c.ranges.width, read_is c.args.height c.ranges.height)
    at (c.columns.invariant.1.done a (omega arith) d lt)
