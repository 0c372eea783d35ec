use Rattle.std.proofs.Common.{◌≡◌, refl, ◌∙◌, pos, ◌+ℤ◌}
use Rattle.std.proofs.lemmas.Bool.{and_from}
use Rattle.fill_base.proofs.Between.{is_between_true}
use Rattle.fill_base.proofs.Signed.{read, read_is, is_lt}
use Rattle.fill_raster.specs.Marks.{is_marked}
use Rattle.fill_job.specs.Basis.{layers_by, plan_by, windows_in}
use Rattle.fill_job.specs.Plans.{is_suitable}
use Rattle.fill_job.proofs.Marking.{rows_begin, row_more, rows_end, next_within, first_within, next_fits, not_lt}
use Rattle.fill_job.proofs.basis.Basis.mark_rows.Goals as goal

pub loop-j-init : goal.loop-j-init
loop-j-init c =
    let s = is_suitable (plan_by c.args.self.now) (layers_by c.args.self.now) (windows_in c.args.self.now.low) in
    let at = first_within c.args.bottom c.args.top in
    rw (read_is c.args.bottom c.ranges.bottom, read_is c.args.top c.ranges.top) (record {
      from = at.0;
      to = at.1;
      block = refl;
      marked = λ k m. rows_begin (is_marked c.args.marks.now) s (read c.args.left) (read c.args.right) c.args.bottom k m (c.requires.none k m);
    })

pub mark_taken-requires-clause-places : goal.mark_taken-requires-clause-places
mark_taken-requires-clause-places c =
    let from = rw (c.loop-j.j-is, read_is c.args.bottom c.ranges.bottom) at c.loop-j.invariant.from in
    let lt = is_lt c.loop-j.j c.args.top (rw (c.loop-j.j-is, read_is c.args.top c.ranges.top) at c.loop-j-test.true) in
    rw (c.loop-j.j-is, read_is c.args.left c.ranges.left, read_is c.args.right c.ranges.right)
    (λ i inside. c.requires.places i c.loop-j.j (and_from _ _ inside (is_between_true c.args.bottom c.args.top c.loop-j.j from lt)))

pub mark_row-requires-clause-places : goal.mark_row-requires-clause-places
mark_row-requires-clause-places c =
    let from = rw (c.loop-j.j-is, read_is c.args.bottom c.ranges.bottom) at c.loop-j.invariant.from in
    let lt = is_lt c.loop-j.j c.args.top (rw (c.loop-j.j-is, read_is c.args.top c.ranges.top) at c.loop-j-test.true) in
    rw (c.loop-j.j-is, read_is c.args.left c.ranges.left, read_is c.args.right c.ranges.right)
    (λ i inside. c.requires.places i c.loop-j.j (and_from _ _ inside (is_between_true c.args.bottom c.args.top c.loop-j.j from lt)))

pub mark_row-requires-clause-block : goal.mark_row-requires-clause-block
mark_row-requires-clause-block c =
    let from = rw (c.loop-j.j-is, read_is c.args.bottom c.ranges.bottom) at c.loop-j.invariant.from in
    let lt = is_lt c.loop-j.j c.args.top (rw (c.loop-j.j-is, read_is c.args.top c.ranges.top) at c.loop-j-test.true) in
    rw (c.loop-j.j-is, read_is c.args.left c.ranges.left, read_is c.args.right c.ranges.right, c.loop-j.invariant.block)
    (λ i inside. c.requires.block i c.loop-j.j (and_from _ _ inside (is_between_true c.args.bottom c.args.top c.loop-j.j from lt)))

pub loop-j-preserved : goal.loop-j-preserved
loop-j-preserved c =
    let s = is_suitable (plan_by c.args.self.now) (layers_by c.args.self.now) (windows_in c.args.self.now.low) in
    let j = c.loop-j.j in
    let inv = rw (c.loop-j.j-is, read_is c.args.bottom c.ranges.bottom, read_is c.args.top c.ranges.top) at c.loop-j.invariant in
    let lt = is_lt j c.args.top (rw (c.loop-j.j-is, read_is c.args.top c.ranges.top) at c.loop-j-test.true) in
    let step = next_within c.args.bottom c.args.top j inv.from lt in
    let next : read (j +ℤ pos 1) ≡ j +ℤ pos 1 = read_is (j +ℤ pos 1) (next_fits c.args.bottom c.args.top j c.ranges.bottom c.ranges.top inv.from lt) in
    rw (c.loop-j.j-is, read_is c.args.bottom c.ranges.bottom, read_is c.args.top c.ranges.top, next) (record {
      from = step.0;
      to = step.1;
      block = c.mark_row.ensures.block ∙ inv.block;
      marked = row_more (is_marked c.loop-j.marks) (is_marked c.mark_row.new.marks) s (read c.args.left) (read c.args.right) c.args.bottom j inv.from inv.marked (rw c.loop-j.j-is at c.mark_row.ensures.marked);
    })

pub returns : goal.returns
returns c =
    let s = is_suitable (plan_by c.args.self.now) (layers_by c.args.self.now) (windows_in c.args.self.now.low) in
    let inv = rw (c.loop-j.j-is, read_is c.args.left c.ranges.left, read_is c.args.right c.ranges.right, read_is c.args.bottom c.ranges.bottom, read_is c.args.top c.ranges.top) at c.loop-j.invariant in
    let past = not_lt c.loop-j.j c.args.top (rw (c.loop-j.j-is, read_is c.args.top c.ranges.top) at c.loop-j-test.false) in
    rows_end (is_marked c.loop-j.marks) s c.args.left c.args.right c.args.bottom c.args.top c.loop-j.j inv.from inv.to past inv.marked
