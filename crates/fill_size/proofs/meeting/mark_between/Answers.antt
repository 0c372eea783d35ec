use Rattle.std.proofs.Common.{pos, false, arith, rules, ◌<◌, length, ◌-ℤ◌}
use Rattle.std.specs.Prelude.{int_le, int_lt}
use Rattle.std.proofs.lemmas.Int.{to_z-of_z}
use Rattle.std.proofs.lemmas.List.Sorted.{IsPartitionPoint-from_clause}
use Rattle.fill_base.proofs.Signed.{read, read_is}
use Rattle.fill_size.proofs.Marking.{near_fits, near_read, width_is, range_read, firsts, lasts, none_marked, marked_on, all_marked}
use Rattle.fill_size.proofs.meeting.mark_between.Goals as goal

pub overflow_sub-near : goal.overflow_sub-near
overflow_sub-near c = near_fits c.args.left c.args.width c.requires.left (width_is c.args.ranges.now c.args.width c.requires.rising c.requires.widest)

pub loop-a-init : goal.loop-a-init
loop-a-init c = none_marked _ c.args.ranges.now c.args.marks.now c.partition_point-first.result

pub loop-a-preserved : goal.loop-a-preserved
loop-a-preserved c =
    let lt : c.loop-a.a < length c.args.ranges.now = omega (arith, c.loop-a-test.true, c.partition_point-end.ensures.bound) in
    let is = range_read c.args.ranges.now c.loop-a.a (pos 0, pos 0) c.requires.rising lt in
    marked_on _ c.args.ranges.now c.args.marks.now c.loop-a.marks c.partition_point-first.result c.loop-a.a c.have_common.result (pos 0, pos 0) false c.requires.count c.loop-a.auto.a lt
    (rw (is.0, is.1) at c.have_common.ensures) c.loop-a.invariant

pub returns-clause-marked : goal.returns-clause-marked
returns-clause-marked c = all_marked c.args.ranges.now c.args.marks.now c.loop-a.marks c.args.width c.args.left c.args.right c.partition_point-first.result c.partition_point-end.result c.loop-a.a c.requires.widest
    (rw (near_read c.args.left c.args.width c.requires.left (width_is c.args.ranges.now c.args.width c.requires.rising c.requires.widest))
    at (IsPartitionPoint-from_clause (λ r. int_le r.0 (read (read c.args.left -ℤ read c.args.width))) _ _ c.partition_point-first.ensures.partitioned (firsts c.args.ranges.now _ c.requires.rising) (λ a r q k. search (rules, to_z-of_z))))
    (IsPartitionPoint-from_clause (λ r. int_lt r.0 c.args.right) _ _ c.partition_point-end.ensures.partitioned (lasts c.args.ranges.now c.args.right c.requires.rising) (λ a r q k. search (rules, to_z-of_z)))
    c.loop-a-test.false (rw (read_is c.args.left c.ranges.left, read_is c.args.right c.ranges.right) at c.loop-a.invariant)
