use Rattle.std.proofs.Common.{◌≡◌, sym, ◌∙◌, ℤ, pos, ◌+ℤ◌, false, ◌&&◌, Bool, to_z, w64}
use Rattle.fill_base.proofs.Signed.{read, read_is, is_lt}
use Rattle.fill_state.specs.Filling.{is_filled}
use Rattle.fill_job.proofs.Marking.{next_within, first_within, next_fits, not_lt}
use Rattle.gds_join.proofs.NoneBetween.{first_fails, none_begins, none_ends, none_more, second_fails}
use Rattle.gds_join.proofs.meeting.row_meets.Goals.{else-has-via-then-has+else-has-2, else-has-via-else-has}
use Rattle.gds_join.proofs.meeting.row_meets.Goals as goal

pub loop-i-init : goal.loop-i-init
loop-i-init c =
    let at = first_within c.args.left c.args.right in
    rw (read_is c.args.left c.ranges.left, read_is c.args.right c.ranges.right) (record {
      from = at.0;
      to = at.1;
      none = none_begins (λ m. is_filled c.args.fill.now m (read c.args.j) && is_filled c.args.part.now m (read c.args.j)) c.args.left;
    })

pub loop-i-preserved : goal.loop-i-preserved
loop-i-preserved c =
    let i = c.loop-i.i in
    let p : ℤ → Bool = λ m. is_filled c.args.fill.now m (read c.args.j) && is_filled c.args.part.now m (read c.args.j) in
    let inv = rw (c.loop-i.i-is, read_is c.args.left c.ranges.left, read_is c.args.right c.ranges.right) at c.loop-i.invariant in
    let lt = is_lt i c.args.right (rw (c.loop-i.i-is, read_is c.args.right c.ranges.right) at c.loop-i-test.true) in
    let step = next_within c.args.left c.args.right i inv.from lt in
    let next : read (i +ℤ pos 1) ≡ i +ℤ pos 1 = read_is (i +ℤ pos 1) (next_fits c.args.left c.args.right i c.ranges.left c.ranges.right inv.from lt) in
    let found : p (to_z w64 c.loop-i.i-bits) ≡ false = elim c.else-has.branch [
      | else-has-via-then-has+else-has-2 w ↦ second_fails _ _ (sym w.has-then-has.ensures ∙ w.if-has-2.false)
      | else-has-via-else-has w ↦ first_fails _ _ (sym c.has.ensures ∙ w.if-has.false)
    ] in
    let here : p i ≡ false = rw c.loop-i.i-is at found in
    rw (c.loop-i.i-is, read_is c.args.left c.ranges.left, read_is c.args.right c.ranges.right, next) (record { from = step.0; to = step.1; none = none_more p c.args.left i inv.none here })

pub returns-clause-no : goal.returns-clause-no
returns-clause-no c = λ e.
    let inv = rw (c.loop-i.i-is, read_is c.args.left c.ranges.left, read_is c.args.right c.ranges.right, read_is c.args.j c.ranges.j) at c.loop-i.invariant in
    let past = not_lt c.loop-i.i c.args.right (rw (c.loop-i.i-is, read_is c.args.right c.ranges.right) at c.loop-i-test.false) in
    none_ends (λ m. is_filled c.args.fill.now m c.args.j && is_filled c.args.part.now m c.args.j) c.args.left c.args.right c.loop-i.i inv.from inv.to past inv.none

pub returns-then-has-2-clause-yes : goal.returns-then-has-2-clause-yes
returns-then-has-2-clause-yes c = λ e.
    (to_z w64 c.loop-i.i-bits, (rw (read_is c.args.j c.ranges.j) at (sym c.has.ensures ∙ c.if-has.true)), (rw (read_is c.args.j c.ranges.j) at (sym c.has-then-has.ensures ∙ c.if-has-2.true)))
