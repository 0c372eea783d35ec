use Rattle.std.proofs.Common.{◌≡◌, refl, ap, sym, ◌∙◌, pos, ◌+ℤ◌, false, length}
use Rattle.fill_base.proofs.Between.{is_between_true}
use Rattle.fill_base.proofs.Signed.{read, read_is, is_lt}
use Rattle.fill_raster.specs.Marks.{is_marked}
use Rattle.fill_job.specs.Basis.{layers_by, plan_by, windows_in}
use Rattle.fill_job.specs.Plans.{is_suitable, is_taken}
use Rattle.fill_job.proofs.Reaching.{no_index, index_within, index_place, index_fits, next_index}
use Rattle.fill_job.proofs.Marking.{row_begins, column_marked, column_passed, row_ends, next_within, first_within, next_fits, not_lt}
use Rattle.fill_job.proofs.basis.Basis.mark_row.Goals as goal
use Rattle.fill_job.proofs.basis.Basis.mark_row.Goals.{then-is_suitable, else-is_suitable}

pub loop-i-init : goal.loop-i-init
loop-i-init c =
    let s = is_suitable (plan_by c.args.self.now) (layers_by c.args.self.now) (windows_in c.args.self.now.low) in
    let at = first_within c.args.left c.args.right in
    rw (read_is c.args.left c.ranges.left, read_is c.args.right c.ranges.right) (record {
      from = at.0;
      to = at.1;
      index = no_index c.args.left;
      block = refl;
      marked = λ k m. row_begins (is_marked c.args.marks.now) s c.args.left (read c.args.j) k m;
    })

pub bounds-taken-index : goal.bounds-taken-index
bounds-taken-index c =
    let lt = is_lt c.loop-i.i c.args.right (rw (c.loop-i.i-is, read_is c.args.right c.ranges.right) at c.loop-i-test.true) in
    let index = rw (c.loop-i.i-is, read_is c.args.left c.ranges.left) at c.loop-i.invariant.index in
    index_within c.args.left c.args.right c.loop-i.i c.loop-i.index (length c.args.taken.now) index lt c.requires.count

pub is_suitable-requires-clause-raster : goal.is_suitable-requires-clause-raster
is_suitable-requires-clause-raster c =
    let from = rw (c.loop-i.i-is, read_is c.args.left c.ranges.left) at c.loop-i.invariant.from in
    let lt = is_lt c.loop-i.i c.args.right (rw (c.loop-i.i-is, read_is c.args.right c.ranges.right) at c.loop-i-test.true) in
    rw (c.loop-i.i-is, read_is c.args.j c.ranges.j) (c.requires.places c.loop-i.i (is_between_true c.args.left c.args.right c.loop-i.i from lt))

pub is_suitable-requires-clause-taken : goal.is_suitable-requires-clause-taken
is_suitable-requires-clause-taken c =
    let p = plan_by c.args.self.now in
    let lt = is_lt c.loop-i.i c.args.right (rw (c.loop-i.i-is, read_is c.args.right c.ranges.right) at c.loop-i-test.true) in
    let index = rw (c.loop-i.i-is, read_is c.args.left c.ranges.left) at c.loop-i.invariant.index in
    let within = index_within c.args.left c.args.right c.loop-i.i c.loop-i.index (length c.args.taken.now) index lt c.requires.count in
    rw (c.loop-i.i-is, read_is c.args.j c.ranges.j)
    (c.requires.taken c.loop-i.index false within ∙ ap (λ x. is_taken p (layers_by c.args.self.now) x c.args.j) (index_place c.args.left c.loop-i.i c.loop-i.index index))

pub overflow_add-index : goal.overflow_add-index
overflow_add-index c =
    let lt = is_lt c.loop-i.i c.args.right (rw (c.loop-i.i-is, read_is c.args.right c.ranges.right) at c.loop-i-test.true) in
    let index = rw (c.loop-i.i-is, read_is c.args.left c.ranges.left) at c.loop-i.invariant.index in
    index_fits c.args.left c.args.right c.loop-i.i c.loop-i.index c.ranges.left c.ranges.right index lt

pub set-requires : goal.set-requires
set-requires c =
    let from = rw (c.loop-i.i-is, read_is c.args.left c.ranges.left) at c.loop-i.invariant.from in
    let lt = is_lt c.loop-i.i c.args.right (rw (c.loop-i.i-is, read_is c.args.right c.ranges.right) at c.loop-i-test.true) in
    rw (c.loop-i.i-is, read_is c.args.j c.ranges.j, c.loop-i.invariant.block) (c.requires.block c.loop-i.i (is_between_true c.args.left c.args.right c.loop-i.i from lt))

pub loop-i-preserved : goal.loop-i-preserved
loop-i-preserved c =
    let s = is_suitable (plan_by c.args.self.now) (layers_by c.args.self.now) (windows_in c.args.self.now.low) in
    let o = is_marked c.args.marks.now in
    let b = is_marked c.loop-i.marks in
    let i = c.loop-i.i in let j = read c.args.j in
    let inv = rw (c.loop-i.i-is, read_is c.args.left c.ranges.left, read_is c.args.right c.ranges.right) at c.loop-i.invariant in
    let lt = is_lt i c.args.right (rw (c.loop-i.i-is, read_is c.args.right c.ranges.right) at c.loop-i-test.true) in
    let step = next_within c.args.left c.args.right i inv.from lt in
    let next : read (i +ℤ pos 1) ≡ i +ℤ pos 1 = read_is (i +ℤ pos 1) (next_fits c.args.left c.args.right i c.ranges.left c.ranges.right inv.from lt) in
    let suits : c.is_suitable.result ≡ s i j = rw c.loop-i.i-is at c.is_suitable.ensures in
    rw (c.loop-i.i-is, read_is c.args.left c.ranges.left, read_is c.args.right c.ranges.right, next) (record {
      from = step.0;
      to = step.1;
      index = next_index c.args.left i c.loop-i.index (rw (c.loop-i.i-is, read_is c.args.left c.ranges.left) at c.loop-i.invariant.index);
      block = elim c.if-is_suitable.branch [
        | then-is_suitable w ↦ ap (λ m. m.block) w.marks-is ∙ (w.set.ensures.block ∙ inv.block)
        | else-is_suitable w ↦ ap (λ m. m.block) w.marks-is ∙ inv.block
      ];
      marked = λ k m. elim c.if-is_suitable.branch [
        | then-is_suitable w ↦ ap (λ q. is_marked q k m) w.marks-is ∙ column_marked o b (is_marked w.set.new.self) s c.args.left i j inv.from (sym suits ∙ w.if-is_suitable.true) inv.marked (rw c.loop-i.i-is at w.set.ensures.marked) k m
        | else-is_suitable w ↦ ap (λ q. is_marked q k m) w.marks-is ∙ column_passed o b s c.args.left i j inv.from (sym suits ∙ w.if-is_suitable.false) inv.marked k m
      ];
    })

pub returns : goal.returns
returns c =
    let s = is_suitable (plan_by c.args.self.now) (layers_by c.args.self.now) (windows_in c.args.self.now.low) in
    let inv = rw (c.loop-i.i-is, read_is c.args.left c.ranges.left, read_is c.args.right c.ranges.right, read_is c.args.j c.ranges.j) at c.loop-i.invariant in
    let past = not_lt c.loop-i.i c.args.right (rw (c.loop-i.i-is, read_is c.args.right c.ranges.right) at c.loop-i-test.false) in
    record { block = inv.block; marked = row_ends (is_marked c.args.marks.now) (is_marked c.loop-i.marks) s c.args.left c.args.right c.loop-i.i c.args.j inv.from inv.to past inv.marked }
