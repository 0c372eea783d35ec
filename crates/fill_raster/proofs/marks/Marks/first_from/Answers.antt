use Rattle.std.proofs.Common.{◌≡◌, ◌∙◌, sym, pos, ◌+ℤ◌, rules}
use Rattle.std.specs.Prelude.{not}
use Rattle.fill_base.proofs.Signed.{read, read_is, is_lt, not_lt}
use Rattle.fill_raster.specs.Marks.{is_marked}
use Rattle.fill_raster.proofs.Marking.{block_read}
use Rattle.fill_raster.proofs.Searching.{same_if, other_if, on_the_right, before_edge, before_it, step_fits, one_on, here, none_between, one_passed}
use Rattle.fill_raster.proofs.marks.Marks.first_from.Goals as goal

pub loop-i-init : goal.loop-i-init
loop-i-init c =
    rw (read_is c.args.place.i (search rules)) (record {
      from = here c.args.place.i;
      before = none_between (λ k. is_marked c.args.self.now k c.args.place.j) c.args.marked c.args.place.i;
    })

pub returns-then-has-marked-clause-found : goal.returns-then-has-marked-clause-found
returns-then-has-marked-clause-found c =
    let edge = (block_read c.self.inside.block c.self.invariant.block).right_is in
    let lt = is_lt c.loop-i.i c.self.inside.block.right (rw (c.loop-i.i-is, edge) at c.loop-i-test.true) in
    let from = rw c.loop-i.i-is at c.loop-i.invariant.from in
    rw c.loop-i.i-is (from, rw (← c.self.view_is) (on_the_right c.self.inside.block c.args.place.i c.loop-i.i c.args.place.j (rw (← c.self.view_is) at c.requires) from lt), rw (c.loop-i.i-is, read_is c.args.place.j (search rules)) at (sym c.has.ensures ∙ same_if _ _ c.if-has-marked.true))

pub returns-then-has-marked-clause-before : goal.returns-then-has-marked-clause-before
returns-then-has-marked-clause-before c = c.loop-i.invariant.before

pub loop-i-preserved : goal.loop-i-preserved
loop-i-preserved c =
    let edge = (block_read c.self.inside.block c.self.invariant.block).right_is in
    let lt = is_lt c.loop-i.i c.self.inside.block.right (rw (c.loop-i.i-is, edge) at c.loop-i-test.true) in
    let from = rw c.loop-i.i-is at c.loop-i.invariant.from in
    let before = rw c.loop-i.i-is at c.loop-i.invariant.before in
    let this : is_marked c.args.self.now c.loop-i.i c.args.place.j ≡ not c.args.marked = rw (c.loop-i.i-is, read_is c.args.place.j (search rules)) at (sym c.has.ensures ∙ other_if _ _ c.if-has-marked.false) in
    let next : read (c.loop-i.i +ℤ pos 1) ≡ c.loop-i.i +ℤ pos 1 = read_is _ (step_fits c.loop-i.i c.self.inside.block.right (search rules) lt c.self.invariant.block.most_column) in
    rw (c.loop-i.i-is, next) (record {
      from = one_on _ _ from;
      before = one_passed (λ k. is_marked c.args.self.now k c.args.place.j) c.args.marked c.args.place.i c.loop-i.i before this;
    })

pub returns-clause-none : goal.returns-clause-none
returns-clause-none c =
    let edge = (block_read c.self.inside.block c.self.invariant.block).right_is in
    let past = not_lt c.loop-i.i c.self.inside.block.right (rw (c.loop-i.i-is, edge) at c.loop-i-test.false) in
    let before = rw c.loop-i.i-is at c.loop-i.invariant.before in
    λ k from inside. before k from (before_it k c.self.inside.block.right c.loop-i.i (before_edge c.self.inside.block k c.args.place.j (rw (← c.self.view_is) at inside)) past)
