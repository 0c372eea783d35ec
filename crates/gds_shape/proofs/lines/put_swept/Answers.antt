use Rattle.std.proofs.Common.{◌≡◌, ℤ, ◌<ℤ◌, ◌≤ℤ◌, arith, to_z, w64, map, true, false}
use Rattle.std.proofs.lemmas.Int.{ints}
use Rattle.fill_base.specs.Coordinates.{lowest, highest}
use Rattle.fill_base.proofs.Signed.{read, read_is, is_lt, not_lt}
use Rattle.gds_shape.specs.Moves.{moved}
use Rattle.gds_shape.specs.steps.Edges.{going}
use Rattle.gds_shape.specs.steps.Lines.{IsNextLine}
use Rattle.gds_shape.proofs.Sweep.{AtLine, swept_start, taken_in, balanced, swept_turn, swept_end, smaller, turn_read}
use Rattle.gds_shape.proofs.lines.put_swept.Goals as goal

pub sweep-init : goal.sweep-init
sweep-init c = rw (c.new-crossing.ensures.items, c.as_slice-later.ensures.value)
    (swept_start (map (moved c.args.by) c.args.points.now) c.in_ok-sorted.sorted.items c.args.out.now.items c.in_ok-sorted.ensures.rising c.in_ok-sorted.ensures.same)

below : (c : goal.After-deref-in-sweep) → IsNextLine c.split_at.result.1.now c.cross.new.crossing.items c.next_line-next.result
below c = rw c.deref.ensures.value at c.next_line-next.ensures

at_line : (c : goal.After-deref-in-sweep) → AtLine (map (moved c.args.by) c.args.points.now) c.split_at.result.1.now c.cross.new.crossing.items (to_z w64 c.sweep.line-bits) c.next_line-next.result
at_line c = taken_in (map (moved c.args.by) c.args.points.now) c.sweep.later.now c.split_at.result.0.now c.split_at.result.1.now c.sweep.crossing.items c.cross.new.crossing.items
    c.args.out.now.items c.sweep.out.items (to_z w64 c.sweep.line-bits) c.next_line-next.result c.begun_at.result c.sweep.invariant (is_lt _ _ c.sweep-test.true) c.begun_at.ensures.within c.begun_at.ensures.parted
    c.split_at.ensures.front c.split_at.ensures.back c.in_ok-cross.ensures (below c)

balance : (c : goal.After-deref-in-sweep) → going true c.cross.new.crossing.items ≡ going false c.cross.new.crossing.items
balance c = balanced (map (moved c.args.by) c.args.points.now) c.split_at.result.1.now c.cross.new.crossing.items (to_z w64 c.sweep.line-bits) c.next_line-next.result
    c.requires.manhattan c.requires.closed c.requires.within (at_line c)

-- the next line is read as it is
next_is : (c : goal.After-deref-in-sweep) → read c.next_line-next.result ≡ c.next_line-next.result
next_is c = fits (to_z w64 c.sweep.line-bits) c.next_line-next.result c.sweep.invariant.low (at_line c).far (below c).high
  where
    fits : (a b : ℤ) → lowest ≤ℤ a → a <ℤ b → b ≤ℤ highest → read b ≡ b
    fits a b h k l = read_is b (omega (arith, ints))

pub put_strip-requires-clause-closed : goal.put_strip-requires-clause-closed
put_strip-requires-clause-closed c = rw c.deref-in-sweep.ensures.value (balance c)

pub put_strip-requires-clause-tall : goal.put_strip-requires-clause-tall
put_strip-requires-clause-tall c = rw (next_is c) (at_line c).far

pub sweep-smaller : goal.sweep-smaller
sweep-smaller c =
    let turn = c.before.before.before in
    smaller (to_z w64 c.sweep.line-bits) c.next_line-next.result (at_line turn).far (below turn).high c.sweep.invariant.low

pub sweep-preserved : goal.sweep-preserved
sweep-preserved c =
    let turn = c.before.before.before in
    turn_read (map (moved c.args.by) c.args.points.now) c.split_at.result.1.now c.cross.new.crossing.items c.args.out.now.items c.put_strip.new.out.items c.next_line-next.result
    (swept_turn (map (moved c.args.by) c.args.points.now) c.sweep.later.now c.split_at.result.1.now c.sweep.crossing.items c.cross.new.crossing.items c.args.out.now.items c.sweep.out.items
    c.put_strip.new.out.items (to_z w64 c.sweep.line-bits) c.next_line-next.result c.sweep.invariant (at_line turn) (below turn) (balance turn)
    (λ x y. rw (next_is turn, c.deref-in-sweep.ensures.value) at (c.in_ok-put_strip.ensures x y)))

pub returns : goal.returns
returns c = swept_end (map (moved c.args.by) c.args.points.now) c.sweep.later.now c.sweep.crossing.items c.args.out.now.items c.sweep.out.items (to_z w64 c.sweep.line-bits) c.sweep.invariant (not_lt _ _ c.sweep-test.false)
