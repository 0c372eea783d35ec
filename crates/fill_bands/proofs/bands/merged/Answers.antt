use Rattle.std.proofs.Common.{◌&&◌, ◌==◌, inl, inr}
use Rattle.std.proofs.lemmas.Bool.{and_parts, eqb-true}
use Rattle.fill_bands.proofs.SweepTurns.{Stands, beside_all, stands, turn_keeps, turn_within, turn_smaller}
use Rattle.fill_bands.proofs.Sweeping.{merged_start, merged_region}
use Rattle.fill_bands.proofs.bands.merged.Goals as goal
use Rattle.fill_bands.proofs.bands.merged.Goals.{then-i-a, else-i-a+then-j-b}

pub put_turn-requires-clause-first : goal.put_turn-requires-clause-first
put_turn-requires-clause-first c =
    let there = stands _ _ _ _ _ _ _ c.requires.first c.requires.second (elim c.if-i-a.branch [ then-i-a w ↦ inl w.if-i-a.true | else-i-a+then-j-b w ↦ inr w.if-j-b.true ]) c.bottom_at-next_a.ensures c.bottom_at-next_b.ensures c.min-at.ensures.value in
    (turn_within c.args.operation c.args.a.now c.args.b.now c.sweep.i c.sweep.j c.passed-i.result c.passed-j.result c.sweep.out.items c.bottom_at-next_a.result c.bottom_at-next_b.result c.min-at.result c.sweep.invariant there c.passed-i.ensures c.passed-j.ensures).0

pub has_no_row-requires : goal.has_no_row-requires
has_no_row-requires c =
    let there = stands _ _ _ _ _ _ _ c.requires.first c.requires.second (elim c.if-i-a.branch [ then-i-a w ↦ inl w.if-i-a.true | else-i-a+then-j-b w ↦ inr w.if-j-b.true ]) c.bottom_at-next_a.ensures c.bottom_at-next_b.ensures c.min-at.ensures.value in
    (turn_within c.args.operation c.args.a.now c.args.b.now c.sweep.i c.sweep.j c.passed-i.result c.passed-j.result c.sweep.out.items c.bottom_at-next_a.result c.bottom_at-next_b.result c.min-at.result c.sweep.invariant there c.passed-i.ensures c.passed-j.ensures).1

pub put_turn-requires-clause-second : goal.put_turn-requires-clause-second
put_turn-requires-clause-second c =
    let there = stands _ _ _ _ _ _ _ c.requires.first c.requires.second (elim c.if-i-a.branch [ then-i-a w ↦ inl w.if-i-a.true | else-i-a+then-j-b w ↦ inr w.if-j-b.true ]) c.bottom_at-next_a.ensures c.bottom_at-next_b.ensures c.min-at.ensures.value in
    (turn_within c.args.operation c.args.a.now c.args.b.now c.sweep.i c.sweep.j c.passed-i.result c.passed-j.result c.sweep.out.items c.bottom_at-next_a.result c.bottom_at-next_b.result c.min-at.result c.sweep.invariant there c.passed-i.ensures c.passed-j.ensures).1

pub put_turn-requires-clause-beside : goal.put_turn-requires-clause-beside
put_turn-requires-clause-beside c = λ h.
    let there = stands _ _ _ _ _ _ _ c.requires.first c.requires.second (elim c.if-i-a.branch [ then-i-a w ↦ inl w.if-i-a.true | else-i-a+then-j-b w ↦ inr w.if-j-b.true ]) c.bottom_at-next_a.ensures c.bottom_at-next_b.ensures c.min-at.ensures.value in
    let two = and_parts ((c.passed-j.result == c.sweep.j) && c.keeps_first.result) c.has_no_row.result h in
    let one = and_parts (c.passed-j.result == c.sweep.j) c.keeps_first.result two.0 in
    beside_all c.args.operation c.args.a.now c.args.b.now c.sweep.i c.sweep.j c.passed-i.result c.passed-j.result c.sweep.out.items c.bottom_at-next_a.result c.bottom_at-next_b.result c.min-at.result c.requires.first c.sweep.invariant there c.passed-i.ensures c.passed-j.ensures
    (eqb-true c.passed-j.result c.sweep.j one.0) (c.has_no_row.ensures.0 two.1) (c.keeps_first.ensures one.1)

here : (c : goal.In_ok-put_turn) → Stands c.args.a.now c.args.b.now c.sweep.i c.sweep.j c.bottom_at-next_a.result c.bottom_at-next_b.result c.min-at.result
here c = stands _ _ _ _ _ _ _ c.requires.first c.requires.second (elim c.if-i-a.branch [ then-i-a w ↦ inl w.if-i-a.true | else-i-a+then-j-b w ↦ inr w.if-j-b.true ]) c.bottom_at-next_a.ensures c.bottom_at-next_b.ensures c.min-at.ensures.value

pub sweep-smaller : goal.sweep-smaller
sweep-smaller c = turn_smaller c.args.operation c.args.a.now c.args.b.now c.sweep.i c.sweep.j c.passed-i.result c.passed-j.result c.sweep.out.items c.bottom_at-next_a.result c.bottom_at-next_b.result c.min-at.result c.sweep.invariant (here c) c.passed-i.ensures c.passed-j.ensures

pub sweep-preserved : goal.sweep-preserved
sweep-preserved c = turn_keeps c.args.operation c.args.a.now c.args.b.now c.sweep.i c.sweep.j c.passed-i.result c.passed-j.result c.sweep.out.items c.put_turn.new.out.items c.bottom_at-next_a.result c.bottom_at-next_b.result c.min-at.result c.in_ok-put_turn.ensures.row c.requires.first c.requires.second c.sweep.invariant (here c) c.passed-i.ensures c.passed-j.ensures c.in_ok-put_turn.ensures.made c.in_ok-put_turn.ensures.put

pub sweep-init : goal.sweep-init
sweep-init c = rw c.in_ok-out.ensures.items (merged_start c.args.operation c.args.a.now c.args.b.now c.requires.first c.requires.second)

pub returns-clause-region : goal.returns-clause-region
returns-clause-region c = rw c.shrink_to_fit.ensures.items (merged_region c.args.operation c.args.a.now c.args.b.now c.sweep.i c.sweep.j c.sweep.out.items c.requires.first c.requires.second c.sweep.invariant c.if-i-a.false c.if-j-b.false)
