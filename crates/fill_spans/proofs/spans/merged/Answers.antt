use Rattle.std.proofs.Common.{◌⊎◌, ◌<◌, inl, inr, length}
use Rattle.fill_spans.proofs.SweepTurns.{Stands, stands, turn_keeps, turn_smaller}
use Rattle.fill_spans.proofs.Merging.{merged_canonical}
use Rattle.fill_spans.proofs.spans.merged.Goals as goal
use Rattle.fill_spans.proofs.spans.merged.Goals.{then-i-a, else-i-a+then-j-b}

more : (c : goal.In_ok-put_edge) → (c.sweep.i < length c.args.a.now) ⊎ (c.sweep.j < length c.args.b.now)
more c = elim c.if-i-a.branch [ then-i-a w ↦ inl w.if-i-a.true | else-i-a+then-j-b w ↦ inr w.if-j-b.true ]

here : (c : goal.In_ok-put_edge) → Stands c.args.a.now c.args.b.now c.sweep.i c.sweep.j c.edge_at-next_a.result c.edge_at-next_b.result c.min-at.result
here c = stands _ _ _ _ _ _ _ c.requires.first c.requires.second (more c) c.edge_at-next_a.ensures c.edge_at-next_b.ensures c.min-at.ensures.value

pub sweep-smaller : goal.sweep-smaller
sweep-smaller c = turn_smaller c.args.operation c.args.a.now c.args.b.now c.sweep.i c.sweep.j c.passed-i.result c.passed-j.result c.sweep.out.items c.edge_at-next_a.result c.edge_at-next_b.result c.min-at.result c.sweep.invariant (here c) c.passed-i.ensures c.passed-j.ensures

pub sweep-preserved : goal.sweep-preserved
sweep-preserved c = turn_keeps c.args.operation c.args.a.now c.args.b.now c.sweep.i c.sweep.j c.passed-i.result c.passed-j.result c.sweep.out.items c.put_edge.new.out.items c.edge_at-next_a.result c.edge_at-next_b.result c.min-at.result c.requires.first c.requires.second c.sweep.invariant (here c) c.passed-i.ensures c.passed-j.ensures (rw c.apply.ensures at c.in_ok-put_edge.ensures)

pub returns-clause-canonical : goal.returns-clause-canonical
returns-clause-canonical c = merged_canonical c.args.operation c.args.a.now c.args.b.now c.sweep.i c.sweep.j c.sweep.out.items c.requires.first c.requires.second c.sweep.invariant c.if-i-a.false c.if-j-b.false
