use Rattle.fill_spans.proofs.OpenInterval.{Joins}
use Rattle.fill_spans.proofs.joining.joined.Given as goal

abbrev pub invariant-loop-rect : goal.invariant-loop-rect
invariant-loop-rect l = Joins l.rects l.rect-index l.edges.items l.end
