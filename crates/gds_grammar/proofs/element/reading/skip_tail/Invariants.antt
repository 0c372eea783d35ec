use Rattle.std.proofs.Common.{ℕ, List, length}
use Rattle.gds_grammar.specs.Values.{Shape, Contents}
use Rattle.gds_grammar.specs.Machine.{Tail}
use Rattle.gds_grammar.specs.steps.Reading.{Reaches}
use Rattle.gds_grammar.proofs.element.reading.skip_tail.Given as goal

abbrev pub invariant-tail : goal.invariant-tail
invariant-tail l = (x : Contents) (n : List ℕ) (sh : List Shape) → Reaches l.bytes (Tail x n sh) l.rest (Tail x n sh)

abbrev pub decreases-tail : goal.decreases-tail
decreases-tail l = length l.rest
