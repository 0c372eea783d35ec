use Rattle.std.proofs.Common.{refl}
use Rattle.fill_spans.proofs.Walking.{begins_right, even_is}
use Rattle.fill_spans.proofs.walk.begin.Goals as goal

pub returns-then-next-eq1-clause-counts : goal.returns-then-next-eq1-clause-counts
returns-then-next-eq1-clause-counts c = begins_right c.args.edges.now _ _ _ c.requires c.first_above-next.ensures (rw c.if-next-eq1.true refl)

pub returns-else-next-eq1-clause-counts : goal.returns-else-next-eq1-clause-counts
returns-else-next-eq1-clause-counts c = begins_right c.args.edges.now _ _ _ c.requires c.first_above-next.ensures (rw (even_is c.first_above-next.result c.if-next-eq1.false) refl)
