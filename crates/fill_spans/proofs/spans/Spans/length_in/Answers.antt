use Rattle.std.proofs.Common.{rules, FitsSigned, w64}
use Rattle.fill_spans.proofs.Searching.{length_then, length_else}
use Rattle.fill_spans.proofs.spans.Spans.length_in.Goals as goal

pub returns-then-from-to : goal.returns-then-from-to
returns-then-from-to c =
    let fits : FitsSigned w64 c.length_between.result = search rules in
    rw (← c.self.view_is) (length_then c.self.inside.edges.items c.args.lo c.args.hi c.max-from.result c.min-to.result c.length_between.result c.self.invariant c.ranges.lo c.ranges.hi
    c.max-from.ensures.value c.min-to.ensures.value c.if-from-to.true fits (rw c.deref.ensures.value at c.length_between.ensures))

pub returns-else-from-to : goal.returns-else-from-to
returns-else-from-to c =
    rw (← c.self.view_is) (length_else c.self.inside.edges.items c.args.lo c.args.hi c.max-from.result c.min-to.result c.self.invariant c.ranges.lo c.ranges.hi
    c.max-from.ensures.value c.min-to.ensures.value c.if-from-to.false)
