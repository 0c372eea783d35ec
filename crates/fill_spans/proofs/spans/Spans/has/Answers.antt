use Rattle.std.proofs.Common.{sym}
use Rattle.fill_base.proofs.Signed.{read_is}
use Rattle.fill_spans.proofs.Searching.{inside_first_above}
use Rattle.fill_spans.proofs.spans.Spans.has.Goals as goal

pub returns : goal.returns
returns c =
    let es = c.self.inside.edges.items in
    let place = rw (c.deref.ensures.value, read_is c.args.x c.ranges.x) at c.first_above.ensures in
    rw (← c.self.view_is) (sym (inside_first_above es c.args.x c.first_above.result c.self.invariant place))
