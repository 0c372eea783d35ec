use Rattle.std.proofs.Common.{refl}
use Rattle.fill_base.proofs.Signed.{read_is}
use Rattle.fill_spans.proofs.Searching.{some_member, gap_member}
use Rattle.fill_spans.proofs.spans.meets_between.Goals as goal

pub returns-in-Some : goal.returns-in-Some
returns-in-Some c =
    let place = rw (read_is c.args.lo c.ranges.lo) at c.first_above-k.ensures in
    let edge = rw (read_is c.args.hi c.ranges.hi) at c.in-Some.ensures.some in
    ((λ yes. some_member c.args.edges.now c.args.lo c.args.hi c.first_above-k.result _ c.requires.canonical c.requires.ordered place edge), (λ m. refl))

pub returns-in-None : goal.returns-in-None
returns-in-None c =
    let place = rw (read_is c.args.lo c.ranges.lo) at c.first_above-k.ensures in
    let none = rw (read_is c.args.hi c.ranges.hi) at c.in-None.ensures.none in
    gap_member c.args.edges.now c.args.lo c.args.hi c.first_above-k.result c.requires.canonical c.requires.ordered place none
