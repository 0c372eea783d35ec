use Rattle.std.proofs.Common.{arith}
use Rattle.fill_measure.proofs.Ends.{apart_read, cuts_held}
use Rattle.fill_measure.proofs.cuts.end_cuts.Goals as goal

pub returns-then-begin-end : goal.returns-then-begin-end
returns-then-begin-end c =
    let ends = c.in_ok-ends.ensures.ends in let one = c.requires.axis.count_is.least in
    let held = cuts_held c.args.parts _ _ c.in_ok-ends.ends.items c.in_ok-ends.ends.items c.cuts_at.result.items (ends.begins 0 (omega (arith, one))) (ends.ends 0 (omega (arith, one)))
    (apart_read c.args.parts 0 c.extent-begin.result.0 c.extent-begin.result.1 c.extent-begin.ensures c.if-begin-end.true) ends (λ z has. has) c.cuts_at.ensures.cuts c.cuts_at.ensures.same in
    record { cuts = held.0; ends = held.1 }

pub returns : goal.returns
returns c =
    let more = c.in_ok-ends-2.ensures in
    let held = cuts_held c.args.parts c.args.parts.low c.args.parts.high c.in_ok-ends-2.ends.items c.in_ok-ends-2.ends.items c.cuts_at-2.result.items more.low more.high c.requires.some
    (record { begins = λ a lt. more.kept _ (c.in_ok-ends.ensures.ends.begins a lt); ends = λ a lt. more.kept _ (c.in_ok-ends.ensures.ends.ends a lt) }) (λ z has. has) c.cuts_at-2.ensures.cuts c.cuts_at-2.ensures.same in
    record { cuts = held.0; ends = held.1 }
