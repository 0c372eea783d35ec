use Rattle.std.proofs.Common.{arith, pos, get_or}
use Rattle.std.proofs.lemmas.List.Elements.{Contains-get_or}
use Rattle.fill_measure.proofs.Ends.{cuts_held}
use Rattle.fill_measure.proofs.cuts.cuts_of.Goals as goal

pub returns : goal.returns
returns c =
    let cuts = c.in_ok-cuts.cuts.items in
    let are = c.in_ok-cuts.ensures.cuts in
    let some = are.some in
    let held = cuts_held c.args.parts (get_or cuts 0 (pos 0)) (get_or cuts 1 (pos 0)) cuts c.in_ok-numbers.numbers.items c.cuts_at.result.items
    (Contains-get_or cuts 0 (pos 0) (omega (arith, some))) (Contains-get_or cuts 1 (pos 0) (omega (arith, some))) (are.rising 0 1 (pos 0) (omega arith) (omega (arith, some)))
    c.in_ok-cuts.ensures.ends (rw c.deref-2.ensures.value at c.in_ok-numbers.ensures.kept) c.cuts_at.ensures.cuts c.cuts_at.ensures.same in
    record { cuts = held.0; ends = held.1 }
