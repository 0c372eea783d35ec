use Rattle.fill_region.proofs.Stacking.{meet_permuted, all_stacked}
use Rattle.fill_region.proofs.stacks.stacked.Goals as goal

pub returns : goal.returns
returns c = λ p at m.
    let low = c.in_ok-from_lower.ensures.same in
    let high = c.in_ok-from_upper.ensures.same in
    let sorted = meet_permuted p at c.args.lower.items c.in_ok-from_lower.from_lower.items c.args.upper.items c.in_ok-from_upper.from_upper.items low high m in
    let gone = (rw (c.deref.ensures.value, c.deref-2.ensures.value) at c.in_ok-runs.ensures) p at sorted in
    let begun = (rw (c.deref-3.ensures.value, c.deref-4.ensures.value) at c.in_ok-put_begun.ensures) p at c.args.ended.now.items c.going_on.new.ended.items sorted gone in
    all_stacked p c.args.lower.items c.in_ok-from_lower.from_lower.items c.args.upper.items c.in_ok-from_upper.from_upper.items c.args.ended.now.items c.in_ok-runs.runs.items c.put_begun.new.runs.items c.going_on.new.ended.items
    low high gone begun
