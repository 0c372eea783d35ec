use Rattle.fill_base.proofs.Signed.{read_is}
use Rattle.fill_region.proofs.Joining.{parted_meet, joined_runs}
use Rattle.fill_region.proofs.upwards.joined_upwards.Goals as goal

pub returns : goal.returns
returns c = λ p low high.
    let low_parted = rw (read_is c.args.at c.ranges.at) at c.in_ok-ending.ensures in
    let high_parted = rw (read_is c.args.at c.ranges.at) at c.in_ok-beginning.ensures in
    let met = parted_meet p c.args.at c.args.lower.items c.args.upper.items c.in_ok-ending.ending.items c.in_ok-ending.runs.items c.in_ok-beginning.beginning.items c.in_ok-beginning.others.items low high low_parted high_parted in
    let done = c.in_ok-going_on.ensures p c.args.at met in
    rw (c.in_ok-append-2.ensures.items, c.in_ok-append.ensures.items)
    (joined_runs p c.args.at c.args.lower.items c.args.upper.items c.in_ok-ending.ending.items c.in_ok-ending.runs.items c.in_ok-beginning.beginning.items c.in_ok-beginning.others.items c.in_ok-going_on.going_on.items c.stacked.new.ended.items
    low high low_parted high_parted done)
