use Rattle.fill_base.proofs.Signed.{read_is}
use Rattle.fill_region.proofs.Columns.{across_runs}
use Rattle.fill_region.proofs.joins.joined_across.Goals as goal

pub returns : goal.returns
returns c = λ p low high.
    let parted_left = rw (read_is c.args.at c.ranges.at) at c.in_ok-touching.ensures in
    let parted_right = rw (read_is c.args.at c.ranges.at) at c.in_ok-touching_too.ensures in
    let across = rw (c.deref.ensures.value, c.in_ok-append.ensures.items) at c.in_ok-across.ensures in
    rw (c.in_ok-append-3.ensures.items, c.in_ok-append-2.ensures.items)
    (across_runs p c.args.at c.args.left.items c.args.right.items c.in_ok-touching.touching.items c.in_ok-touching.runs.items c.in_ok-touching_too.touching_too.items c.in_ok-touching_too.others.items c.in_ok-across.across.items
    low high parted_left parted_right across)
