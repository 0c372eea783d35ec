use Rattle.std.proofs.Common.{◌+◌, ◌*◌, ◌<◌, get_or, length, pos}
use Rattle.fill_area.proofs.Shares.{area_read}
use Rattle.fill_base.proofs.Signed.{read_is}
use Rattle.fill_state.proofs.LowRuns.{low_at, place_within}
use Rattle.fill_state.proofs.low.is_low_at.Goals as goal

pub returns : goal.returns
returns c =
    let g = c.args.windows.now in let totals = c.args.totals.now in let k = c.args.row * g.across.count + c.args.column in
    let lt : k < length totals = place_within g totals c.args.column c.args.row c.requires.count c.requires.column c.requires.row in
    let below = rw (c.columns.ensures, area_read (get_or totals k (pos 0)) (c.requires.areas k (pos 0) lt), area_read c.counted_size.result c.counted_size.ensures.area, read_is c.args.least c.ranges.least) at c.is_low.ensures in
    low_at g c.args.least totals c.args.column c.args.row c.counted_size.result c.is_low.result c.requires.column c.requires.row c.counted_size.ensures.size below
