use Rattle.std.proofs.Common.{rules}
use Rattle.fill_area.specs.Grid.{grid_of}
use Rattle.fill_area.proofs.Axes.{axis_read_is}
use Rattle.fill_area.proofs.GridTests.{all_clip, grid_test}
use Rattle.fill_area.proofs.windows.Windows.new.Goals as goal

pub invariant_of-result : goal.invariant_of-result
invariant_of-result c =
    let g = grid_of c.args.origin c.args.size c.args.step c.args.count in
    let across = axis_read_is g.across (search rules) (search rules) (search rules) in
    let up = axis_read_is g.up (search rules) (search rules) (search rules) in
    rw (across, up) ((grid_test g c.is_within.result c.is_within-2.result c.are_few.result (rw across at c.is_within.ensures) (rw up at c.is_within-2.ensures) c.are_few.ensures all_clip).0 c.if-is_within-are_few.true)
