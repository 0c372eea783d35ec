use Rattle.std.proofs.Common.{rules}
use Rattle.fill_raster.proofs.Marking.{rows_fit, index_reckoned}
use Rattle.fill_raster.proofs.block.Block.index.Goals as goal

pub overflow_mul-result : goal.overflow_mul-result
overflow_mul-result c = rows_fit c.args.self c.args.place.i c.args.place.j c.abs_diff.result c.abs_diff-2.result c.requires.block (search rules) c.requires.place c.abs_diff.ensures c.abs_diff-2.ensures

pub overflow_add-result : goal.overflow_add-result
overflow_add-result c =
    (index_reckoned c.args.self c.args.place.i c.args.place.j c.abs_diff.result c.abs_diff-2.result c.abs_diff-3.result c.requires.block (search rules) (search rules) c.requires.place
    c.abs_diff.ensures c.abs_diff-2.ensures c.abs_diff-3.ensures).fits

pub returns : goal.returns
returns c =
    let r = index_reckoned c.args.self c.args.place.i c.args.place.j c.abs_diff.result c.abs_diff-2.result c.abs_diff-3.result c.requires.block (search rules) (search rules) c.requires.place
    c.abs_diff.ensures c.abs_diff-2.ensures c.abs_diff-3.ensures in
    record { index = r.index; below = r.below }
