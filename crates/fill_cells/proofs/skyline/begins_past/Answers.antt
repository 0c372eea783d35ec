use Rattle.std.proofs.Common.{refl, length}
use Rattle.fill_cells.proofs.Lists.{x1_fits}
use Rattle.fill_cells.proofs.Towers.{all_after, before_end, edge_upto}
use Rattle.fill_cells.proofs.skyline.begins_past.Goals as goal

pub returns-else-at-towers : goal.returns-else-at-towers
returns-else-at-towers c past = all_after c.args.towers.now c.args.at c.index-towers-at.result c.args.column c.requires.apart
    (before_end c.args.at (length c.args.towers.now) (length c.args.towers.now) c.requires.within refl c.if-at-towers.false) c.index-towers-at.is
    (edge_upto c.args.column c.index-towers-at.result.x1 c.args.column c.x1.result c.ranges.column (x1_fits c.index-towers-at.result) refl c.x1.ensures past)
