use Rattle.std.proofs.Common.{arith, rules, ◌+◌}
use Rattle.fill_base.proofs.Areas.{read_x2}
use Rattle.fill_base.proofs.Signed.{read, read_is}
use Rattle.fill_cells.proofs.SkylineAreas.{IsCounted, counted_none, counted_next, counted_parted}
use Rattle.fill_cells.proofs.skyline.ended.Goals as goal

pub loop-tower-init : goal.loop-tower-init
loop-tower-init c = counted_none c.args.towers.now (read c.args.column)

next : (c : goal.After-from-count) → IsCounted c.args.towers.now (read c.args.column) (c.loop-tower.count + c.from-count.result) (c.loop-tower.tower-index + 1)
next c = counted_next c.args.towers.now (read c.args.column) c.loop-tower.count c.loop-tower.tower-index c.from-count.result c.tower-item.result c.requires c.loop-tower.invariant c.loop-tower-test.true c.tower-item.is
    (rw (c.x2.ensures, read_x2 c.tower-item.result) at c.from-count.ensures)

pub overflow_add-count : goal.overflow_add-count
overflow_add-count c = let within = (next c).within in search rules

pub loop-tower-preserved : goal.loop-tower-preserved
loop-tower-preserved c = next c

pub returns-clause-within : goal.returns-clause-within
returns-clause-within c = let within = c.loop-tower.invariant.within in let end = c.loop-tower.auto.tower-index-end in omega (arith, within, end)

pub returns-clause-parted : goal.returns-clause-parted
returns-clause-parted c = counted_parted c.args.towers.now c.args.column (read c.args.column) c.loop-tower.count c.loop-tower.tower-index (read_is c.args.column c.ranges.column) c.loop-tower-test.false c.loop-tower.invariant
