use Rattle.fill_base.proofs.Areas.{read_x1, read_x2, read_y1, read_y2}
use Rattle.fill_area.specs.Axes.{IsTouching}
use Rattle.fill_area.proofs.Sharing.{windows_sharing, as_written}
use Rattle.fill_area.proofs.windows.Windows.touching.Goals as goal

pub returns-clause-columns : goal.returns-clause-columns
returns-clause-columns c = rw c.across.ensures.value at (as_written IsTouching c.across.result c.x1.result c.x2.result c.args.rect.now.x1 c.args.rect.now.x2 _ _ _ c.x1.ensures c.x2.ensures
    (read_x1 c.args.rect.now) (read_x2 c.args.rect.now) c.touching-columns.ensures)

pub returns-clause-rows : goal.returns-clause-rows
returns-clause-rows c = rw c.up.ensures.value at (as_written IsTouching c.up.result c.y1.result c.y2.result c.args.rect.now.y1 c.args.rect.now.y2 _ _ _ c.y1.ensures c.y2.ensures
    (read_y1 c.args.rect.now) (read_y2 c.args.rect.now) c.touching-rows.ensures)

pub returns-clause-windows : goal.returns-clause-windows
returns-clause-windows c = windows_sharing c.args.self.now c.args.rect.now _ _ _ _ (rw c.across.ensures.value at c.across.ensures.axis).length_is (rw c.up.ensures.value at c.up.ensures.axis).length_is (returns-clause-columns c).exact (returns-clause-rows c).exact
