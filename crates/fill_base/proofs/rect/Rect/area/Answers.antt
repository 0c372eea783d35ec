use Rattle.fill_base.proofs.Areas.{area_of_fits, area_of_is}
use Rattle.fill_base.proofs.rect.Rect.area.Goals as goal

pub overflow_mul-result : goal.overflow_mul-result
overflow_mul-result c = rw (c.x1.ensures, c.x2.ensures, c.y1.ensures, c.y2.ensures) (area_of_fits c.args.self.now)

pub returns : goal.returns
returns c = rw (c.x1.ensures, c.x2.ensures, c.y1.ensures, c.y2.ensures) (area_of_is c.args.self.now)
