use Rattle.fill_cells.proofs.Towers.{put_in_one}
use Rattle.fill_cells.proofs.skyline.put_over.Goals as goal

pub returns-else-from-to-2 : goal.returns-else-from-to-2
returns-else-from-to-2 c = put_in_one c.args.towers.now.items c.args.from c.args.to c.args.rect c.requires.ordered c.requires.within c.if-from-to.false c.if-from-to-2.false
