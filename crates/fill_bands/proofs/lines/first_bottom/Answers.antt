use Rattle.fill_bands.proofs.NextLines.{first_line}
use Rattle.fill_bands.proofs.lines.first_bottom.Goals as goal

pub returns-in-Some : goal.returns-in-Some
returns-in-Some c = first_line c.args.rects.now c.in-Some.rect.now c.y1.result c.y1.ensures c.in-Some.ensures.value c.requires
