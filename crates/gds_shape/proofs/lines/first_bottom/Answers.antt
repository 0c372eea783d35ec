use Rattle.gds_shape.proofs.NextLines.{first_line}
use Rattle.gds_shape.proofs.lines.first_bottom.Goals as goal

pub returns-in-Some : goal.returns-in-Some
returns-in-Some c = first_line c.args.edges.now c.in-Some.edge.now c.in-Some.ensures.value c.requires
