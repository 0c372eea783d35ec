use Rattle.std.proofs.Common.{map, sym}
use Rattle.gds_record.specs.Records.{view}
use Rattle.gds_grammar.proofs.Bodies.{size_4}
use Rattle.gds_grammar.proofs.element.values.number_if.Goals as goal

pub number-requires : goal.number-requires
number-requires c = size_4 c.args.kind (map view c.args.before.now) c.in_ok-body.body.now c.requires.sized c.requires.well (sym c.in_ok-body.ensures)
