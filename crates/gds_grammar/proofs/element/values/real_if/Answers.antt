use Rattle.std.proofs.Common.{map, sym, lit<}
use Rattle.gds_record.specs.Records.{view}
use Rattle.gds_grammar.proofs.Bodies.{size_8}
use Rattle.gds_grammar.proofs.element.values.real_if.Goals as goal

pub array_of-requires : goal.array_of-requires
array_of-requires c = (lit< tt, size_8 c.args.kind (map view c.args.before.now) c.in_ok-body.body.now c.requires.sized c.requires.well (sym c.in_ok-body.ensures))
