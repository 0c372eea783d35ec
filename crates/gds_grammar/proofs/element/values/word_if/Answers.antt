use Rattle.std.proofs.Common.{map, sym}
use Rattle.gds_record.specs.Records.{view}
use Rattle.gds_grammar.proofs.Bodies.{size_2}
use Rattle.gds_grammar.proofs.element.values.word_if.Goals as goal

pub word-requires : goal.word-requires
word-requires c = size_2 c.args.kind (map view c.args.before.now) c.in_ok-body.body.now c.requires.sized c.requires.well (sym c.in_ok-body.ensures)
