use Rattle.std.proofs.Common.{map}
use Rattle.gds_record.specs.Records.{view}
use Rattle.gds_grammar.proofs.Bodies.{size_2}
use Rattle.gds_grammar.proofs.element.values.word_at.Goals as goal

pub word-requires : goal.word-requires
word-requires c = size_2 c.args.kind (map view c.args.before.now) c.body_at.result.now c.requires.sized c.requires.well c.body_at.ensures
