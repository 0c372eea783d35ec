use Rattle.std.proofs.Common.{map, refl, arith}
use Rattle.gds_record.specs.declared.kind.TheConstants as kinds
use Rattle.gds_record.specs.Records.{view}
use Rattle.gds_grammar.proofs.Bodies.{size_4}
use Rattle.gds_grammar.proofs.element.values.columns_and_rows.Goals as goal

pub split_at-requires : goal.split_at-requires
split_at-requires c = let four = size_4 kinds.COLROW (map view c.args.before.now) c.body_at.result.now refl c.requires.well c.body_at.ensures in omega (arith, four)

pub word-requires-2 : goal.word-requires-2
word-requires-2 c = let four = size_4 kinds.COLROW (map view c.args.before.now) c.body_at.result.now refl c.requires.well c.body_at.ensures in omega (arith, four, c.split_at.ensures.back_len)
