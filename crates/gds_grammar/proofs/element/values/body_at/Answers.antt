use Rattle.std.proofs.Common.{map}
use Rattle.gds_record.specs.Records.{view}
use Rattle.gds_grammar.proofs.Bodies.{is_there, stands}
use Rattle.gds_grammar.proofs.element.values.body_at.Goals as goal

pub unwrap-requires : goal.unwrap-requires
unwrap-requires c = is_there c.find.result _ c.find.ensures (stands c.args.kind (map view c.args.before.now) c.requires)
