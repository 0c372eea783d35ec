use Rattle.densfill.proofs.Named.{is_named}
use Rattle.densfill.proofs.scope_of.Goals as goal

pub returns-in-Some : goal.returns-in-Some
returns-in-Some c = is_named c.args.part c.new.result c.unwrap.result c.in-Some.number c.in-Some.count c.in-Some.is c.unwrap.ensures c.new.ensures.part
