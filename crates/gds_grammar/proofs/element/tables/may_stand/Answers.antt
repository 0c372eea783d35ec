use Rattle.std.proofs.Common.{sym, ◌∙◌}
use Rattle.gds_record.specs.declared.kind.TheConstants as kinds
use Rattle.gds_grammar.proofs.Bodies.{all_is}
use Rattle.gds_grammar.proofs.element.tables.may_stand.Goals as goal

pub returns-in-47 : goal.returns-in-47
returns-in-47 c = rw c.in-47.is (c.all_of_kind.ensures ∙ sym (all_is c.args.before.now kinds.ELFLAGS))
