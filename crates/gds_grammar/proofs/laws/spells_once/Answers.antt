use Rattle.gds_grammar.proofs.Unique.{spelled_once}
use Rattle.gds_grammar.proofs.laws.spells_once.Goals as goal

pub returns : goal.returns
returns c = spelled_once
