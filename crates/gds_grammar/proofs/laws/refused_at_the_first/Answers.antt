use Rattle.gds_grammar.proofs.Why.{refused_at_the_first_lem}
use Rattle.gds_grammar.proofs.laws.refused_at_the_first.Goals as goal

pub returns : goal.returns
returns c = refused_at_the_first_lem
