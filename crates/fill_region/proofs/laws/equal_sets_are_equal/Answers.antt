use Rattle.fill_region.proofs.Same.{one_list}
use Rattle.fill_region.proofs.laws.equal_sets_are_equal.Goals as goal

pub returns : goal.returns
returns c = record { law = one_list; same = λ same. one_list c.args.a.now c.args.b.now c.runs.ensures.canonical c.runs-2.ensures.canonical same }
