use Rattle.fill_spans.proofs.Canonical.{equal_sets}
use Rattle.fill_spans.proofs.laws.equal_sets_are_equal.Goals as goal

pub returns : goal.returns
returns c = equal_sets
