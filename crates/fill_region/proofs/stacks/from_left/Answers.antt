use Rattle.std.proofs.Common.{rules}
use Rattle.fill_base.proofs.Areas.{read_x1}
use Rattle.fill_bands.proofs.Ordered.{rising_from_sort}
use Rattle.fill_region.proofs.stacks.from_left.Goals as goal

pub returns-clause-rising : goal.returns-clause-rising
returns-clause-rising c = rising_from_sort (λ r. r.x1) _ c.in_ok-sort_by_key.ensures.sorted (λ a r q k. search (rules, read_x1))
