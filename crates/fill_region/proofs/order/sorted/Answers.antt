use Rattle.std.proofs.Common.{rules}
use Rattle.fill_base.proofs.Areas.{read_x1, read_y1}
use Rattle.fill_region.proofs.Ordered.{not_falling}
use Rattle.fill_region.proofs.order.sorted.Goals as goal

pub returns-clause-rising : goal.returns-clause-rising
returns-clause-rising c = not_falling _ c.in_ok-sort_by_key.ensures.sorted (λ a r q k. search (rules, read_x1, read_y1))
