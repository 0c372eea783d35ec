use Rattle.std.proofs.Common.{rules, cond, ◌&&◌, ◌∙◌}
use Rattle.std.specs.Prelude.{int_lt}
use Rattle.std.proofs.lemmas.List.Sorted.{sum_by-IsPermutation}
use Rattle.gds_shape.specs.steps.Edges.{goes, spans}
use Rattle.gds_shape.proofs.Ordered.{rising_from_sort}
use Rattle.gds_shape.proofs.ReadBack.{read_bottom}
use Rattle.gds_shape.proofs.edges.edges_of.Goals as goal

pub returns-clause-rising : goal.returns-clause-rising
returns-clause-rising c = rising_from_sort (λ e. e.bottom) _ c.in_ok-sort_by_key.ensures.sorted (λ a r q k. search (rules, read_bottom))

pub returns-clause-same : goal.returns-clause-same
returns-clause-same c = λ way x y.
    sum_by-IsPermutation (λ e. cond (goes way e && (int_lt x e.x && spans y e)) 1 0) _ _ c.in_ok-sort_by_key.ensures.permutation ∙ c.in_ok-edges.ensures way x y
