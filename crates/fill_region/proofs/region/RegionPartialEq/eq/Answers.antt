use Rattle.std.proofs.Common.{◌∙◌, ap}
use Rattle.std.proofs.lemmas.Slice.Eq.{slice_eq-Decides}
use Rattle.fill_region.specs.Runs.{holds}
use Rattle.fill_region.proofs.Apart.{same_lists, sides_Decides}
use Rattle.fill_region.proofs.Same.{one_list}
use Rattle.fill_region.proofs.region.RegionPartialEq.eq.Goals as goal

pub returns-clause-eq : goal.returns-clause-eq
returns-clause-eq c = rw (← c.self.view_is, ← c.other.view_is) (c.eq.ensures ∙ same_lists c.self.inside.runs.items c.other.inside.runs.items)

pub returns-clause-same : goal.returns-clause-same
returns-clause-same c =
    let d = slice_eq-Decides sides_Decides _ _ c.eq.result (c.eq.ensures ∙ same_lists c.self.inside.runs.items c.other.inside.runs.items) in
    rw (← c.self.view_is, ← c.other.view_is)
    ((λ is x y. ap (λ rs. holds rs x y) (d.0 is)), (λ same. d.1 (one_list _ _ c.self.invariant.0 c.other.invariant.0 same)))
