use Rattle.std.proofs.Common.{◌∙◌, ap, sym, subst}
use Rattle.fill_bands.specs.Squares.{covered}
use Rattle.fill_region.specs.Near.{AreSomeRuns}
use Rattle.fill_region.specs.Runs.{holds}
use Rattle.fill_region.proofs.Apart.{runs_apart, in_range}
use Rattle.fill_region.proofs.Ordered.{covered_sides}
use Rattle.fill_region.proofs.SomeRuns.{all_runs}
use Rattle.fill_region.proofs.region.Region.runs.Goals as goal

pub returns-clause-cover : goal.returns-clause-cover
returns-clause-cover c = λ x y. ap (λ rs. covered rs x y) c.deref.ensures.value ∙ (covered_sides c.self.inside.runs.items x y ∙ ap (λ s. holds s x y) c.self.view_is)

pub returns-clause-apart : goal.returns-clause-apart
returns-clause-apart c = rw (← c.self.view_is) (runs_apart _ c.self.invariant.0)

pub returns-clause-in_range : goal.returns-clause-in_range
returns-clause-in_range c = λ x y is. in_range c.self.inside.runs.items x y (covered_sides c.self.inside.runs.items x y ∙ (ap (λ s. holds s x y) c.self.view_is ∙ is))

pub returns-clause-some : goal.returns-clause-some
returns-clause-some c = subst AreSomeRuns (sym c.deref.ensures.value) (all_runs c.self.inside.runs.items c.self.invariant.0)
