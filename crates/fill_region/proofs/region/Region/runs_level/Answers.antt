use Rattle.std.proofs.Common.{◌∙◌, ap, sym, subst}
use Rattle.fill_base.proofs.Signed.{read_is}
use Rattle.fill_bands.specs.Squares.{covered}
use Rattle.fill_region.specs.Near.{AreSomeRuns}
use Rattle.fill_region.specs.Runs.{holds}
use Rattle.fill_region.proofs.Apart.{in_range, runs_apart}
use Rattle.fill_region.proofs.Ordered.{covered_sides}
use Rattle.fill_region.proofs.RowCuts.{apart_stretch, height_read, none_beyond, runs_rising}
use Rattle.fill_region.proofs.SomeRuns.{all_runs, some_of}
use Rattle.fill_region.proofs.region.Region.runs_level.Goals as goal

pub level_with-requires-clause-rising : goal.level_with-requires-clause-rising
level_with-requires-clause-rising c = rw (c.deref.ensures.value) (runs_rising c.self.inside.runs.items c.self.invariant.0.ordered)

pub level_with-requires-clause-tallest : goal.level_with-requires-clause-tallest
level_with-requires-clause-tallest c = rw (c.deref.ensures.value) (rw (height_read c.self.inside.runs.items c.self.inside.height c.self.invariant.1) c.self.invariant.1)

pub returns : goal.returns
returns c = record {
  cover = λ x y from to. (rw (read_is c.args.bottom c.ranges.bottom, read_is c.args.top c.ranges.top) at c.level_with.ensures.cover) x y from to
      ∙ (ap (λ rs. covered rs x y) c.deref.ensures.value ∙ (covered_sides c.self.inside.runs.items x y ∙ ap (λ s. holds s x y) c.self.view_is));
  inside = λ x y is. sym (ap (λ rs. covered rs x y) c.deref.ensures.value ∙ (covered_sides c.self.inside.runs.items x y ∙ ap (λ s. holds s x y) c.self.view_is))
      ∙ none_beyond c.deref.result.now c.level_with.result.now x y c.level_with.ensures.among is;
  apart = apart_stretch c.level_with.result.now c.deref.result.now c.level_with.ensures.stretch (rw c.deref.ensures.value (runs_apart _ c.self.invariant.0));
  some = some_of c.deref.result.now c.level_with.result.now c.level_with.ensures.among (subst AreSomeRuns (sym c.deref.ensures.value) (all_runs c.self.inside.runs.items c.self.invariant.0));
  in_range = λ x y is. in_range c.self.inside.runs.items x y (covered_sides c.self.inside.runs.items x y ∙ (ap (λ s. holds s x y) c.self.view_is ∙ is));
}
