use Rattle.std.proofs.Common.{◌≡◌, ℤ, refl, ap, ◌∙◌, sym, subst}
use Rattle.fill_bands.specs.Squares.{covered}
use Rattle.fill_spans.specs.Operations.{applied}
use Rattle.fill_region.specs.Runs.{holds}
use Rattle.fill_region.specs.Steps.{AreRunsOf}
use Rattle.fill_region.proofs.Changing.{own_runs}
use Rattle.fill_region.proofs.Ordered.{covered_sides}
use Rattle.fill_region.proofs.region.Region.combined.Goals as goal

pub combined_runs-requires : goal.combined_runs-requires
combined_runs-requires c = subst (λ rs. AreRunsOf (covered rs) rs) (sym c.deref.ensures.value) (own_runs c.self.inside.runs.items c.self.invariant.0)

pub of-requires : goal.of-requires
of-requires c = c.in_ok-runs.ensures.canonical (λ x y. applied c.args.operation (covered c.deref.result.now x y) (covered c.deref-2.result.now x y)) c.in_ok-unordered.ensures

pub returns : goal.returns
returns c =
    let one : (x y : ℤ) → covered c.deref.result.now x y ≡ holds c.args.self.now x y = λ x y. ap (λ rs. covered rs x y) c.deref.ensures.value ∙ (covered_sides c.self.inside.runs.items x y ∙ ap (λ s. holds s x y) c.self.view_is) in
    let two : (x y : ℤ) → covered c.deref-2.result.now x y ≡ holds c.args.other.now x y = λ x y. ap (λ rs. covered rs x y) c.deref-2.ensures.value ∙ (covered_sides c.other.inside.runs.items x y ∙ ap (λ s. holds s x y) c.other.view_is) in
    rw (c.of.ensures) (record { squares = λ x y. c.in_ok-runs.ensures.squares (λ x y. applied c.args.operation (covered c.deref.result.now x y) (covered c.deref-2.result.now x y)) c.in_ok-unordered.ensures x y ∙ rw (one x y, two x y) refl })
