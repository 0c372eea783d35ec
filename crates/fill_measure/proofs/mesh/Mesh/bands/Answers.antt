use Rattle.std.proofs.Common.{◌≡◌, ◌<◌, ◌*◌, ◌-◌, ◌∙◌, ap, refl, arith, ℤ, Vec, Global}
use Rattle.std.specs.Int.{div_ceil}
use Rattle.std.specs.List.{range_with_len}
use Rattle.std.specs.Vec.{vec_items}
use Rattle.std.proofs.lemmas.Grind.{div_ceil_times}
use Rattle.std.proofs.lemmas.Result.{IfOk-weaker}
use Rattle.rayon.specs.Numbers.{nat_range}
use Rattle.rayon.proofs.ListFacts.{AllZip-weaken}
use Rattle.rayon.proofs.ToStd.{nat_range-All}
use Rattle.fill_cells.specs.Mesh.{gaps}
use Rattle.fill_measure.specs.steps.Meshes.{IsBandOf}
use Rattle.fill_region.proofs.Collecting.{collected, range_begins}
use Rattle.fill_measure.proofs.mesh.Mesh.bands.Goals as goal

pub collect-requires-clause-ready : goal.collect-requires-clause-ready
collect-requires-clause-ready g c κs within =
    let ends = c.into_par_iter.ensures in
    let rows = gaps c.args.self.now.up.now in
    let count = div_ceil rows c.args.height in
    let inside = nat_range-All (λ k. k * c.args.height < rows) 0 count (λ k low high. range_begins rows c.args.height k c.requires.height high) in
    rw (c.map_init.ensures.base, c.map_init.ensures.f, c.with_min_len.ensures.base, ends.0, ends.1, c.div_ceil.ensures) (tt, λ k d lt. (λ p. ((inside k d lt, refl), c.requires.chunks), λ p q y h. tt))

pub returns : goal.returns
returns g c =
    let ends = c.into_par_iter.ensures in
    let mesh = c.args.self.now in
    let rows = gaps mesh.up.now in
    let count = div_ceil rows c.args.height in
    let whole : count - 0 ≡ count = omega arith in
    let h = c.in_ok-collect.ensures in
    let chain = rw (c.map_init.ensures.base, c.map_init.ensures.f, c.with_min_len.ensures.base) at h.1 in
    let upto = ends.1 ∙ c.div_ceil.ensures in
    let below = chain.1 ∙ (λ i. nat_range (ends.0 i) (upto i)) ∙ ap (range_with_len 0) whole in
    IfOk-weaker c.in_ok-collect.field-0 _ _ (λ v made. record {
      all = rw made.0 (div_ceil_times rows c.args.height c.requires.height).0;
      some = λ k lt. range_begins rows c.args.height k c.requires.height (rw made.0 at lt);
      each = λ k d lt. made.1 k d (rw made.0 at lt);
    }) (collected vec_items (λ k (v : Vec ℤ Global). IsBandOf mesh c.args.height k v.items) count chain.0 h.0 c.in_ok-collect.field-0 below (AllZip-weaken _ _ (λ k one call. call.2) chain.0 h.0 chain.2) h.2)
