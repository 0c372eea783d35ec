use Rattle.std.proofs.Common.{◌≡◌, ◌<◌, ◌*◌, ◌+◌, ◌-◌, ◌≤◌, ◌∙◌, ℕ, [], Result, IfOk, IfErr, ap, subst, arith}
use Rattle.std.specs.Borrow.{Bor}
use Rattle.std.specs.Global.{Global, Vec}
use Rattle.std.specs.Int.{div_ceil}
use Rattle.std.specs.List.{AllZip, range_with_len}
use Rattle.std.specs.Vec.{vec_items}
use Rattle.std.proofs.lemmas.Result.{IfOk-weaker}
use Rattle.rayon.specs.Numbers.{nat_range}
use Rattle.rayon.proofs.ListFacts.{AllZip-weaken}
use Rattle.rayon.proofs.ToStd.{nat_range-All}
use Rattle.fill_base.specs.declared.rect.Rect.{Rect}
use Rattle.fill_region.proofs.Collecting.{collected, range_begins, refused_by}
use Rattle.gds_flatten.specs.declared.design.Design.{Design}
use Rattle.gds_cells.specs.declared.error.FlattenError.{FlattenError}
use Rattle.gds_cells.specs.steps.Walks.{part, IsDrawn, IsRefusal}
use Rattle.gds_flatten.specs.steps.Roots.{roots_copies}
use Rattle.gds_flatten.proofs.Sharing.{parts_joined}
use Rattle.gds_flatten.proofs.design.Design.parts.Goals as goal

-- what came of the stretch at an index, where the closure holds the design and the size of a stretch
abbrev Came : Bor Design × Global × ℕ → ℕ → Result (Vec Rect) FlattenError → Type 0
Came f k came =
    let cs = roots_copies f.0.now.cells.items f.0.now.roots.items in
    IfOk came (λ v. IsDrawn (part (k * f.2) (k * f.2 + f.2) cs) [] v.items) × IfErr came (IsRefusal cs)

pub collect-requires-clause-ready : goal.collect-requires-clause-ready
collect-requires-clause-ready g c κs within =
    let ends = c.into_par_iter.ensures in
    let number = c.args.self.now.number in
    let size = c.max-size.result in
    let some : 0 < size = omega (arith, c.max-size.ensures) in
    let few : size ≤ 4000000 = omega (arith, c.max-size.ensures, c.div_ceil.ensures, c.args.self.now.few) in
    let inside = nat_range-All (λ k. k * size < number) 0 (div_ceil number size) (λ k low high. range_begins number size k some high) in
    rw (c.map.ensures.base, c.map.ensures.f, c.with_min_len.ensures.base, ends.0, ends.1, c.div_ceil-2.ensures) (λ k d lt. ((c.requires.counted, (few, inside k d lt)), λ y h. tt))

pub returns-clause-drawn : goal.returns-clause-drawn
returns-clause-drawn g c =
    let ends = c.into_par_iter.ensures in
    let design = c.args.self.now in
    let size = c.max-size.result in
    let cs = roots_copies design.cells.items design.roots.items in
    let count = div_ceil design.number size in
    let some : 0 < size = omega (arith, c.max-size.ensures) in
    let whole : count - 0 ≡ count = omega arith in
    let h = c.in_ok-collect.ensures in
    let base = c.map.ensures.base in
    let ranged = c.with_min_len.ensures.base in
    let from : c.map.result.base.base.start ≡ 0 = ap (λ it. it.base.start) base ∙ ap (λ it. it.start) ranged ∙ ends.0 in
    let upto : c.map.result.base.base.end ≡ count = ap (λ it. it.base.end) base ∙ ap (λ it. it.end) ranged ∙ ends.1 ∙ c.div_ceil-2.ensures in
    let below = h.1.1 ∙ (λ i. nat_range (from i) (upto i)) ∙ ap (range_with_len 0) whole in
    let came = subst (λ f. AllZip (Came f) h.1.0 h.0) c.map.ensures.f h.1.2 in
    IfOk-weaker c.in_ok-collect.field-0 _ _ (λ v made. parts_joined design.number size cs v.items some design.all made.0 made.1)
    (collected vec_items (λ k (v : Vec Rect). IsDrawn (part (k * size) (k * size + size) cs) [] v.items) count h.1.0 h.0 c.in_ok-collect.field-0 below (AllZip-weaken _ _ (λ k one came. came.0) h.1.0 h.0 came) h.2)

pub returns-clause-refused : goal.returns-clause-refused
returns-clause-refused g c =
    let design = c.args.self.now in
    let h = c.in_ok-collect.ensures in
    let came = subst (λ f. AllZip (Came f) h.1.0 h.0) c.map.ensures.f h.1.2 in
    refused_by (IsRefusal (roots_copies design.cells.items design.roots.items)) _ h.1.0 h.0 c.in_ok-collect.field-0 (AllZip-weaken _ _ (λ k one came. came.1) h.1.0 h.0 came) h.2
