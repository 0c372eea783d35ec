-- A list of areas that grows by one.
use Rattle.std.proofs.Common.{◌≡◌, ap, sym, ◌∙◌, ℕ, ◌+◌, ◌*◌, ◌%◌, ◌/◌, ◌<◌, ◌≤◌, ◌^◌, subst, ◌||◌, ℤ, pos, true, inl, inr, arith, List, [], ◌∷◌, ◌++◌, length, get_or}
use Rattle.std.proofs.Math.Nat.{mod-add-div}
use Rattle.std.proofs.lemmas.Nat.{div_below, mod_below}
use Rattle.std.proofs.lemmas.Bool.{cases_eq}
use Rattle.std.proofs.lemmas.List.{get_or_append_left, get_or_default, get_or_push, length_push}
use Rattle.fill_area.proofs.Measuring.{area_at}
use Rattle.fill_area.specs.Grid.{Grid}
use Rattle.fill_area.specs.Density.{AreMeasured, window_area}
use Rattle.fill_job.specs.Plans.{PointSet}
use Rattle.fill_state.proofs.Totals.{Together, counted_together}

-- the first areas of a list
pub record AreFirst (p : PointSet) (g : Grid) (totals : List ℤ) (k : ℕ) : Type 0 where
  pub count : length totals ≡ k
  pub each : (i : ℕ) (d : ℤ) → i < k → get_or totals i d ≡ area_at p g i

pub areas_more : (p : PointSet) (g : Grid) (totals new : List ℤ) (k : ℕ) (area : ℤ) → new ≡ totals ++ area ∷ [] → length totals ≡ k → ((i : ℕ) (d : ℤ) → i < k → get_or totals i d ≡ area_at p g i) → area ≡ area_at p g k → AreFirst p g new (k + 1)
areas_more p g totals new k area pushed count each is = rw pushed (record {
  count = length_push totals area ∙ ap (λ n. n + 1) count;
  each = λ i d lt. elim (cases_eq i k) [
    | inl same ↦ rw same (get_or_push totals area d k count ∙ is)
    | inr other ↦ let below : i < k = grind (arith, lt, other) in get_or_append_left totals (area ∷ []) d i (rw count below) ∙ each i d below
  ];
})

-- the area at a place of a list of all windows' areas
pub nth_area : (p : PointSet) (g : Grid) (areas : List ℤ) (k : ℕ) (d : ℤ) → AreMeasured p g areas → k < g.across.count * g.up.count → get_or areas k d ≡ area_at p g k
nth_area p g areas k d are lt =
    let columns : 1 ≤ g.across.count = are.grid.across.count_is.least in
    let some : 0 < g.across.count = omega (arith, columns) in
    let parts : k % g.across.count + g.across.count * (k / g.across.count) ≡ k = mod-add-div k g.across.count in
    let place : (k / g.across.count) * g.across.count + k % g.across.count ≡ k = grind (arith, parts) in
    get_or_default areas k d (pos 0) (rw are.count lt)
    ∙ (ap (λ n. get_or areas n (pos 0)) (sym place)
    ∙ are.each (k % g.across.count) (k / g.across.count) (mod_below k g.across.count some) (div_below k g.across.count g.up.count some (omega (arith, lt))))

-- the total of a window, by the list of areas and by what the boxes take
pub one_total : (p q : PointSet) (g : Grid) (areas : List ℤ) (k m n : ℕ) (area boxes : ℤ) → AreMeasured p g areas → k < g.across.count * g.up.count → area ≡ get_or areas k area
    → m ≡ k % g.across.count → n ≡ k / g.across.count → boxes ≡ pos (window_area q g m n) → ((x y : ℤ) → p x y ≡ true → q x y ≡ true → ⊥) → ((s : PointSet) → window_area s g m n ≤ 2 ^ 62)
    → Together (window_area (λ x y. p x y || q x y) g (k % g.across.count) (k / g.across.count)) area boxes
one_total p q g areas k m n area boxes are lt is column row there apart few =
    counted_together p q g (k % g.across.count) (k / g.across.count) area boxes (is ∙ nth_area p g areas k area are lt) (there ∙ (ap (λ i. pos (window_area q g i n)) column ∙ ap (λ j. pos (window_area q g (k % g.across.count) j)) row)) apart
    (λ s. subst (λ j. window_area s g (k % g.across.count) j ≤ 2 ^ 62) row (subst (λ i. window_area s g i n ≤ 2 ^ 62) column (few s)))
