-- The number of filled places grows and falls with each.
use Rattle.std.proofs.Common.{◌≡◌, refl, sym, ap, ◌∙◌, ℕ, ◌+◌, ◌-◌, ◌*◌, ◌≤◌, ℤ, inl, inr, arith, w32, Fits, Bool, true, false, ◌&&◌, ◌||◌, not}
use Rattle.std.specs.Prelude.{get_or}
use Rattle.std.specs.Ordering.{int_eq}
use Rattle.std.proofs.lemmas.Bool.{and_parts, cases_Bool}
use Rattle.std.proofs.lemmas.Bool.Decides.{Decides-int_eq}
use Rattle.std.proofs.Math.Nat.{mul_comm}
use Rattle.fill_base.proofs.Covering.{area_few}
use Rattle.fill_raster.specs.Axes.{first, past, extent, is_on}
use Rattle.fill_raster.specs.Lattice.{Lattice, IsLattice, in_raster, tile_of}
use Rattle.fill_raster.specs.Marks.{Marked, is_marked}
use Rattle.fill_raster.proofs.Points.{area_more, int_eq_yes}
use Rattle.fill_raster.proofs.Ranges.{on_in, on_within}
use Rattle.fill_job.specs.Plans.{PointSet}
use Rattle.fill_core.specs.Boxes.{count_places}
use Rattle.fill_state.specs.Filling.{Filling, IsCounted, is_filled}
use Rattle.fill_state.proofs.Placing.{changed, given_keeps, given_set, given_cleared}

-- a place more
count_more : (r : Lattice) (p q : PointSet) (i j : ℤ) → IsLattice r → in_raster r i j ≡ true → ((k l : ℤ) → q k l ≡ p k l || (int_eq k i && int_eq l j)) → p i j ≡ false → count_places r q ≡ count_places r p + 1
count_more r p q i j is on point off =
    let place = and_parts (is_on r.across i) (is_on r.up j) on in
    let across = on_in r.across i is.across.step_is.least (on_within r.across i place.0) in
    let up = on_in r.up j is.up.step_is.least (on_within r.up j place.1) in
    area_more p q (first r.across) (first r.up) (past r.across) (past r.up) i j across.low across.high up.low up.high point off

-- no set of places has more than a raster may have
pub count_few : (r : Lattice) (p : PointSet) → IsLattice r → count_places r p ≤ 16777216
count_few r p is = few (count_places r p) (extent r.up) (extent r.across) (area_few p (first r.across) (first r.up) (past r.across) (past r.up)) is.few
  where
    few : (n u a : ℕ) → n ≤ u * a → a * u ≤ 16777216 → n ≤ 16777216
    few n u a le most = let e = mul_comm u a in omega (arith, le, most, e)

pub next_fits : (f : Filling) (count : ℕ) → IsCounted f count → Fits w32 (count + 1)
next_fits f count is = small count (count_places f.raster (is_filled f)) is.count_is (count_few f.raster (is_filled f) is.filling.raster)
  where
    small : (n c : ℕ) → n ≡ c → c ≤ 16777216 → Fits w32 (n + 1)
    small n c e few = omega (arith, e, few)

same_place : (p : PointSet) (i j k l : ℤ) → int_eq k i && int_eq l j ≡ true → p k l ≡ p i j
same_place p i j k l at =
    let parts = and_parts (int_eq k i) (int_eq l j) at in
    let x : k ≡ i = (Decides-int_eq k i).0 parts.0 in
    let y : l ≡ j = (Decides-int_eq l j).0 parts.1 in
    rw (x, y) refl

-- a filled place is filled already, and an empty one is empty
pub filled_already : (p : PointSet) (i j : ℤ) → p i j ≡ true → (k l : ℤ) → p k l ≡ p k l || (int_eq k i && int_eq l j)
filled_already p i j on k l = elim (cases_Bool (int_eq k i && int_eq l j)) [
  | inl here ↦ rw (here, same_place p i j k l here ∙ on) refl
  | inr other ↦ rw other (as_it_is (p k l))
]
  where
    as_it_is : (b : Bool) → b ≡ b || false
    as_it_is true = refl
    as_it_is false = refl

pub empty_already : (p : PointSet) (i j : ℤ) → p i j ≡ false → (k l : ℤ) → p k l ≡ p k l && not (int_eq k i && int_eq l j)
empty_already p i j off k l = elim (cases_Bool (int_eq k i && int_eq l j)) [
  | inl here ↦ rw (here, same_place p i j k l here ∙ off) refl
  | inr other ↦ rw other (as_it_is (p k l))
]
  where
    as_it_is : (b : Bool) → b ≡ b && true
    as_it_is true = refl
    as_it_is false = refl

-- what a place was taken from has it again with the place
filled_again : (p q : PointSet) (i j : ℤ) → p i j ≡ true → ((k l : ℤ) → q k l ≡ p k l && not (int_eq k i && int_eq l j)) → (k l : ℤ) → p k l ≡ q k l || (int_eq k i && int_eq l j)
filled_again p q i j on less k l = elim (cases_Bool (int_eq k i && int_eq l j)) [
  | inl here ↦ rw (less k l, here, same_place p i j k l here ∙ on) refl
  | inr other ↦ rw (less k l, other) (as_it_is (p k l))
]
  where
    as_it_is : (b : Bool) → b ≡ (b && true) || false
    as_it_is true = refl
    as_it_is false = refl

emptied : (p q : PointSet) (i j : ℤ) → ((k l : ℤ) → q k l ≡ p k l && not (int_eq k i && int_eq l j)) → q i j ≡ false
emptied p q i j less = less i j ∙ rw (int_eq_yes i, int_eq_yes j) (none (p i j))
  where
    none : (b : Bool) → b && false ≡ false
    none true = refl
    none false = refl

pub counted_more : (f g : Filling) (i j : ℤ) (t : ℕ) (m : Marked) (n : Marked) (count : ℕ) → IsCounted f count → f ≡ g → in_raster g.raster i j ≡ true → t ≡ tile_of f.raster i j → m ≡ get_or f.marks t m → n.block ≡ m.block
    → ((k l : ℤ) → is_marked n k l ≡ is_marked m k l || (int_eq k i && int_eq l j)) → is_filled g i j ≡ false → IsCounted (changed f t n) (count + 1)
counted_more f g i j t m n count is same on tile marks block marked off =
    let here : in_raster f.raster i j ≡ true = ap (λ (h : Filling). in_raster h.raster i j) same ∙ on in record {
      filling = given_keeps f g i j t m n is.filling same on tile marks block;
      count_is = ap (λ c. c + 1) is.count_is ∙ sym (count_more f.raster (is_filled f) (is_filled (changed f t n)) i j is.filling.raster here
          (given_set f f i j t m n is.filling refl here tile marks marked) (ap (λ (h : Filling). is_filled h i j) same ∙ off));
    }

pub record IsCountedLess (f : Filling) (count : ℕ) : Type 0 where
  pub some : 1 ≤ count
  pub counted : IsCounted f (count - 1)

pub counted_less : (f g : Filling) (i j : ℤ) (t : ℕ) (m : Marked) (n : Marked) (count : ℕ) → IsCounted f count → f ≡ g → in_raster g.raster i j ≡ true → t ≡ tile_of f.raster i j → m ≡ get_or f.marks t m → n.block ≡ m.block
    → ((k l : ℤ) → is_marked n k l ≡ is_marked m k l && not (int_eq k i && int_eq l j)) → is_filled g i j ≡ true → IsCountedLess (changed f t n) count
counted_less f g i j t m n count is same on tile marks block marked filled =
    let here : in_raster f.raster i j ≡ true = ap (λ (h : Filling). in_raster h.raster i j) same ∙ on in
    let less = given_cleared f f i j t m n is.filling refl here tile marks marked in
    let more = count_more f.raster (is_filled (changed f t n)) (is_filled f) i j is.filling.raster here
    (filled_again (is_filled f) (is_filled (changed f t n)) i j (ap (λ (h : Filling). is_filled h i j) same ∙ filled) less) (emptied (is_filled f) (is_filled (changed f t n)) i j less) in record {
      some = some count (count_places f.raster (is_filled (changed f t n))) (is.count_is ∙ more);
      counted = record {
        filling = given_keeps f g i j t m n is.filling same on tile marks block;
        count_is = rest count (count_places f.raster (is_filled (changed f t n))) (is.count_is ∙ more);
      };
    }
  where
    some : (c m : ℕ) → c ≡ m + 1 → 1 ≤ c
    some c m e = omega (arith, e)

    rest : (c m : ℕ) → c ≡ m + 1 → c - 1 ≡ m
    rest c m e = omega (arith, e)
