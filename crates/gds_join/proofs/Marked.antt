-- The marks of all tiles mark the filled places.
use Rattle.std.proofs.Common.{◌≡◌, refl, ap, sym, subst, ◌∙◌, ℕ, zero, suc, ◌+◌, ◌≤◌, ◌<◌, arith, inl, inr, ℤ, Bool, true, false, not, ◌&&◌, ◌||◌, ◌==◌, List, [], ◌∷◌, ◌++◌, length, Bor, Some}
use Rattle.std.specs.Prelude.{slice_get}
use Rattle.std.specs.List.{list_any}
use Rattle.std.specs.Ordering.{int_eq}
use Rattle.std.proofs.lemmas.Bool.{and_from, and_parts, cases_Bool}
use Rattle.std.proofs.lemmas.Bool.Decides.{Decides-int_eq, nat_tests}
use Rattle.std.proofs.lemmas.List.{length_push}
use Rattle.fill_raster.specs.Lattice.{Lattice, IsLattice, in_raster, in_tile, tile_of, tiles}
use Rattle.fill_base.specs.Counts.{is_between}
use Rattle.fill_base.specs.Squares.{area_between}
use Rattle.fill_base.proofs.Between.{is_between_bounds}
use Rattle.fill_raster.specs.Marks.{Marked, count_marked, in_block, is_marked}
use Rattle.fill_raster.proofs.Points.{area_more}
use Rattle.fill_raster.proofs.RasterLaws.{place_has_a_tile}
use Rattle.fill_job.specs.Plans.{PointSet}
use Rattle.gds_out.specs.Places.{marked_by}

some_marked : (p : Bor Marked → Bool) (xs : List (Bor Marked)) (t : ℕ) → t < length xs → ((x : Bor Marked) → slice_get xs t ≡ Some x → p x ≡ true) → list_any p xs ≡ true
some_marked p [] t lt it = absurd (omega (arith, lt))
some_marked p (x ∷ xs) zero lt it = rw (it x refl) refl
some_marked p (x ∷ xs) (suc t) lt it = rw (some_marked p xs t (omega (arith, lt)) (λ y at. it y at)) (either (p x))
  where
    either : (b : Bool) → (b || true) ≡ true
    either true = refl
    either false = refl

none_marked : (p : Bor Marked → Bool) (xs : List (Bor Marked)) → ((t : ℕ) (x : Bor Marked) → slice_get xs t ≡ Some x → p x ≡ false) → list_any p xs ≡ false
none_marked p [] none = refl
none_marked p (x ∷ xs) none = rw (none 0 x refl, none_marked p xs (λ t y at. none (suc t) y at)) refl

-- a place is marked where it is filled, in its tile
pub marks_are : (r : Lattice) (fill : PointSet) (marks : List (Bor Marked)) → IsLattice r → length marks ≡ tiles r
    → ((t : ℕ) (m : Bor Marked) → slice_get marks t ≡ Some m → (i j : ℤ) → is_marked m.now i j ≡ (in_tile r t i j && fill i j))
    → ((i j : ℤ) → fill i j ≡ true → in_raster r i j ≡ true) → marked_by marks ≡ fill
marks_are r fill marks is count each inside = λ k i j. at i j k
  where
    here : (n : ℕ) → (n == n) ≡ true
    here n = grind (arith, nat_tests)

    no : (b : Bool) → (b && false) ≡ false
    no true = refl
    no false = refl

    at : (i j : ℤ) → marked_by marks i j ≡ fill i j
    at i j = elim (cases_Bool (fill i j)) [
      | inl yes_it ↦ some_marked (λ m. is_marked m.now i j) marks (tile_of r i j) (rw count (place_has_a_tile r is i j (inside i j yes_it)))
          (λ m found. each (tile_of r i j) m found i j ∙ rw (inside i j yes_it, here (tile_of r i j), yes_it) refl) ∙ sym yes_it
      | inr no_it ↦ none_marked (λ m. is_marked m.now i j) marks (λ t m found. each t m found i j ∙ rw no_it (no (in_tile r t i j))) ∙ sym no_it
    ]

-- ---- the marks of the first tiles

-- these are the marks of the filled places of a tile
pub record AreOf (r : Lattice) (fill : PointSet) (t : ℕ) (m : Bor Marked) : Type 0 where
  pub block : (i j : ℤ) → in_block m.now.block i j ≡ in_tile r t i j
  pub marked : (i j : ℤ) → is_marked m.now i j ≡ (in_tile r t i j && fill i j)

pub record AreFirst (r : Lattice) (fill : PointSet) (marks : List (Bor Marked)) (n : ℕ) : Type 0 where
  pub count : length marks ≡ n
  pub each : (t : ℕ) (m : Bor Marked) → slice_get marks t ≡ Some m → AreOf r fill t m

pushed : (P : ℕ → Bor Marked → Type 0) (xs : List (Bor Marked)) (x : Bor Marked) → ((t : ℕ) (m : Bor Marked) → slice_get xs t ≡ Some m → P t m) → P (length xs) x
    → (t : ℕ) (m : Bor Marked) → slice_get (xs ++ x ∷ []) t ≡ Some m → P t m
pushed P [] x before this zero m is = let e : x ≡ m = cc is in subst (P 0) e this
pushed P [] x before this (suc t) m is = absurd (cc is)
pushed P (y ∷ ys) x before this zero m is = before zero m is
pushed P (y ∷ ys) x before this (suc t) m is = pushed (λ k. P (suc k)) ys x (λ k q h. before (suc k) q h) this t m is

pub one_more_tile : (r : Lattice) (fill : PointSet) (old new : List (Bor Marked)) (m : Bor Marked) (n : ℕ) → AreFirst r fill old n → new ≡ old ++ m ∷ [] → AreOf r fill n m
    → AreFirst r fill new (n + 1)
one_more_tile r fill old new m n first is this = subst (λ (l : List (Bor Marked)). AreFirst r fill l (n + 1)) (sym is) record {
  count = length_push old m ∙ ap (λ k. k + 1) first.count;
  each = pushed (AreOf r fill) old m first.each (subst (λ k. AreOf r fill k m) (sym first.count) this);
}

pub all_first : (r : Lattice) (fill : PointSet) (marks : List (Bor Marked)) (n end : ℕ) → AreFirst r fill marks n → end ≤ n → n ≤ end → end ≡ tiles r → AreFirst r fill marks (tiles r)
all_first r fill marks n end first past below count = subst (AreFirst r fill marks) (same n end (tiles r) past below count) first
  where
    same : (n e t : ℕ) → e ≤ n → n ≤ e → e ≡ t → n ≡ t
    same n e t p q is = omega (arith, p, q, is)

-- ---- marks are counted

-- the marks but for one place
abbrev but_one : Marked → ℤ → ℤ → PointSet
but_one m i j x y = is_marked m x y && not (int_eq x i && int_eq y j)

-- where none is counted, none is marked
pub no_mark : (m : Marked) (i j : ℤ) → count_marked m ≡ 0 → is_marked m i j ≡ true → ⊥
no_mark m i j none h =
    let in_it = and_parts (in_block m.block i j) _ h in
    let sides = and_parts (is_between m.block.left m.block.right i) _ in_it.0 in
    let across = is_between_bounds m.block.left m.block.right i sides.0 in
    let up = is_between_bounds m.block.bottom m.block.top j sides.1 in
    one_is_some (area_between (but_one m i j) m.block.left m.block.bottom m.block.right m.block.top) (count_marked m) none
    (area_more (but_one m i j) (is_marked m) m.block.left m.block.bottom m.block.right m.block.top i j across.0 across.1 up.0 up.1 (λ x y. split x y) (out i j))
  where
    one_is_some : (a c : ℕ) → c ≡ 0 → c ≡ a + 1 → ⊥
    one_is_some a c e f = omega (arith, e, f)

    here : (z : ℤ) → int_eq z z ≡ true
    here z = (Decides-int_eq z z).1 refl

    no_not : (b c : Bool) → c ≡ true → b && not c ≡ false
    no_not true true e = refl
    no_not true false e = absurd (let g : false ≡ true = e in cc)
    no_not false c e = refl

    out : (x y : ℤ) → but_one m x y x y ≡ false
    out x y = no_not (is_marked m x y) _ (and_from _ _ (here x) (here y))

    parted : (b c : Bool) → (c ≡ true → b ≡ true) → b ≡ (b && not c) || c
    parted true true e = refl
    parted true false e = refl
    parted false true e = absurd (let g : false ≡ true = e refl in cc)
    parted false false e = refl

    split : (x y : ℤ) → is_marked m x y ≡ but_one m i j x y || (int_eq x i && int_eq y j)
    split x y = parted (is_marked m x y) (int_eq x i && int_eq y j) (λ e.
        let at = and_parts (int_eq x i) (int_eq y j) e in
        ap (λ z. is_marked m z y) ((Decides-int_eq x i).0 at.0) ∙ (ap (is_marked m i) ((Decides-int_eq y j).0 at.1) ∙ h))
