-- How many single references there are.
use Rattle.std.proofs.Common.{◌≡◌, refl, sym, ap, ◌∙◌, ℕ, zero, suc, ◌+◌, ◌*◌, ◌≤◌, min, arith, ℤ, pos, ◌+ℤ◌, Bool, true, false, List, [], ◌∷◌, length, map}
use Rattle.std.specs.Prelude.{if◌then◌else◌}
use Rattle.std.specs.List.{filter, flat_map, range_with_len}
use Rattle.std.proofs.Math.Nat.{mul_comm}
use Rattle.std.proofs.lemmas.List.{length-append, length-map}
use Rattle.std.proofs.lemmas.List.FromFn.{length-range_with_len}
use Rattle.fill_base.specs.declared.place.Point.{Point}
use Rattle.fill_raster.specs.Axes.{extent, first}
use Rattle.fill_raster.specs.Lattice.{Lattice, IsLattice}
use Rattle.fill_stacks.specs.Places.{PlaceSet, filled_places, places_along}
use Rattle.fill_stacks.specs.Runs.{numbers_from}
use Rattle.gds_cells.specs.Links.{single, singles}
use Rattle.gds_cells.specs.declared.link.Link.{Link}
use Rattle.gds_join.specs.steps.Far.{origin_of}

pub link_counted : (l : Link) (points : List Point) → map origin_of (singles l) ≡ points → l.columns * l.rows ≡ length points
link_counted l points stand =
    sym (length-range_with_len 0 (l.columns * l.rows)) ∙ (sym (length-map (range_with_len 0 (l.columns * l.rows)) (single l)) ∙ (sym (length-map (singles l) origin_of) ∙ ap length stand))

-- a number that is cut off at the end of its type, and more cut off again
pub cut_again : (a b c d n : ℕ) → c ≡ min a 4294967295 → d ≡ min (c + b) 4294967295 → n ≡ a + b → d ≡ min n 4294967295
cut_again a b c d n e f g = omega (arith, e, f, g)

-- ---- a fill library has no more than there are places

least : (n : ℕ) → 0 ≤ n
least n = omega arith

one_row : (a b k n : ℕ) → a ≤ n → b ≤ k * n → a + b ≤ suc k * n
one_row a b k n h g = let e : suc k * n ≡ n + k * n = omega arith in omega (arith, e, h, g)

kept_few : (p : ℤ → Bool) (xs : List ℤ) → length (filter p xs) ≤ length xs
kept_few p [] = omega arith
kept_few p (x ∷ xs) = by (p x) (kept_few p xs)
  where
    by : (b : Bool) → length (filter p xs) ≤ length xs → length (if b then x ∷ filter p xs else filter p xs) ≤ suc (length xs)
    by true h = omega (arith, h)
    by false h = omega (arith, h)

numbers_are : (z : ℤ) (n : ℕ) → length (numbers_from z n) ≡ n
numbers_are z zero = refl
numbers_are z (suc n) = ap suc (numbers_are (z +ℤ pos 1) n)

-- the filled places of a row
abbrev row_places : PlaceSet → List ℤ → ℤ → List (ℤ × ℤ)
row_places filled xs j = map (λ i. (i, j)) (filter (λ i. filled i j) xs)

row_few : (filled : PlaceSet) (xs : List ℤ) (j : ℤ) → length (row_places filled xs j) ≤ length xs
row_few filled xs j = let pair : ℤ → ℤ × ℤ = λ i. (i, j) in rw (length-map (filter (λ i. filled i j) xs) pair) (kept_few (λ i. filled i j) xs)

rows_few : (filled : PlaceSet) (xs : List ℤ) (n : ℕ) → length xs ≡ n → (js : List ℤ) → length (flat_map (row_places filled xs) js) ≤ length js * n
rows_few filled xs n e [] = least (0 * n)
rows_few filled xs n e (j ∷ js) =
    rw (length-append (row_places filled xs j) (flat_map (row_places filled xs) js))
    (one_row (length (row_places filled xs j)) (length (flat_map (row_places filled xs) js)) (length js) n (rw e at (row_few filled xs j)) (rows_few filled xs n e js))

pub places_few : (r : Lattice) (filled : PlaceSet) → IsLattice r → length (filled_places filled r) ≤ 16777216
places_few r filled is =
    below (length (filled_places filled r)) (extent r.across) (extent r.up) (length (places_along r.up)) (rows_few filled (places_along r.across) (extent r.across) (numbers_are (first r.across) (extent r.across)) (places_along r.up))
    (numbers_are (first r.up) (extent r.up)) is.few
  where
    below : (n a u m : ℕ) → n ≤ m * a → m ≡ u → a * u ≤ 16777216 → n ≤ 16777216
    below n a u m h e few = ends n (a * u) (rw (e, mul_comm u a) at h) few
      where
        ends : (n p : ℕ) → n ≤ p → p ≤ 16777216 → n ≤ 16777216
        ends n p h g = omega (arith, h, g)
