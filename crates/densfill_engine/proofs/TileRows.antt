-- The places of some rows of tiles.
use Rattle.std.proofs.Common.{◌≡◌, refl, ap, ◌∙◌, ℕ, ◌+◌, ◌<◌, arith, inl, inr, ℤ, Bool, true, false, ◌&&◌, ◌||◌, ◌==◌, nat_lt}
use Rattle.std.proofs.Math.Path.{fun_ext}
use Rattle.std.proofs.lemmas.Bool.{and_parts, cases_Bool, cases_eq}
use Rattle.std.proofs.lemmas.Bool.Decides.{nat_tests}
use Rattle.fill_raster.specs.Axes.{band_of, is_on}
use Rattle.fill_raster.specs.Lattice.{IsLattice, Lattice, in_raster, in_tile, tile_of, tiles}
use Rattle.fill_raster.proofs.RasterLaws.{place_has_a_tile}
use Rattle.fill_job.specs.Plans.{PointSet}
use Rattle.fill_parts.specs.Needs.{row_of}
use Rattle.fill_parts.specs.PartChip.{is_row_in}
use Rattle.fill_parts.specs.Smaller.{Rows}
use Rattle.fill_parts.proofs.Leveling.{place_row}

module _ (r : Lattice) (fill : PointSet) (owns : ℕ → Bool) (inside : (i j : ℤ) → fill i j ≡ true → in_raster r i j ≡ true) where
  -- those of the tiles below one, and of it
  pub own_more : (old new : PointSet) (n : ℕ) → ((i j : ℤ) → old i j ≡ (nat_lt (tile_of r i j) n && (fill i j && owns (tile_of r i j))))
      → ((i j : ℤ) → new i j ≡ (old i j || ((in_tile r n i j && fill i j) && owns n))) → (i j : ℤ) → new i j ≡ (nat_lt (tile_of r i j) (n + 1) && (fill i j && owns (tile_of r i j)))
  own_more old new n before more i j =
      more i j ∙ (ap (λ b. b || ((in_tile r n i j && fill i j) && owns n)) (before i j) ∙ elim (cases_eq (tile_of r i j) n) [
        | inl is ↦ rw (is, below n, same n, next n) (here (in_raster r i j) (fill i j) (owns n) (inside i j))
        | inr other ↦ rw (apart (tile_of r i j) n other, skip (tile_of r i j) n other) (there (in_raster r i j) (fill i j) (owns n) (nat_lt (tile_of r i j) n && (fill i j && owns (tile_of r i j))))
      ])
    where
      below : (n : ℕ) → nat_lt n n ≡ false
      below n = grind (arith, nat_tests)

      same : (n : ℕ) → (n == n) ≡ true
      same n = grind (arith, nat_tests)

      next : (n : ℕ) → nat_lt n (n + 1) ≡ true
      next n = grind (arith, nat_tests)

      apart : (a b : ℕ) → (a ≡ b → ⊥) → (a == b) ≡ false
      apart a b other = grind (arith, nat_tests)

      skip : (a b : ℕ) → (a ≡ b → ⊥) → nat_lt a (b + 1) ≡ nat_lt a b
      skip a b other = grind (arith, nat_tests)

      here : (on f o : Bool) → (f ≡ true → on ≡ true) → ((false && (f && o)) || (((on && true) && f) && o)) ≡ (true && (f && o))
      here on true o h = rw (h refl) refl
      here true false o h = refl
      here false false o h = refl

      there : (on f o b : Bool) → (b || (((on && false) && f) && o)) ≡ b
      there true f o true = refl
      there true f o false = refl
      there false f o true = refl
      there false f o false = refl

  -- those of all tiles
  pub all_own : (p : PointSet) (n : ℕ) → IsLattice r → ((i j : ℤ) → p i j ≡ (nat_lt (tile_of r i j) n && (fill i j && owns (tile_of r i j)))) → n ≡ tiles r
      → p ≡ (λ i j. fill i j && owns (tile_of r i j))
  all_own p n lattice each count = fun_ext (λ i. fun_ext (λ j. each i j ∙ elim (cases_Bool (fill i j)) [
    | inl filled ↦ rw (in_some (tile_of r i j) n (tiles r) count (place_has_a_tile r lattice i j (inside i j filled))) refl
    | inr free ↦ rw free (none (nat_lt (tile_of r i j) n))
  ]))
    where
      in_some : (t n c : ℕ) → n ≡ c → t < c → nat_lt t n ≡ true
      in_some t n c e lt = grind (arith, nat_tests)

      none : (b : Bool) → (b && false) ≡ false
      none true = refl
      none false = refl

-- the tiles of some rows have the places of these rows
pub in_rows : (r : Lattice) (rows : Rows) (fill : PointSet) → IsLattice r → ((i j : ℤ) → fill i j ≡ true → in_raster r i j ≡ true)
    → ◌≡◌ {A = PointSet} (λ i j. fill i j && is_row_in rows (row_of r (tile_of r i j))) (λ i j. fill i j && is_row_in rows (band_of r.up j))
in_rows r rows fill is inside = fun_ext (λ i. fun_ext (λ j. same_and (fill i j) _ _ (λ filled.
    ap (is_row_in rows) (place_row r i j is.across (and_parts (is_on r.across i) (is_on r.up j) (inside i j filled)).0))))
  where
    same_and : (f a b : Bool) → (f ≡ true → a ≡ b) → f && a ≡ f && b
    same_and true a b h = h refl
    same_and false a b h = refl
