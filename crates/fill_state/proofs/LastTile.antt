-- The tile that was looked in last is tried before the tile of a place is computed.
use Rattle.std.proofs.Common.{◌≡◌, refl, ap, sym, ◌∙◌, ℕ, ◌<◌, ◌≤◌, ℤ, inl, inr, arith, List, length, Bool, true, false, ◌&&◌, not}
use Rattle.std.specs.Prelude.{◌==◌}
use Rattle.std.proofs.lemmas.Bool.{and_parts, cases_Bool, eqb-true}
use Rattle.fill_raster.specs.Lattice.{in_raster, in_tile, tile_of, tiles}
use Rattle.fill_raster.specs.Marks.{Marked}
use Rattle.fill_raster.proofs.Tiling.{tile_of_below}
use Rattle.fill_state.specs.Filling.{Filling, IsFilling}

-- a tile that has a place is one of the raster's
pub tile_below : (f : Filling) (tile : ℕ) (i j : ℤ) → IsFilling f → in_tile f.raster tile i j ≡ true → tile < tiles f.raster
tile_below f tile i j is on =
    let parts = and_parts (in_raster f.raster i j) (tile_of f.raster i j == tile) on in
    let e : tile_of f.raster i j ≡ tile = eqb-true _ _ parts.1 in
    rw e at (tile_of_below f.raster i j is.raster parts.0)

-- no place is of a tile past the last one
pub no_tile : (f g : Filling) (marks : List Marked) (tile : ℕ) (i j : ℤ) → IsFilling f → f ≡ g → marks ≡ f.marks → length marks ≤ tile → in_tile g.raster tile i j ≡ false
no_tile f g marks tile i j is same all past = ap (λ (h : Filling). in_tile h.raster tile i j) (sym same) ∙ elim (cases_Bool (in_tile f.raster tile i j)) [
  | inl on ↦ absurd (behind tile (tiles f.raster) (length marks) (tile_below f tile i j is on) (ap length all ∙ is.tiles_are) past)
  | inr off ↦ off
]
  where
    behind : (t n l : ℕ) → t < n → l ≡ n → l ≤ t → ⊥
    behind t n l below is past = omega (arith, below, is, past)

-- a filled place is left where it is not left out
pub left_is : (filled marked has out left_out : Bool) → marked ≡ filled → has ≡ marked → has ≡ true → out ≡ left_out → not out ≡ filled && not left_out
left_is filled marked has out left_out is at on gone = rw (sym is, sym at, on, gone) refl
