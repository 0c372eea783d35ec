-- Marks for each tile, of which none is set, and the marks of one tile.
use Rattle.std.proofs.Common.{◌≡◌, refl, sym, ap, ◌∙◌, ℕ, ◌+◌, ◌<◌, ℤ, pos, inl, inr, arith, List, [], ◌∷◌, ◌++◌, length, false, ◌&&◌}
use Rattle.std.specs.Prelude.{◌==◌, get_or}
use Rattle.std.proofs.lemmas.Bool.{and_parts, cases_Bool, cases_eq, eqb-true}
use Rattle.std.proofs.lemmas.List.{get_or_append_left, get_or_default, get_or_push, length_push}
use Rattle.fill_base.proofs.Covering.{area_none}
use Rattle.fill_raster.specs.Axes.{first, past}
use Rattle.fill_raster.specs.Lattice.{Lattice, IsLattice, KeepsPitch, in_raster, in_tile, tile_of, tiles}
use Rattle.fill_raster.specs.Marks.{Marked, in_block, is_marked}
use Rattle.fill_raster.proofs.Ranges.{first_past}
use Rattle.fill_raster.proofs.Tiling.{tile_of_below}
use Rattle.fill_state.specs.Filling.{Filling, IsCounted, IsFilling, is_filled, marks_of}
use Rattle.fill_state.specs.steps.Empty.{AreNone}

-- ---- marks are made tile by tile

abbrev pub with_marks : Lattice → List Marked → Filling
with_marks r marks = record { raster = r; marks = marks }

last_marks : (r : Lattice) (marks : List Marked) (m : Marked) (count : ℕ) → length marks ≡ count → marks_of (with_marks r (marks ++ m ∷ [])) count ≡ m
last_marks r marks m count e = get_or_push marks m _ count e

other_marks : (r : Lattice) (marks : List Marked) (m : Marked) (t count : ℕ) → length marks ≡ count → t < count + 1 → (t ≡ count → ⊥) → (t < count) × (marks_of (with_marks r (marks ++ m ∷ [])) t ≡ marks_of (with_marks r marks) t)
other_marks r marks m t count e lt ne =
    let below : t < count = less t count lt ne in
    (below, get_or_append_left marks (m ∷ []) _ t (rw e below))
  where
    less : (t count : ℕ) → t < count + 1 → (t ≡ count → ⊥) → t < count
    less t count lt ne = elim (cases_eq t count) [ inl e ↦ absurd (ne e) | inr o ↦ grind (arith, lt, o) ]

pub none_more : (r : Lattice) (marks new : List Marked) (m : Marked) (count : ℕ) → new ≡ marks ++ m ∷ [] → AreNone (with_marks r marks) count → ((i j : ℤ) → in_block m.block i j ≡ in_tile r count i j) → ((i j : ℤ) → is_marked m i j ≡ false)
    → AreNone (with_marks r new) (count + 1)
none_more r marks new m count pushed are block none = rw pushed (record {
  count_is = length_push marks m ∙ ap (λ n. n + 1) are.count_is;
  blocks = λ t lt i j. elim (cases_eq t count) [
    | inl same ↦ rw (same, last_marks r marks m count are.count_is) (block i j)
    | inr other ↦ let o = other_marks r marks m t count are.count_is lt other in rw o.1 (are.blocks t o.0 i j)
  ];
  none = λ t lt i j. elim (cases_eq t count) [
    | inl same ↦ rw (same, last_marks r marks m count are.count_is) (none i j)
    | inr other ↦ let o = other_marks r marks m t count are.count_is lt other in rw o.1 (are.none t o.0 i j)
  ];
})

pub none_filled : (f : Filling) → IsLattice f.raster → AreNone f (tiles f.raster) → (i j : ℤ) → is_filled f i j ≡ false
none_filled f is are i j = elim (cases_Bool (in_raster f.raster i j)) [
  | inl on ↦ rw (on, are.none (tile_of f.raster i j) (tile_of_below f.raster i j is on) i j) refl
  | inr off ↦ rw off refl
]

pub none_counted : (f : Filling) → IsLattice f.raster → KeepsPitch f.raster (pos 0) → AreNone f (tiles f.raster) → IsCounted f 0
none_counted f is pitch are = record {
  filling = record { raster = is; pitch = pitch; tiles_are = are.count_is; blocks = are.blocks };
  count_is = sym (area_none (is_filled f) (first f.raster.across) (first f.raster.up) (past f.raster.across) (past f.raster.up) (first_past f.raster.across) (first_past f.raster.up) (none_filled f is are));
}

-- ---- the marks of one tile

tile_marked : (f : Filling) (tile : ℕ) → IsFilling f → tile < tiles f.raster → (i j : ℤ) → is_marked (marks_of f tile) i j ≡ in_tile f.raster tile i j && is_filled f i j
tile_marked f tile is lt i j = elim (cases_Bool (in_tile f.raster tile i j)) [
  | inl on ↦
      let parts = and_parts (in_raster f.raster i j) (tile_of f.raster i j == tile) on in
      let e : tile_of f.raster i j ≡ tile = eqb-true _ _ parts.1 in
      rw (on, parts.0, e) refl
  | inr off ↦ rw (off, is.blocks tile lt i j ∙ off) refl
]

pub record AreOfTile (f : Filling) (tile : ℕ) (m : Marked) : Type 0 where
  pub tile_is : (i j : ℤ) → in_block m.block i j ≡ in_tile f.raster tile i j
  pub marked : (i j : ℤ) → is_marked m i j ≡ in_tile f.raster tile i j && is_filled f i j

pub of_tile : (f g : Filling) (tile : ℕ) (m : Marked) → IsFilling f → f ≡ g → tile < tiles g.raster → m ≡ get_or f.marks tile m → AreOfTile g tile m
of_tile f g tile m is same lt at =
    let below : tile < tiles f.raster = rw same lt in
    let m_is : m ≡ marks_of f tile = at ∙ get_or_default f.marks tile m _ (rw is.tiles_are below) in
    rw (← same) (record {
      tile_is = λ i j. rw m_is (is.blocks tile below i j);
      marked = λ i j. rw m_is (tile_marked f tile is below i j);
    })
