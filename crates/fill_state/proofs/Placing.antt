-- A place is filled or emptied in the marks of its tile.
use Rattle.std.proofs.Common.{◌≡◌, refl, sym, ap, ◌∙◌, ℕ, ◌<◌, ℤ, inl, inr, arith, subst, length, Bool, true, false, ◌&&◌, ◌||◌, not, slice_set}
use Rattle.std.specs.Prelude.{◌==◌, get_or}
use Rattle.std.specs.Ordering.{int_eq}
use Rattle.std.proofs.lemmas.Bool.{and_parts, cases_eq, eqb-true}
use Rattle.std.proofs.lemmas.Bool.Decides.{Decides-int_eq}
use Rattle.std.proofs.lemmas.List.{get_or_default, get_or-set_same, get_or-set_other, length-set}
use Rattle.fill_raster.specs.Lattice.{Lattice, in_raster, in_tile, tile_of, tiles}
use Rattle.fill_raster.specs.Marks.{Marked, in_block, is_marked}
use Rattle.fill_raster.proofs.Tiling.{tile_of_below}
use Rattle.fill_state.specs.Filling.{Filling, IsFilling, is_filled, marks_of}

-- with other marks in one tile
abbrev pub changed : Filling → ℕ → Marked → Filling
changed f t m = record { raster = f.raster; marks = slice_set f.marks t m }

at_tile : (f : Filling) (t : ℕ) (m : Marked) → t < length f.marks → marks_of (changed f t m) t ≡ m
at_tile f t m lt = get_or-set_same f.marks t m _ lt

other_tile : (f : Filling) (t u : ℕ) (m : Marked) → (u ≡ t → ⊥) → marks_of (changed f t m) u ≡ marks_of f u
other_tile f t u m ne = get_or-set_other f.marks t u m _ ne

pub changed_keeps : (f : Filling) (t : ℕ) (m : Marked) → IsFilling f → t < tiles f.raster → m.block ≡ (marks_of f t).block → IsFilling (changed f t m)
changed_keeps f t m is lt block =
    let within : t < length f.marks = rw is.tiles_are lt in
    record {
      raster = is.raster;
      pitch = is.pitch;
      tiles_are = length-set f.marks t m ∙ is.tiles_are;
      blocks = λ u below i j. elim (cases_eq u t) [
        | inl same ↦ rw (same, at_tile f t m within, block) (is.blocks t lt i j)
        | inr other ↦ rw (other_tile f t u m other) (is.blocks u below i j)
      ];
    }

-- the marks of a place's tile are of that tile's places
pub place_marked : (f : Filling) (i j : ℤ) → IsFilling f → in_raster f.raster i j ≡ true → in_block (marks_of f (tile_of f.raster i j)).block i j ≡ true
place_marked f i j is on = is.blocks (tile_of f.raster i j) (tile_of_below f.raster i j is.raster on) i j ∙ rw on (itself (tile_of f.raster i j))
  where
    itself : (n : ℕ) → (n == n) ≡ true
    itself n = grind arith

-- whether the place is the one that is changed
same_place : (f : Filling) (i j k l : ℤ) (p : Lattice → ℤ → ℤ → Bool) → int_eq k i && int_eq l j ≡ true → p f.raster i j ≡ true → p f.raster k l ≡ true
same_place f i j k l p at on =
    let parts = and_parts (int_eq k i) (int_eq l j) at in
    let x : k ≡ i = (Decides-int_eq k i).0 parts.0 in
    let y : l ≡ j = (Decides-int_eq l j).0 parts.1 in
    rw (x, y) on

same_tile : (f : Filling) (i j k l : ℤ) → int_eq k i && int_eq l j ≡ true → tile_of f.raster k l ≡ tile_of f.raster i j
same_tile f i j k l at =
    let parts = and_parts (int_eq k i) (int_eq l j) at in
    let x : k ≡ i = (Decides-int_eq k i).0 parts.0 in
    let y : l ≡ j = (Decides-int_eq l j).0 parts.1 in
    rw (x, y) refl

-- what a change of marks makes of the fill
pub record IsChanged (f : Filling) (i j : ℤ) (m : Marked) : Type 0 where
  pub here : (k l : ℤ) → tile_of f.raster k l ≡ tile_of f.raster i j → is_filled (changed f (tile_of f.raster i j) m) k l ≡ in_raster f.raster k l && is_marked m k l
  pub there : (k l : ℤ) → (tile_of f.raster k l ≡ tile_of f.raster i j → ⊥) → is_filled (changed f (tile_of f.raster i j) m) k l ≡ is_filled f k l

is_changed : (f : Filling) (i j : ℤ) (m : Marked) → IsFilling f → in_raster f.raster i j ≡ true → IsChanged f i j m
is_changed f i j m is on =
    let within : tile_of f.raster i j < length f.marks = rw is.tiles_are (tile_of_below f.raster i j is.raster on) in
    record {
      here = λ k l same. rw (same, at_tile f (tile_of f.raster i j) m within) refl;
      there = λ k l other. rw (other_tile f (tile_of f.raster i j) (tile_of f.raster k l) m other) refl;
    }

pub place_set : (f : Filling) (i j : ℤ) (m : Marked) → IsFilling f → in_raster f.raster i j ≡ true
    → ((k l : ℤ) → is_marked m k l ≡ is_marked (marks_of f (tile_of f.raster i j)) k l || (int_eq k i && int_eq l j))
    → (k l : ℤ) → is_filled (changed f (tile_of f.raster i j) m) k l ≡ is_filled f k l || (int_eq k i && int_eq l j)
place_set f i j m is on marked k l =
    let c = is_changed f i j m is on in
    elim (cases_eq (tile_of f.raster k l) (tile_of f.raster i j)) [
      | inl same ↦ c.here k l same ∙ rw (marked k l, same) (point (in_raster f.raster k l) (is_marked (marks_of f (tile_of f.raster i j)) k l) (int_eq k i && int_eq l j) (λ at. same_place f i j k l in_raster at on))
      | inr other ↦ c.there k l other ∙ elsewhere (is_filled f k l) (int_eq k i && int_eq l j) (λ at. other (same_tile f i j k l at))
    ]
  where
    point : (a o e : Bool) → (e ≡ true → a ≡ true) → a && (o || e) ≡ (a && o) || e
    point true o e h = refl
    point false true true h = h refl
    point false false true h = h refl
    point false o false h = refl

    elsewhere : (o e : Bool) → (e ≡ true → ⊥) → o ≡ o || e
    elsewhere o true h = absurd (h refl)
    elsewhere true false h = refl
    elsewhere false false h = refl

pub place_cleared : (f : Filling) (i j : ℤ) (m : Marked) → IsFilling f → in_raster f.raster i j ≡ true
    → ((k l : ℤ) → is_marked m k l ≡ is_marked (marks_of f (tile_of f.raster i j)) k l && not (int_eq k i && int_eq l j))
    → (k l : ℤ) → is_filled (changed f (tile_of f.raster i j) m) k l ≡ is_filled f k l && not (int_eq k i && int_eq l j)
place_cleared f i j m is on marked k l =
    let c = is_changed f i j m is on in
    elim (cases_eq (tile_of f.raster k l) (tile_of f.raster i j)) [
      | inl same ↦ c.here k l same ∙ rw (marked k l, same) (point (in_raster f.raster k l) (is_marked (marks_of f (tile_of f.raster i j)) k l) (int_eq k i && int_eq l j))
      | inr other ↦ c.there k l other ∙ elsewhere (is_filled f k l) (int_eq k i && int_eq l j) (λ at. other (same_tile f i j k l at))
    ]
  where
    point : (a o e : Bool) → a && (o && not e) ≡ (a && o) && not e
    point true o e = refl
    point false o e = refl

    elsewhere : (o e : Bool) → (e ≡ true → ⊥) → o ≡ o && not e
    elsewhere o true h = absurd (h refl)
    elsewhere true false h = refl
    elsewhere false false h = refl

-- a place of a tile is on the raster, and the tile is its
pub on_tile : (f g : Filling) (t : ℕ) (i j : ℤ) → f ≡ g → in_tile g.raster t i j ≡ true → (in_raster g.raster i j ≡ true) × (t ≡ tile_of f.raster i j)
on_tile f g t i j same on =
    let parts = and_parts (in_raster g.raster i j) (tile_of g.raster i j == t) on in
    let e : tile_of g.raster i j ≡ t = eqb-true _ _ parts.1 in
    (parts.0, sym (ap (λ (h : Filling). tile_of h.raster i j) same ∙ e))

-- the marks that a call gives out, and what is left with others in their place
pub record AreOf (f : Filling) (i j : ℤ) (t : ℕ) (m : Marked) : Type 0 where
  pub keeps : IsFilling f
  pub on : in_raster f.raster i j ≡ true
  pub tile : t ≡ tile_of f.raster i j
  pub marks : m ≡ get_or f.marks t m

marks_are : (f : Filling) (i j : ℤ) (t : ℕ) (m : Marked) → AreOf f i j t m → m ≡ marks_of f (tile_of f.raster i j)
marks_are f i j t m of =
    let within : tile_of f.raster i j < length f.marks = rw of.keeps.tiles_are (tile_of_below f.raster i j of.keeps.raster of.on) in
    (rw of.tile at of.marks) ∙ get_or_default f.marks (tile_of f.raster i j) m _ within

are_of : (f g : Filling) (i j : ℤ) (t : ℕ) (m : Marked) → IsFilling f → f ≡ g → in_raster g.raster i j ≡ true → t ≡ tile_of f.raster i j → m ≡ get_or f.marks t m → AreOf f i j t m
are_of f g i j t m keeps same on tile marks = record { keeps = keeps; on = subst (λ (h : Filling). in_raster h.raster i j ≡ true) (sym same) on; tile = tile; marks = marks }

pub given_place : (f g : Filling) (i j : ℤ) (t : ℕ) (m : Marked) → IsFilling f → f ≡ g → in_raster g.raster i j ≡ true → t ≡ tile_of f.raster i j → m ≡ get_or f.marks t m → in_block m.block i j ≡ true
given_place f g i j t m keeps same on tile marks =
    let of = are_of f g i j t m keeps same on tile marks in
    ap (λ q. in_block q.block i j) (marks_are f i j t m of) ∙ place_marked f i j keeps of.on

pub given_has : (f g : Filling) (i j : ℤ) (t : ℕ) (m : Marked) → IsFilling f → f ≡ g → in_raster g.raster i j ≡ true → t ≡ tile_of f.raster i j → m ≡ get_or f.marks t m → is_marked m i j ≡ is_filled g i j
given_has f g i j t m keeps same on tile marks =
    let of = are_of f g i j t m keeps same on tile marks in
    let here : is_marked (marks_of f (tile_of f.raster i j)) i j ≡ is_filled f i j = rw of.on refl in
    ap (λ q. is_marked q i j) (marks_are f i j t m of) ∙ (here ∙ ap (λ q. is_filled q i j) same)

pub given_keeps : (f g : Filling) (i j : ℤ) (t : ℕ) (m : Marked) (n : Marked) → IsFilling f → f ≡ g → in_raster g.raster i j ≡ true → t ≡ tile_of f.raster i j → m ≡ get_or f.marks t m → n.block ≡ m.block → IsFilling (changed f t n)
given_keeps f g i j t m n keeps same on tile marks block =
    let of = are_of f g i j t m keeps same on tile marks in
    rw tile (changed_keeps f (tile_of f.raster i j) n keeps (tile_of_below f.raster i j keeps.raster of.on) (block ∙ ap (λ q. q.block) (marks_are f i j t m of)))

pub given_set : (f g : Filling) (i j : ℤ) (t : ℕ) (m : Marked) (n : Marked) → IsFilling f → f ≡ g → in_raster g.raster i j ≡ true → t ≡ tile_of f.raster i j → m ≡ get_or f.marks t m → ((k l : ℤ) → is_marked n k l ≡ is_marked m k l || (int_eq k i && int_eq l j))
    → (k l : ℤ) → is_filled (changed f t n) k l ≡ is_filled g k l || (int_eq k i && int_eq l j)
given_set f g i j t m n keeps same on tile marks marked k l =
    let of = are_of f g i j t m keeps same on tile marks in
    rw tile (place_set f i j n keeps of.on (λ k l. marked k l ∙ ap (λ q. is_marked q k l || (int_eq k i && int_eq l j)) (marks_are f i j t m of)) k l)
    ∙ ap (λ q. is_filled q k l || (int_eq k i && int_eq l j)) same

pub given_cleared : (f g : Filling) (i j : ℤ) (t : ℕ) (m : Marked) (n : Marked) → IsFilling f → f ≡ g → in_raster g.raster i j ≡ true → t ≡ tile_of f.raster i j → m ≡ get_or f.marks t m → ((k l : ℤ) → is_marked n k l ≡ is_marked m k l && not (int_eq k i && int_eq l j))
    → (k l : ℤ) → is_filled (changed f t n) k l ≡ is_filled g k l && not (int_eq k i && int_eq l j)
given_cleared f g i j t m n keeps same on tile marks marked k l =
    let of = are_of f g i j t m keeps same on tile marks in
    rw tile (place_cleared f i j n keeps of.on (λ k l. marked k l ∙ ap (λ q. is_marked q k l && not (int_eq k i && int_eq l j)) (marks_are f i j t m of)) k l)
    ∙ ap (λ q. is_filled q k l && not (int_eq k i && int_eq l j)) same
