-- Metal in halos.
use Rattle.std.proofs.Common.{◌≡◌, refl, ap, sym, subst, ◌∙◌, ℕ, ◌+◌, ◌<◌, ◌≤◌, ◌≤ℤ◌, ◌<ℤ◌, ℤ, inl, inr, arith, List, [], ◌∷◌, ◌++◌, get_or, Bool, true, false, ◌&&◌, ◌||◌}
use Rattle.std.proofs.lemmas.Bool.{and_parts, cases_Bool, cases_eq}
use Rattle.std.specs.Prelude.{not}
use Rattle.std.proofs.lemmas.Int.{ints}
use Rattle.std.proofs.lemmas.List.{get_or_append_left, get_or_default, get_or_push, length_push}
use Rattle.fill_base.specs.Coordinates.{IsInRange}
use Rattle.fill_base.specs.Squares.{squares}
use Rattle.fill_base.specs.declared.rect.Rect.{Rect}
use Rattle.fill_region.specs.Runs.{Sides, holds}
use Rattle.fill_base.specs.Counts.{is_between}
use Rattle.fill_base.proofs.Between.{is_between_bounds}
use Rattle.fill_raster.specs.Lattice.{Lattice, in_halo, tiles}
use Rattle.fill_text.specs.declared.script.Edit.{Edit}
use Rattle.fill_text.specs.declared.script.Edit.TheVariants.{Add, Cut, Keep}
use Rattle.fill_core.specs.Machine.{metal_after}
use Rattle.fill_job.specs.Plans.{PointSet}
use Rattle.fill_job.proofs.TileReads.{and_when}
use Rattle.fill_state.specs.Pieces.{AreFirstPieces, ArePieces, IsPiece}

and_where : (a b c : Bool) → (c ≡ true → a ≡ b) → a && c ≡ b && c
and_where a b true h = rw (h refl) refl
and_where a b false h = rw (no a, no b) refl
  where
    no : (x : Bool) → x && false ≡ false
    no true = refl
    no false = refl

pub rect_in_range : (rect : Rect) (x y : ℤ) → squares rect x y ≡ true → IsInRange x y
rect_in_range rect x y h =
    let sides = and_parts (is_between rect.x1 rect.x2 x) (is_between rect.y1 rect.y2 y) h in
    let across = is_between_bounds rect.x1 rect.x2 x sides.0 in let up = is_between_bounds rect.y1 rect.y2 y sides.1 in
    record { left = low _ _ _ rect.left across.0; right = high _ _ _ across.1 rect.right; bottom = low _ _ _ rect.bottom up.0; top = high _ _ _ up.1 rect.top }
  where
    low : (a b c : ℤ) → a ≤ℤ b → b ≤ℤ c → a ≤ℤ c
    low a b c h k = omega (arith, ints)

    high : (a b c : ℤ) → a <ℤ b → b ≤ℤ c → a <ℤ c
    high a b c h k = omega (arith, ints)

-- the metal within the halo
pub metal_near : (r : Lattice) (d : ℤ) (metal clipped : List Sides) (halo : Rect) (tile : ℕ) → ((x y : ℤ) → holds metal x y ≡ true → IsInRange x y)
    → ((x y : ℤ) → IsInRange x y → squares halo x y ≡ in_halo r tile d x y)
    → ((x y : ℤ) → holds clipped x y ≡ (holds metal x y && squares halo x y)) → IsPiece r d (holds metal) tile clipped
metal_near r d metal clipped halo tile in_range bounds clip x y =
    clip x y ∙ and_when (holds metal x y) (squares halo x y) (in_halo r tile d x y) (λ h. bounds x y (in_range x y h))

-- a square that the rectangle and the halo have
in_both : (r : Lattice) (d : ℤ) (rect halo : Rect) (tile : ℕ) → ((x y : ℤ) → IsInRange x y → squares halo x y ≡ in_halo r tile d x y) → (x y : ℤ) → squares rect x y && squares halo x y ≡ squares rect x y && in_halo r tile d x y
in_both r d rect halo tile bounds x y = and_when (squares rect x y) (squares halo x y) (in_halo r tile d x y) (λ h. bounds x y (rect_in_range rect x y h))

-- the part of the rectangle in the halo comes to the piece, or goes from it
pub added_piece : (r : Lattice) (d : ℤ) (was : PointSet) (piece new : List Sides) (rect halo : Rect) (tile : ℕ) (part : PointSet) → IsPiece r d was tile piece → ((x y : ℤ) → IsInRange x y → squares halo x y ≡ in_halo r tile d x y)
    → ((x y : ℤ) → part x y ≡ squares rect x y && squares halo x y) → ((x y : ℤ) → holds new x y ≡ holds piece x y || part x y) → IsPiece r d (metal_after (Add rect) was) tile new
added_piece r d was piece new rect halo tile part is bounds both made x y =
    made x y ∙ rw (is x y, both x y, in_both r d rect halo tile bounds x y) (or_within (was x y) (squares rect x y) (in_halo r tile d x y))
  where
    or_within : (w r h : Bool) → (w && h) || (r && h) ≡ (w || r) && h
    or_within true true true = refl
    or_within true true false = refl
    or_within true false true = refl
    or_within true false false = refl
    or_within false r h = refl

pub cut_piece : (r : Lattice) (d : ℤ) (was : PointSet) (piece new : List Sides) (rect halo : Rect) (tile : ℕ) (part : PointSet) → IsPiece r d was tile piece → ((x y : ℤ) → IsInRange x y → squares halo x y ≡ in_halo r tile d x y)
    → ((x y : ℤ) → part x y ≡ squares rect x y && squares halo x y) → ((x y : ℤ) → holds new x y ≡ holds piece x y && not (part x y)) → IsPiece r d (metal_after (Cut rect) was) tile new
cut_piece r d was piece new rect halo tile part is bounds both made x y =
    made x y ∙ rw (is x y, both x y, in_both r d rect halo tile bounds x y) (but_within (was x y) (squares rect x y) (in_halo r tile d x y))
  where
    but_within : (w r h : Bool) → (w && h) && not (r && h) ≡ (w && not r) && h
    but_within true true true = refl
    but_within true true false = refl
    but_within true false true = refl
    but_within true false false = refl
    but_within false r h = refl

-- a halo that shares no square with the rectangle has the same metal
pub kept_piece : (r : Lattice) (d : ℤ) (was : PointSet) (piece : List Sides) (edit : Edit) (rect halo : Rect) (tile : ℕ) → IsPiece r d was tile piece → ((x y : ℤ) → squares rect x y ≡ false → metal_after edit was x y ≡ was x y)
    → ((x y : ℤ) → IsInRange x y → squares halo x y ≡ in_halo r tile d x y) → ((x y : ℤ) → squares rect x y && squares halo x y ≡ false) → IsPiece r d (metal_after edit was) tile piece
kept_piece r d was piece edit rect halo tile is beside bounds apart x y =
    is x y ∙ and_where (was x y) (metal_after edit was x y) (in_halo r tile d x y) (λ h. elim (cases_Bool (squares rect x y)) [
      | inr off ↦ sym (beside x y off)
      | inl on ↦ absurd (let e : true ≡ false = sym (rw (on, bounds x y (rect_in_range rect x y on), h) refl) ∙ apart x y in cc)
    ])

pub added_beside : (rect : Rect) (was : PointSet) (x y : ℤ) → squares rect x y ≡ false → metal_after (Add rect) was x y ≡ was x y
added_beside rect was x y off = rw off (or_no (was x y))
  where
    or_no : (b : Bool) → b || false ≡ b
    or_no true = refl
    or_no false = refl

pub cut_beside : (rect : Rect) (was : PointSet) (x y : ℤ) → squares rect x y ≡ false → metal_after (Cut rect) was x y ≡ was x y
cut_beside rect was x y off = rw off (and_yes (was x y))
  where
    and_yes : (b : Bool) → b && true ≡ b
    and_yes true = refl
    and_yes false = refl

-- a keep-out leaves the metal as it was
pub still_piece : (r : Lattice) (d : ℤ) (was : PointSet) (piece : List Sides) (rect : Rect) (tile : ℕ) → IsPiece r d was tile piece → IsPiece r d (metal_after (Keep rect) was) tile piece
still_piece r d was piece rect tile is x y = is x y

-- one piece more
pub pieces_more : (r : Lattice) (d : ℤ) (metal : PointSet) (n : ℕ) (pieces new : List (List Sides)) (piece : List Sides) → new ≡ pieces ++ piece ∷ [] → AreFirstPieces r d metal n pieces → IsPiece r d metal n piece → AreFirstPieces r d metal (n + 1) new
pieces_more r d metal n pieces new piece pushed are is = rw pushed (record {
  count = length_push pieces piece ∙ ap (λ k. k + 1) are.count;
  each = λ t lt. elim (cases_eq t n) [
    | inl same ↦ rw (same, get_or_push pieces piece [] n are.count) is
    | inr other ↦ let below : t < n = less t n lt other in rw (get_or_append_left pieces (piece ∷ []) [] t (rw are.count below)) (are.each t below)
  ];
})
  where
    less : (t n : ℕ) → t < n + 1 → (t ≡ n → ⊥) → t < n
    less t n lt ne = grind (arith, lt, ne)

-- the loops over all tiles
pub next_tile : (t n m : ℕ) → t < m → m ≡ n → t + 1 ≤ n
next_tile t n m lt e = omega (arith, lt, e)

pub all_tiles : (r : Lattice) (d : ℤ) (metal : PointSet) (t n m : ℕ) (pieces : List (List Sides)) → t ≤ n → m ≤ t → m ≡ n → AreFirstPieces r d metal t pieces → AreFirstPieces r d metal n pieces
all_tiles r d metal t n m pieces to past e are = subst (λ (k : ℕ). AreFirstPieces r d metal k pieces) (same t n m to past e) are
  where
    same : (t n m : ℕ) → t ≤ n → m ≤ t → m ≡ n → t ≡ n
    same t n m to past e = omega (arith, to, past, e)

-- the piece of a tile, as it stands in the list
pub piece_at : (r : Lattice) (d : ℤ) (metal : PointSet) (pieces : List (List Sides)) (tile : ℕ) (none piece : List Sides) → ArePieces r d metal pieces → tile < tiles r → piece ≡ get_or pieces tile none → IsPiece r d metal tile piece
piece_at r d metal pieces tile none piece are lt is = rw (is ∙ get_or_default pieces tile none [] (rw are.count lt)) (are.each tile lt)

pub below : (t m n : ℕ) → (t < m) → m ≡ n → t < n
below t m n lt e = omega (arith, lt, e)
