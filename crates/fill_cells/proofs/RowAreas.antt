-- The cells of a row put one after another.
use Rattle.std.proofs.Common.{◌≡◌, Bool, true, ℕ, ◌+◌, ◌-◌, ◌^◌, ◌≤◌, ◌<◌, ℤ, pos, ◌≤ℤ◌, ◌<ℤ◌, List, [], ◌∷◌, ◌++◌, length, get_or, set, refl, arith, ap, ◌∙◌, sym, subst}
use Rattle.std.proofs.lemmas.Bool.{and_parts}
use Rattle.std.specs.Global.{Vec}
use Rattle.std.proofs.lemmas.Int.{ints, clamps}
use Rattle.std.proofs.lemmas.List.{get_or_default, get_or-set_other, get_or_append_left, length-append, length-set}
use Rattle.std.proofs.Math.Seq.{get_or-append_seam}
use Rattle.fill_area.proofs.Begun.{by_lt}
use Rattle.fill_base.specs.declared.rect.Rect.{Rect}
use Rattle.fill_base.specs.Counts.{is_between}
use Rattle.fill_base.specs.Squares.{squares, area_between, area_of}
use Rattle.fill_base.proofs.Between.{is_between_true, is_between_bounds}
use Rattle.fill_base.proofs.Signed.{read, read_is, le_trans, pos_fits}
use Rattle.fill_region.specs.Squares.{covered}
use Rattle.fill_cells.specs.Mesh.{gaps, AreCuts, AreRowAreas}
use Rattle.fill_cells.specs.steps.Parts.{AreShares}
use Rattle.fill_cells.specs.steps.Within.{AreWithin}
use Rattle.fill_cells.proofs.Gaps.{cut_le}
use Rattle.fill_area.proofs.SharedAreas.{same_within, area_small}

-- the edges between which a square of a rectangle lies
squares_bounds : (r : Rect) (x y : ℤ) → squares r x y ≡ true → (r.x1 ≤ℤ x) × (x <ℤ r.x2) × (r.y1 ≤ℤ y) × (y <ℤ r.y2)
squares_bounds r x y held =
    let both = and_parts (is_between r.x1 r.x2 x) (is_between r.y1 r.y2 y) held in
    let across = is_between_bounds r.x1 r.x2 x both.0 in
    let up = is_between_bounds r.y1 r.y2 y both.1 in
    (across.0, across.1, up.0, up.1)

-- the areas of the first `n` cells of a row
pub record AreFirstAreas (p : ℤ → ℤ → Bool) (across : List ℤ) (from to : ℤ) (n : ℕ) (areas : List ℤ) : Type 0 where
  pub count : length areas ≡ n
  pub each : (i : ℕ) (d : ℤ) → i < n → get_or areas i d ≡ pos (area_between p (get_or across i d) from (get_or across (i + 1) d) to)

-- the lists from `n` on are as they were shared out
pub record AreLeft (n : ℕ) (shared lists : List (Vec Rect)) : Type 0 where
  pub count : length lists ≡ length shared
  pub later : (j : ℕ) (d : Vec Rect) → n ≤ j → get_or lists j d ≡ get_or shared j d

pub left_all : (lists : List (Vec Rect)) → AreLeft 0 lists lists
left_all lists = record { count = refl; later = λ j d le. refl }

pub left_more : (n : ℕ) (shared lists : List (Vec Rect)) (v : Vec Rect) → AreLeft n shared lists → AreLeft (n + 1) shared (set lists n v)
left_more n shared lists v left = record {
  count = length-set lists n v ∙ left.count;
  later = λ j d le. get_or-set_other lists n j v d (λ is. omega (arith, le, is)) ∙ left.later j d (omega (arith, le));
}

-- an area, as the code reads it
area_read : (p : ℤ → ℤ → Bool) (part : Rect) (area : ℤ) → area ≡ pos (area_of p part) → read area ≡ pos (area_of p part)
area_read p part area is = ap read is ∙ read_is (pos (area_of p part)) (pos_fits (area_of p part) (small (area_of p part) (area_small p part)))
  where
    small : (n : ℕ) → n ≤ 2 ^ 62 → n < 2 ^ 63
    small n h = omega (arith, h)

-- none yet, and one more
pub first_none : (p : ℤ → ℤ → Bool) (across : List ℤ) (from to : ℤ) (areas : List ℤ) → areas ≡ [] → AreFirstAreas p across from to 0 areas
first_none p across from to areas is = record { count = ap length is; each = λ i d lt. absurd (omega (arith, lt)) }

pub first_more : (p : ℤ → ℤ → Bool) (across : List ℤ) (from to : ℤ) (n : ℕ) (old new : List ℤ) (v : ℤ) → new ≡ old ++ v ∷ []
    → ((d : ℤ) → v ≡ pos (area_between p (get_or across n d) from (get_or across (n + 1) d) to)) → AreFirstAreas p across from to n old → AreFirstAreas p across from to (n + 1) new
first_more p across from to n old new v is value first = subst (λ zs. AreFirstAreas p across from to (n + 1) zs) (sym is) (record {
  count = length-append old (v ∷ []) ∙ omega (arith, first.count);
  each = λ i d lt. by_lt i n (λ below. get_or_append_left old (v ∷ []) d i (omega (arith, below, first.count)) ∙ first.each i d below) (λ above. here i d (omega (arith, lt, above)));
})
  where
    here : (i : ℕ) (d : ℤ) → i ≡ n → get_or (old ++ v ∷ []) i d ≡ pos (area_between p (get_or across i d) from (get_or across (i + 1) d) to)
    here i d same = subst (λ j. get_or (old ++ v ∷ []) j d ≡ pos (area_between p (get_or across j d) from (get_or across (j + 1) d) to)) (sym same)
        (subst (λ j. get_or (old ++ v ∷ []) j d ≡ pos (area_between p (get_or across n d) from (get_or across (n + 1) d) to)) first.count (get_or-append_seam old v [] d ∙ value d))

-- all cells
pub first_all : (p : ℤ → ℤ → Bool) (across : List ℤ) (from to from' to' : ℤ) (i n : ℕ) (areas : List ℤ) → from' ≡ from → to' ≡ to → n ≡ gaps across → n ≤ i → i ≤ n
    → AreFirstAreas p across from' to' i areas → AreRowAreas p across from to areas
first_all p across from to from' to' i n areas from_is to_is count least most first = rw (sym from_is, sym to_is) (record {
  count = first.count ∙ is;
  each = λ k d k_in. first.each k d (omega (arith, k_in, is));
})
  where
    is : i ≡ gaps across
    is = omega (arith, count, least, most)

-- the area of a cell is that of the rectangles shared out to it
pub cell_is : (across : List ℤ) (row part : Rect) (from to area : ℤ) (i : ℕ) (p : ℤ → ℤ → Bool) (rects list : List Rect) (cells : List (Vec Rect)) (cell : Vec Rect)
    → AreCuts across → i < gaps across → row.x1 ≡ get_or across 0 (pos 0) → row.x2 ≡ get_or across (length across - 1) (pos 0) → row.y1 ≡ from → row.y2 ≡ to
    → (part.x1 ≡ get_or across i (pos 0)) × (part.y1 ≡ from) × (part.x2 ≡ get_or across (i + 1) (pos 0)) × (part.y2 ≡ to)
    → AreWithin row p rects → AreShares row across (covered rects) cells → cell ≡ get_or cells i cell → list ≡ cell.items → area ≡ pos (area_of (covered list) part)
    → (d : ℤ) → read area ≡ pos (area_between p (get_or across i d) from (get_or across (i + 1) d) to)
cell_is across row part from to area i p rects list cells cell cuts i_in left right bottom top edges listed shares item items is d =
    area_read (covered list) part area is ∙ ap pos (same_within (covered list) p part within ∙ placed)
  where
    first_in : i < length across
    first_in = omega (arith, i_in)

    second_in : i + 1 < length across
    second_in = omega (arith, i_in)

    in_row : (x y : ℤ) → squares part x y ≡ true → squares row x y ≡ true
    in_row x y inside =
        let held = squares_bounds part x y inside in
        let low : row.x1 ≤ℤ x = le_trans row.x1 part.x1 x (rw (left, edges.0) (cut_le across 0 i (pos 0) cuts (omega arith) first_in)) held.0 in
        let high : x <ℤ row.x2 = lt_le_trans x part.x2 row.x2 held.1 (rw (right, edges.2) (cut_le across (i + 1) (length across - 1) (pos 0) cuts (omega (arith, i_in)) (omega (arith, i_in)))) in
        rw (is_between_true row.x1 row.x2 x low high, is_between_true row.y1 row.y2 y (rw (bottom, ← edges.1) held.2) (rw (top, ← edges.3) held.3)) refl
      where
        lt_le_trans : (a b c : ℤ) → a <ℤ b → b ≤ℤ c → a <ℤ c
        lt_le_trans a b c h k = omega (arith, ints, clamps)

    within : (x y : ℤ) → squares part x y ≡ true → covered list x y ≡ p x y
    within x y inside = ap (λ zs. covered zs x y) (items ∙ ap (λ (v : Vec Rect). v.items) item)
        ∙ (shares.each i (pos 0) cell i_in x y (rw (bottom, top, ← edges.0, ← edges.2) (rw (edges.1, edges.3) at inside)) ∙ listed x y (in_row x y inside))

    placed : area_of p part ≡ area_between p (get_or across i d) from (get_or across (i + 1) d) to
    placed = rw (edges.0, edges.1, edges.2, edges.3, get_or_default across i (pos 0) d first_in, get_or_default across (i + 1) (pos 0) d second_in) refl
