-- The heights and the levels of a row's pieces follow from those of the row above and of the row below.
use Rattle.std.proofs.Common.{◌≡◌, refl, ap, sym, ◌∙◌, ℕ, suc, ◌+◌, ◌%◌, min, ℤ, pos, ◌+ℤ◌, ◌-ℤ◌, ◌≤ℤ◌, ◌<ℤ◌, arith, Bool, true, false, ◌||◌, List, [], ◌∷◌, Some, None}
use Rattle.std.specs.Prelude.{find, if◌then◌else◌, int_lt, int_le, option_map}
use Rattle.std.specs.List.{list_any}
use Rattle.std.proofs.lemmas.Int.{ints, clamps}
use Rattle.std.proofs.lemmas.Simd.{map-map}
use Rattle.fill_base.specs.Counts.{span_len}
use Rattle.fill_raster.specs.Axes.{first, past}
use Rattle.fill_raster.specs.Lattice.{Lattice}
use Rattle.fill_stacks.specs.Runs.{Run}
use Rattle.fill_stacks.specs.Places.{PlaceSet, row_pieces}
use Rattle.fill_stacks.specs.Laws.{HeightsFollow, LevelsFollow}
use Rattle.fill_stacks.specs.Stacks.{IsOne, depth, has_piece, height, is_run}
use Rattle.fill_stacks.specs.Counting.{as_piece, counted, counted_row, found, heights_at, is_piece, levels_at, next_height, next_level, rows_above, rows_below}
use Rattle.fill_stacks.specs.declared.pieces.Counted.{Counted}
use Rattle.fill_stacks.specs.declared.pieces.Piece.{Piece}
use Rattle.fill_stacks.proofs.Lists.{map_same}
use Rattle.fill_stacks.proofs.Stacking.{one_any, run_is}

-- a list of pieces, each with its number, gives a piece of it that piece's number, and no other any
found_in : (rows : Run → ℕ) (p : Run) (qs : List Run) → list_any (is_run p) qs ≡ true → found (counted_row rows qs) (as_piece p) ≡ Some (rows p)
found_in rows p [] any = absurd (let e : false ≡ true = any in cc)
found_in rows p (q ∷ qs) any = by (is_run p q) refl any (found_in rows p qs)
  where
    by : (b : Bool) → is_run p q ≡ b → (b || list_any (is_run p) qs) ≡ true → (list_any (is_run p) qs ≡ true → found (counted_row rows qs) (as_piece p) ≡ Some (rows p))
        → option_map (λ (c : Counted). c.rows) (if b then Some (counted (as_piece q) (rows q)) else find (λ (c : Counted). is_piece (as_piece p) c.piece) (counted_row rows qs)) ≡ Some (rows p)
    by true h any later = ap (λ x. Some (rows x)) (run_is p q h)
    by false h any later = later any

found_out : (rows : Run → ℕ) (p : Run) (qs : List Run) → list_any (is_run p) qs ≡ false → found (counted_row rows qs) (as_piece p) ≡ None
found_out rows p [] any = refl
found_out rows p (q ∷ qs) any = by (is_run p q) any (found_out rows p qs)
  where
    by : (b : Bool) → (b || list_any (is_run p) qs) ≡ false → (list_any (is_run p) qs ≡ false → found (counted_row rows qs) (as_piece p) ≡ None)
        → option_map (λ (c : Counted). c.rows) (if b then Some (counted (as_piece q) (rows q)) else find (λ (c : Counted). is_piece (as_piece p) c.piece) (counted_row rows qs)) ≡ None
    by true any later = absurd (let e : true ≡ false = any in cc)
    by false any later = later any

one_more : (h : ℕ) → min (suc h) 32767 ≡ min (min h 32767) 32766 + 1
one_more h = grind arith

level_more : (d : ℕ) → suc d % 32767 ≡ (d % 32767 + 1) % 32767
level_more d = omega arith

-- by the row above
height_step : (filled : PlaceSet) (r : Lattice) (j : ℤ) (p : Run) → (j +ℤ pos 1) <ℤ past r.up → has_piece filled r p j ≡ true
    → min (height filled r j p) 32767 ≡ next_height (found (counted_row (λ q. min (height filled r (j +ℤ pos 1) q) 32767) (row_pieces filled r (j +ℤ pos 1))) (as_piece p))
height_step filled r j p lt has =
    let a : span_len j (past r.up) ≡ suc (span_len (j +ℤ pos 1) (past r.up)) = more j (past r.up) lt in
    let b : span_len (j +ℤ pos 1) (past r.up) ≡ suc (span_len (j +ℤ pos 2) (past r.up)) = two j (past r.up) lt in
    rw (a, has) (by (has_piece filled r p (j +ℤ pos 1)) refl)
  where
    more : (j e : ℤ) → (j +ℤ pos 1) <ℤ e → span_len j e ≡ suc (span_len (j +ℤ pos 1) e)
    more j e lt = omega (arith, ints, clamps)

    two : (j e : ℤ) → (j +ℤ pos 1) <ℤ e → span_len (j +ℤ pos 1) e ≡ suc (span_len (j +ℤ pos 2) e)
    two j e lt = omega (arith, ints, clamps)

    rest : ℕ
    rest = height filled r (j +ℤ pos 1) p

    none : has_piece filled r p (j +ℤ pos 1) ≡ false → height filled r (j +ℤ pos 1) p ≡ 0
    none h = let b = two j (past r.up) lt in rw (b, h) refl

    by : (b : Bool) → has_piece filled r p (j +ℤ pos 1) ≡ b → min (suc (height filled r (j +ℤ pos 1) p)) 32767 ≡ next_height (found (counted_row (λ q. min (height filled r (j +ℤ pos 1) q) 32767) (row_pieces filled r (j +ℤ pos 1))) (as_piece p))
    by true h = one_more (height filled r (j +ℤ pos 1) p) ∙ ap next_height (sym (found_in (λ q. min (height filled r (j +ℤ pos 1) q) 32767) p (row_pieces filled r (j +ℤ pos 1)) h))
    by false h = ap (λ n. min (suc n) 32767) (none h) ∙ ap next_height (sym (found_out (λ q. min (height filled r (j +ℤ pos 1) q) 32767) p (row_pieces filled r (j +ℤ pos 1)) h))

-- by the row below
level_step : (filled : PlaceSet) (r : Lattice) (j : ℤ) (p : Run) → first r.up <ℤ j
    → depth filled r j p % 32767 ≡ next_level (found (counted_row (λ q. depth filled r (j -ℤ pos 1) q % 32767) (row_pieces filled r (j -ℤ pos 1))) (as_piece p))
level_step filled r j p lt =
    let a : span_len (first r.up) j ≡ suc (span_len (first r.up) (j -ℤ pos 1)) = more (first r.up) j lt in
    rw a (by (has_piece filled r p (j -ℤ pos 1)) refl)
  where
    more : (f j : ℤ) → f <ℤ j → span_len f j ≡ suc (span_len f (j -ℤ pos 1))
    more f j lt = omega (arith, ints, clamps)

    by : (b : Bool) → has_piece filled r p (j -ℤ pos 1) ≡ b → (if b then suc (depth filled r (j -ℤ pos 1) p) else 0) % 32767 ≡ next_level (found (counted_row (λ q. depth filled r (j -ℤ pos 1) q % 32767) (row_pieces filled r (j -ℤ pos 1))) (as_piece p))
    by true h = level_more (depth filled r (j -ℤ pos 1) p) ∙ ap next_level (sym (found_in (λ q. depth filled r (j -ℤ pos 1) q % 32767) p (row_pieces filled r (j -ℤ pos 1)) h))
    by false h = ap next_level (sym (found_out (λ q. depth filled r (j -ℤ pos 1) q % 32767) p (row_pieces filled r (j -ℤ pos 1)) h))

-- ---- whole rows

pub heights_row : HeightsFollow
heights_row filled r j lt =
    map-map (λ (p : Piece). counted p (next_height (found (heights_at filled r (j +ℤ pos 1)) p))) as_piece (row_pieces filled r j)
    ∙ (map_same _ (λ p. counted (as_piece p) (rows_above filled r j p)) (row_pieces filled r j) (λ p is. ap (counted (as_piece p)) (sym (step p is (int_lt (j +ℤ pos 1) (past r.up)) refl)))
    ∙ sym (here (int_lt j (past r.up)) (is_lt j (past r.up) lt)))
  where
    is_lt : (x y : ℤ) → x <ℤ y → int_lt x y ≡ true
    is_lt x y h = grind (arith, ints)

    lt_is : (x y : ℤ) → int_lt x y ≡ true → x <ℤ y
    lt_is x y h = grind (arith, ints)

    last : (x y : ℤ) → x <ℤ y → int_lt (x +ℤ pos 1) y ≡ false → span_len x y ≡ 1
    last x y h k = grind (arith, ints)

    here : (b : Bool) → b ≡ true → (if b then counted_row (rows_above filled r j) (row_pieces filled r j) else []) ≡ counted_row (rows_above filled r j) (row_pieces filled r j)
    here b h = rw h refl

    step : (p : Run) → IsOne p (row_pieces filled r j) → (b : Bool) → int_lt (j +ℤ pos 1) (past r.up) ≡ b
        → rows_above filled r j p ≡ next_height (found (if b then counted_row (rows_above filled r (j +ℤ pos 1)) (row_pieces filled r (j +ℤ pos 1)) else []) (as_piece p))
    step p is true h = height_step filled r j p (lt_is (j +ℤ pos 1) (past r.up) h) (one_any p (row_pieces filled r j) is)
    step p is false h =
        let one : span_len j (past r.up) ≡ 1 = last j (past r.up) lt h in
        let has : has_piece filled r p j ≡ true = one_any p (row_pieces filled r j) is in
        rw (one, has) refl

pub levels_row : LevelsFollow
levels_row filled r j le =
    map-map (λ (p : Piece). counted p (next_level (found (levels_at filled r (j -ℤ pos 1)) p))) as_piece (row_pieces filled r j)
    ∙ (map_same _ (λ p. counted (as_piece p) (rows_below filled r j p)) (row_pieces filled r j) (λ p is. ap (counted (as_piece p)) (sym (step p (int_le (first r.up) (j -ℤ pos 1)) refl)))
    ∙ sym (here (int_le (first r.up) j) (is_le (first r.up) j le)))
  where
    is_le : (x y : ℤ) → x ≤ℤ y → int_le x y ≡ true
    is_le x y h = grind (arith, ints)

    le_is : (x y : ℤ) → int_le x (y -ℤ pos 1) ≡ true → x <ℤ y
    le_is x y h = grind (arith, ints)

    lowest : (x y : ℤ) → x ≤ℤ y → int_le x (y -ℤ pos 1) ≡ false → span_len x y ≡ 0
    lowest x y h k = grind (arith, ints)

    here : (b : Bool) → b ≡ true → (if b then counted_row (rows_below filled r j) (row_pieces filled r j) else []) ≡ counted_row (rows_below filled r j) (row_pieces filled r j)
    here b h = rw h refl

    step : (p : Run) → (b : Bool) → int_le (first r.up) (j -ℤ pos 1) ≡ b
        → rows_below filled r j p ≡ next_level (found (if b then counted_row (rows_below filled r (j -ℤ pos 1)) (row_pieces filled r (j -ℤ pos 1)) else []) (as_piece p))
    step p true h = level_step filled r j p (le_is (first r.up) j h)
    step p false h = let none : span_len (first r.up) j ≡ 0 = lowest (first r.up) j le h in rw none refl
