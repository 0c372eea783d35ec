-- The lines at which a sweep upwards stops, and the rectangles that cross them.
use Rattle.std.proofs.Common.{◌≡◌, ℕ, ◌+◌, ◌<◌, ℤ, ◌≤ℤ◌, ◌<ℤ◌, List, [], ◌∷◌, ◌++◌, length, get_or, take, refl, arith, ap, ◌∙◌, sym, Bool, true, false, ◌||◌, ◌&&◌, w64, FitsSigned, Some}
use Rattle.std.specs.Prelude.{int_lt, All}
use Rattle.std.specs.Int.{int_min}
use Rattle.std.specs.List.{filter, dedup, slice_get}
use Rattle.std.specs.List.Sorted.{IsPermutation}
use Rattle.std.proofs.lemmas.Int.{ints, clamps}
use Rattle.std.proofs.lemmas.List.{get_or-take, length-take-le}
use Rattle.std.proofs.lemmas.List.Elements.{All-more, All-append, All-filter, filter_passes}
use Rattle.std.proofs.lemmas.List.Filters.{All-dedup}
use Rattle.std.proofs.lemmas.List.Folds.{list_any-append}
use Rattle.std.proofs.lemmas.List.Sorted.{All-permutation, list_any-IsPermutation}
use Rattle.std.proofs.lemmas.Map.Views.{any-filter_same}
use Rattle.fill_base.specs.declared.rect.Rect.{Rect}
use Rattle.fill_base.specs.Coordinates.{highest}
use Rattle.fill_base.specs.Counts.{is_between}
use Rattle.fill_base.specs.Squares.{squares}
use Rattle.fill_base.proofs.Signed.{read, read_is, fits_min, is_lt}
use Rattle.fill_base.proofs.Areas.{read_y1, read_y2}
use Rattle.fill_spans.specs.Spans.{ceiling}
use Rattle.fill_spans.specs.Columns.{IsRisingBy}
use Rattle.fill_bands.specs.Squares.{covered}
use Rattle.fill_bands.specs.Lines.{Crosses}
use Rattle.fill_bands.specs.steps.Lines.{IsNextLine, IsCrossed}
use Rattle.fill_bands.proofs.Within.{ends_within, kept_squares, kept_rising, passing_rising}

-- the first of the rectangles by their lower edges
pub first_line : (rects : List Rect) (r : Rect) (y1 : ℤ) → y1 ≡ r.y1 → Some r ≡ slice_get rects 0 → IsRisingBy (λ q. q.y1) rects → IsNextLine rects [] (read y1)
first_line [] r y1 is some rising = cc
first_line (q ∷ rects) r y1 is some rising = let first : r ≡ q = cc in rw (is, read_y1 r, first) (record {
  begins = λ k d lt. rising 0 k d (omega arith) lt;
  ends = λ k d lt. absurd (omega arith);
  high = low_enough q.y1 q.y2 q.tall q.top;
  nearest = λ y low begins ends. begins 0 q (omega arith);
})
  where
    low_enough : (a b : ℤ) → a <ℤ b → b ≤ℤ highest → a ≤ℤ ceiling
    low_enough a b h k = omega (arith, ints)

-- one more rectangle that may end first
pub nearer_line : (later crossing : List Rect) (k : ℕ) (q : Rect) (line y2 line' : ℤ) → k < length crossing → q ≡ get_or crossing k q → y2 ≡ q.y2 → FitsSigned w64 line
    → line' ≡ int_min line (read y2) → IsNextLine later (take k crossing) line → IsNextLine later (take (k + 1) crossing) (read line')
nearer_line later crossing k q line y2 line' more item is fits least n =
    let top : line' ≡ int_min line q.y2 = least ∙ rw (is, read_y2 q) refl in
    let kept : read line' ≡ int_min line q.y2 = rw top (read_is _ (fits_min line q.y2 fits (top_fits q))) in
    rw kept (record {
      begins = λ j d lt. le_left line q.y2 _ (n.begins j d lt);
      ends = All-more (λ r. int_min line q.y2 ≤ℤ r.y2) crossing k q more (λ j d lt. le_left line q.y2 _ (n.ends j d lt)) (ap_le q (get_or crossing k q) item);
      high = le_left line q.y2 ceiling n.high;
      nearest = λ y low begins ends. lt_both y line q.y2 (n.nearest y low begins (λ j d lt. some_ends y j d lt ends)) (last_ends y ends);
    })
  where
    top_fits : (q : Rect) → FitsSigned w64 q.y2
    top_fits q = let a = q.bottom in let b = q.tall in let c = q.top in omega (arith, ints)

    le_left : (a b c : ℤ) → a ≤ℤ c → int_min a b ≤ℤ c
    le_left a b c h = omega (arith, ints, clamps)

    ap_le : (q r : Rect) → q ≡ r → int_min line q.y2 ≤ℤ r.y2
    ap_le q r e = rw (sym e) (le_right line q.y2)
      where
        le_right : (a b : ℤ) → int_min a b ≤ℤ b
        le_right a b = omega (arith, ints, clamps)

    lt_both : (y a b : ℤ) → y <ℤ a → y <ℤ b → y <ℤ int_min a b
    lt_both y a b h k = omega (arith, ints, clamps)

    some_ends : (y : ℤ) (j : ℕ) (d : Rect) → j < length (take k crossing) → All (λ r. y <ℤ r.y2) (take (k + 1) crossing) → y <ℤ (get_or (take k crossing) j d).y2
    some_ends y j d lt all =
        let here : j < k = rw (length-take-le k crossing (omega arith)) at lt in
        rw (get_or-take k crossing j d here) (rw (get_or-take (k + 1) crossing j d (omega arith)) at (all j d (rw (length-take-le (k + 1) crossing (omega arith)) (omega arith))))

    last_ends : (y : ℤ) → All (λ r. y <ℤ r.y2) (take (k + 1) crossing) → y <ℤ q.y2
    last_ends y all =
        let e : get_or (take (k + 1) crossing) k q ≡ q = get_or-take (k + 1) crossing k q (omega arith) ∙ sym item in
        rw e at (all k q (rw (length-take-le (k + 1) crossing (omega arith)) (omega arith)))

-- those that end at the line or below have no squares from there on
past : (line : ℤ) (r : Rect) (x y : ℤ) → line ≤ℤ y → squares r x y ≡ true → int_lt line r.y2 ≡ true
past line r x y le h = above line y r.y1 r.y2 (is_between r.x1 r.x2 x) le h
  where
    above : (line y a b : ℤ) (c : Bool) → line ≤ℤ y → (c && is_between a b y) ≡ true → int_lt line b ≡ true
    above line y a b true le h = grind (arith, ints)
    above line y a b false le h = cc

stay : (line : ℤ) (rects : List Rect) → All (λ r. r.y1 ≤ℤ line) rects → All (Crosses line) (filter (λ r. int_lt line r.y2) rects)
stay line rects low = λ k d lt. (All-filter (λ r. int_lt line r.y2) (λ r. r.y1 ≤ℤ line) rects low k d lt, is_lt line (get_or (filter (λ r. int_lt line r.y2) rects) k d).y2 (filter_passes (λ r. int_lt line r.y2) rects k d lt))

kept_covered : (line : ℤ) (old : List Rect) (x y : ℤ) → line ≤ℤ y → covered (filter (λ r. int_lt line r.y2) old) x y ≡ covered old x y
kept_covered line old x y le = any-filter_same (λ r. squares r x y) (λ r. int_lt line r.y2) true (λ r h. past line r x y le h) old

-- where none begins, those that go on are left as they lie
pub none_begun : (line : ℤ) (old begun new : List Rect) → length begun ≡ 0 → new ≡ filter (λ r. int_lt line r.y2) old → IsCrossed line old begun new
none_begun line old [] new none is = rw is (record {
  sorted = λ rising. passing_rising (λ r. int_lt line r.y2) old rising;
  squares = λ low first x y le. kept_covered line old x y le ∙ sym (or_false (covered old x y));
  cross = λ low first. stay line old low;
})
  where
    or_false : (b : Bool) → (b || false) ≡ b
    or_false true = refl
    or_false false = refl
none_begun line old (r ∷ begun) new none is = cc

-- what the sort and the edits around it leave
pub crossed : (line : ℤ) (old kept both begun sorted new : List Rect) → kept ≡ filter (λ r. int_lt line r.y2) old → both ≡ kept ++ begun → IsPermutation both sorted
    → IsRisingBy (λ r. r.x1) sorted → new ≡ dedup ends_within sorted → IsCrossed line old begun new
crossed line old kept both begun sorted new is joined moved rising left = record {
  sorted = λ old_rising. rw left (kept_rising sorted rising);
  squares = λ low first x y le.
      let same : covered sorted x y ≡ covered both x y = sym (list_any-IsPermutation (λ r. squares r x y) both sorted moved) in
      rw left (kept_squares sorted line x y le (λ k d lt. (crossing low first k d lt).0) rising) ∙ (same ∙ (rw joined (list_any-append (λ r. squares r x y) kept begun)
      ∙ ap (λ b. b || covered begun x y) {x = covered kept x y} (rw is (kept_covered line old x y le))));
  cross = λ low first. rw left (All-dedup ends_within (Crosses line) sorted (crossing low first));
}
  where
    crossing : All (λ r. r.y1 ≤ℤ line) old → All (Crosses line) begun → All (Crosses line) sorted
    crossing low first = All-permutation (Crosses line) both sorted moved (rw joined (All-append (Crosses line) kept begun (rw is (stay line old low)) first))
