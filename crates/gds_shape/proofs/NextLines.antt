-- The lines at which a sweep upwards stops, and the edges that cross them.
use Rattle.std.proofs.Common.{◌≡◌, ℕ, ◌+◌, ◌<◌, ℤ, ◌≤ℤ◌, ◌<ℤ◌, List, [], ◌∷◌, ◌++◌, length, get_or, take, arith, ◌∙◌, sym, Bool, true, false, cond, ◌&&◌, w64, FitsSigned, Some}
use Rattle.std.specs.Prelude.{int_lt, All, count_by}
use Rattle.std.specs.Int.{int_min}
use Rattle.std.specs.List.{filter, slice_get}
use Rattle.std.specs.List.Sorted.{IsPermutation}
use Rattle.std.proofs.lemmas.Int.{ints, clamps}
use Rattle.std.proofs.lemmas.List.{get_or-take, length-take-le}
use Rattle.std.proofs.lemmas.List.Elements.{All-more, All-append, All-filter, filter_passes}
use Rattle.std.proofs.lemmas.List.Sums.{sum_by-append}
use Rattle.std.proofs.lemmas.List.Sorted.{All-permutation, sum_by-IsPermutation}
use Rattle.fill_base.specs.Coordinates.{highest}
use Rattle.fill_base.specs.Counts.{is_between}
use Rattle.fill_base.proofs.Signed.{read, read_is, fits_min, is_lt}
use Rattle.gds_shape.specs.declared.edge.Edge.{Edge}
use Rattle.gds_shape.specs.steps.Edges.{goes, spans, AreRisingBy}
use Rattle.gds_shape.specs.steps.Lines.{Crosses, IsNextLine, IsCrossed}
use Rattle.gds_shape.proofs.Counting.{count_kept}
use Rattle.gds_shape.proofs.ReadBack.{read_bottom}

-- the first of the edges by their lower edges
pub first_line : (edges : List Edge) (r : Edge) → Some r ≡ slice_get edges 0 → AreRisingBy (λ q. q.bottom) edges → IsNextLine edges [] (read r.bottom)
first_line [] r some rising = cc
first_line (q ∷ edges) r some rising = let first : r ≡ q = cc in rw (read_bottom r, first) (record {
  begins = λ k d lt. rising 0 k d (omega arith) lt;
  ends = λ k d lt. absurd (omega arith);
  high = low_enough q.bottom q.top q.tall q.high;
  nearest = λ y low begins ends. begins 0 q (omega arith);
})
  where
    low_enough : (a b : ℤ) → a <ℤ b → b ≤ℤ highest → a ≤ℤ highest
    low_enough a b h k = omega (arith, ints)

-- one more edge that may end first
pub nearer_line : (later crossing : List Edge) (k : ℕ) (q : Edge) (line line' : ℤ) → k < length crossing → q ≡ get_or crossing k q → FitsSigned w64 line
    → line' ≡ int_min line q.top → IsNextLine later (take k crossing) line → IsNextLine later (take (k + 1) crossing) (read line')
nearer_line later crossing k q line line' more item fits least n =
    let kept : read line' ≡ int_min line q.top = rw least (read_is _ (fits_min line q.top fits (top_fits q))) in
    rw kept (record {
      begins = λ j d lt. le_left line q.top _ (n.begins j d lt);
      ends = All-more (λ r. int_min line q.top ≤ℤ r.top) crossing k q more (λ j d lt. le_left line q.top _ (n.ends j d lt)) (ap_le q (get_or crossing k q) item);
      high = le_left line q.top highest n.high;
      nearest = λ y low begins ends. lt_both y line q.top (n.nearest y low begins (λ j d lt. some_ends y j d lt ends)) (last_ends y ends);
    })
  where
    top_fits : (q : Edge) → FitsSigned w64 q.top
    top_fits q = let a = q.low in let b = q.tall in let c = q.high in omega (arith, ints)

    le_left : (a b c : ℤ) → a ≤ℤ c → int_min a b ≤ℤ c
    le_left a b c h = omega (arith, ints, clamps)

    ap_le : (q r : Edge) → q ≡ r → int_min line q.top ≤ℤ r.top
    ap_le q r e = rw (sym e) (le_right line q.top)
      where
        le_right : (a b : ℤ) → int_min a b ≤ℤ b
        le_right a b = omega (arith, ints, clamps)

    lt_both : (y a b : ℤ) → y <ℤ a → y <ℤ b → y <ℤ int_min a b
    lt_both y a b h k = omega (arith, ints, clamps)

    some_ends : (y : ℤ) (j : ℕ) (d : Edge) → j < length (take k crossing) → All (λ r. y <ℤ r.top) (take (k + 1) crossing) → y <ℤ (get_or (take k crossing) j d).top
    some_ends y j d lt all =
        let here : j < k = rw (length-take-le k crossing (omega arith)) at lt in
        rw (get_or-take k crossing j d here) (rw (get_or-take (k + 1) crossing j d (omega arith)) at (all j d (rw (length-take-le (k + 1) crossing (omega arith)) (omega arith))))

    last_ends : (y : ℤ) → All (λ r. y <ℤ r.top) (take (k + 1) crossing) → y <ℤ q.top
    last_ends y all =
        let e : get_or (take (k + 1) crossing) k q ≡ q = get_or-take (k + 1) crossing k q (omega arith) ∙ sym item in
        rw e at (all k q (rw (length-take-le (k + 1) crossing (omega arith)) (omega arith)))

-- what the edits and the sort leave
pub crossed : (line : ℤ) (old begun both kept new : List Edge) → both ≡ old ++ begun → kept ≡ filter (λ e. int_lt line e.top) both → IsPermutation kept new → AreRisingBy (λ e. e.x) new
    → IsCrossed line old begun new
crossed line old begun both kept new joined is moved rising = record {
  sorted = rising;
  same = λ way x y le.
      let counts : Edge → Bool = λ e. goes way e && (int_lt x e.x && spans y e) in
      let one : count_by counts new ≡ count_by counts kept = sum_by-IsPermutation (λ e. cond (counts e) 1 0) kept new moved in
      let two : count_by counts kept ≡ count_by counts both = rw is (count_kept counts (λ e. int_lt line e.top) both (λ e h. ends_above (goes way e) (int_lt x e.x) e.bottom e.top line y le h)) in
      one ∙ (two ∙ rw joined (sum_by-append (λ e. cond (counts e) 1 0) old begun));
  cross = λ low first. All-permutation (Crosses line) kept new moved (rw is (stay both (rw joined (All-append (λ e. e.bottom ≤ℤ line) old begun low first))));
}
  where
    ends_above : (a b : Bool) (bottom top line y : ℤ) → line ≤ℤ y → (a && (b && is_between bottom top y)) ≡ true → int_lt line top ≡ true
    ends_above true true bottom top line y le h = grind (arith, ints)
    ends_above true false bottom top line y le h = cc
    ends_above false b bottom top line y le h = cc

    stay : (es : List Edge) → All (λ e. e.bottom ≤ℤ line) es → All (Crosses line) (filter (λ e. int_lt line e.top) es)
    stay es low = λ k d lt. (All-filter (λ e. int_lt line e.top) (λ e. e.bottom ≤ℤ line) es low k d lt, is_lt line (get_or (filter (λ e. int_lt line e.top) es) k d).top (filter_passes (λ e. int_lt line e.top) es k d lt))
