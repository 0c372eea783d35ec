-- The sweep upwards over rectangles: what it has written so far, each step, and its end.
use Rattle.std.proofs.Common.{◌≡◌, ℕ, suc, ◌+◌, ◌-◌, ◌≤◌, ◌<◌, ℤ, ◌-ℤ◌, ◌≤ℤ◌, ◌<ℤ◌, List, [], ◌∷◌, length, get_or, take, drop, refl, arith, ap, ◌∙◌, sym, Bool, true, false, ◌||◌, ◌&&◌, w32, FitsSigned}
use Rattle.std.specs.Prelude.{int_lt, All, unsigned_abs}
use Rattle.std.specs.List.Sorted.{IsPermutation, IsPartitionPoint}
use Rattle.std.proofs.lemmas.Bool.{and_right}
use Rattle.std.proofs.lemmas.Int.{ints, by_lt_z}
use Rattle.std.proofs.lemmas.List.{get_or-take, get_or-drop, length-take-le, length-drop, take-append-drop}
use Rattle.std.proofs.lemmas.List.Folds.{list_any-append, list_any_none}
use Rattle.std.proofs.lemmas.List.Sorted.{list_any-IsPermutation}
use Rattle.fill_base.specs.declared.rect.Rect.{Rect}
use Rattle.fill_base.specs.Coordinates.{highest}
use Rattle.fill_base.specs.Counts.{is_between}
use Rattle.fill_base.specs.Squares.{squares}
use Rattle.fill_base.proofs.Signed.{read, read_is, read32, read32_is, lt_le, is_lt, not_lt}
use Rattle.fill_spans.specs.Spans.{inside, floor, ceiling, IsCanonical}
use Rattle.fill_spans.specs.Columns.{IsRisingBy, has_column}
use Rattle.fill_spans.proofs.Canonical.{equal_sets}
use Rattle.fill_bands.specs.Bands.{Band, holds, last_row, AreBands, IsBanded}
use Rattle.fill_bands.specs.Squares.{covered}
use Rattle.fill_bands.specs.steps.Merging.{RowPut}
use Rattle.fill_bands.specs.Lines.{Crosses, IsAtLine, IsStart, IsStep}
use Rattle.fill_bands.specs.steps.Lines.{IsNextLine, IsCrossed}
use Rattle.fill_bands.proofs.Stack.{row_past, last_canonical}
use Rattle.fill_bands.proofs.Sweeping.{Grows, grows_written, last_is, nothing_canonical}

-- below the line all is written; the rectangles that have squares from there on are at hand
pub record SweptTo (rects later crossing : List Rect) (bands : List Band) (line : ℤ) : Type 0 where
  pub at : IsAtLine later crossing line
  pub ahead : (x y : ℤ) → line ≤ℤ y → covered rects x y ≡ (covered crossing x y || covered later x y)
  pub behind : (x y : ℤ) → y <ℤ line → holds bands x y ≡ covered rects x y
  pub rising : AreBands floor [] bands line

off_low : (r : Rect) (x y : ℤ) → y <ℤ r.y1 → squares r x y ≡ false
off_low r x y lt = and_right (is_between r.x1 r.x2 x) (is_between r.y1 r.y2 y) (below r.y1 r.y2 y lt)
  where
    below : (a b y : ℤ) → y <ℤ a → is_between a b y ≡ false
    below a b y h = grind (arith, ints)

off_high : (r : Rect) (x y : ℤ) → r.y2 ≤ℤ y → squares r x y ≡ false
off_high r x y le = and_right (is_between r.x1 r.x2 x) (is_between r.y1 r.y2 y) (above r.y1 r.y2 y le)
  where
    above : (a b y : ℤ) → b ≤ℤ y → is_between a b y ≡ false
    above a b y h = grind (arith, ints)

-- where all begin above the line, nothing is covered
none_yet : (rects : List Rect) (x y : ℤ) → All (λ r. y <ℤ r.y1) rects → covered rects x y ≡ false
none_yet rects x y above = list_any_none (λ r. squares r x y) rects (λ k d lt. off_low (get_or rects k d) x y (above k d lt))

-- past the highest coordinate nothing is covered
none_more : (rects : List Rect) (x y : ℤ) → highest ≤ℤ y → covered rects x y ≡ false
none_more rects x y high = list_any_none (λ r. squares r x y) rects (λ k d lt. off_high (get_or rects k d) x y (le_le (get_or rects k d).y2 highest y (get_or rects k d).top high))
  where
    le_le : (a b c : ℤ) → a ≤ℤ b → b ≤ℤ c → a ≤ℤ c
    le_le a b c h k = omega (arith, ints)

lt_le_lt : (a b c : ℤ) → a <ℤ b → b ≤ℤ c → a <ℤ c
lt_le_lt a b c h k = omega (arith, ints)

le_lt_lt : (a b c : ℤ) → a ≤ℤ b → b <ℤ c → a <ℤ c
le_lt_lt a b c h k = omega (arith, ints)

-- on the lines that all rectangles of a list cross, its squares are its columns
columns_are : (rects : List Rect) (line x y : ℤ) → line ≤ℤ y → All (Crosses line) rects → All (λ r. y <ℤ r.y2) rects → has_column rects x ≡ covered rects x y
columns_are [] line x y le cross high = refl
columns_are (r ∷ rects) line x y le cross high =
    let here : is_between r.y1 r.y2 y ≡ true = between r.y1 r.y2 line y (cross 0 r (omega arith)).0 le (high 0 r (omega arith)) in
    rw here (join (is_between r.x1 r.x2 x) (has_column rects x) (covered rects x y)
    (columns_are rects line x y le (λ k d lt. cross (suc k) d (omega arith)) (λ k d lt. high (suc k) d (omega arith))))
  where
    between : (a b line y : ℤ) → a ≤ℤ line → line ≤ℤ y → y <ℤ b → is_between a b y ≡ true
    between a b line y h k l = grind (arith, ints)

    join : (b c d : Bool) → c ≡ d → (b || c) ≡ ((b && true) || d)
    join true c d h = refl
    join false c d h = h

pub started : (rects sorted : List Rect) (line : ℤ) → IsPermutation rects sorted → IsRisingBy (λ r. r.y1) sorted → IsNextLine sorted [] line → IsStart rects sorted line
started rects sorted line same rising next =
    let all : (x y : ℤ) → covered rects x y ≡ covered sorted x y = λ x y. list_any-IsPermutation (λ r. squares r x y) rects sorted same in
    record {
      at = record {
        sorted = rising;
        begins = next.begins;
        begun = λ k d lt. absurd (omega arith);
        lefts = λ i j d le lt. absurd (omega arith);
        low = next.nearest floor (omega (arith, ints)) (λ k d lt. above (get_or sorted k d)) (λ k d lt. absurd (omega arith));
        high = next.high;
      };
      same = all;
      none = λ x y lt. all x y ∙ none_yet sorted x y (λ k d h. lt_le_lt y line (get_or sorted k d).y1 lt (next.begins k d h));
    }
  where
    above : (r : Rect) → floor <ℤ r.y1
    above r = let h = r.bottom in omega (arith, ints)

pub swept_start : (rects sorted : List Rect) (line : ℤ) → IsStart rects sorted line → SweptTo rects sorted [] [] line
swept_start rects sorted line s = record {
  at = s.at;
  ahead = λ x y le. s.same x y;
  behind = λ x y lt. sym (s.none x y lt);
  rising = s.at.low;
}

-- the line rises
pub further : (rest crossing : List Rect) (line line' : ℤ) → line <ℤ ceiling → All (λ r. line <ℤ r.y1) rest → All (Crosses line) crossing → IsNextLine rest crossing line' → line <ℤ line'
further rest crossing line line' high later cross next = next.nearest line high later (λ k d lt. (cross k d lt).1)

-- the rectangles that begin at the line
pub first_cross : (later begun : List Rect) (line : ℤ) (n : ℕ) → All (λ r. line ≤ℤ r.y1) later → IsPartitionPoint (λ r. r.y1 ≤ℤ line) (λ r. line <ℤ r.y1) later n → n ≤ length later
    → begun ≡ take n later → All (Crosses line) begun
first_cross later begun line n begins parted within is = rw is (λ k d lt.
    let here : k < n = rw (length-take-le n later within) at lt in
    rw (get_or-take n later k d here) (parted.0 k d (omega arith) here, le_lt_lt line (get_or later k d).y1 (get_or later k d).y2 (begins k d (omega arith)) (get_or later k d).tall))

pub others_later : (later rest : List Rect) (line : ℤ) (n : ℕ) → IsPartitionPoint (λ r. r.y1 ≤ℤ line) (λ r. line <ℤ r.y1) later n → n ≤ length later
    → rest ≡ drop n later → All (λ r. line <ℤ r.y1) rest
others_later later rest line n parted within is = rw is (λ k d lt.
    let within_rest : k < length later - n = rw (length-drop n later) at lt in
    let here : n + k < length later = omega arith in
    rw (get_or-drop n later k d) (parted.1 (n + k) d (omega arith) here))

pub rest_sorted : (later rest : List Rect) (n : ℕ) → IsRisingBy (λ r. r.y1) later → rest ≡ drop n later → IsRisingBy (λ r. r.y1) rest
rest_sorted later rest n sorted is = rw is (λ i j d le lt.
    let h : j < length later - n = rw (length-drop n later) at lt in
    rw (get_or-drop n later i d, get_or-drop n later j d) (sorted (n + i) (n + j) d (omega arith) (omega arith)))

join_three : (a b c d e : Bool) → a ≡ (b || c) → d ≡ (c || e) → (b || d) ≡ (a || e)
join_three a b c d e h k = rw (h, k) (or_assoc b c e)
  where
    or_assoc : (b c e : Bool) → (b || (c || e)) ≡ ((b || c) || e)
    or_assoc true c e = refl
    or_assoc false c e = refl

or_false : (b : Bool) → (b || false) ≡ b
or_false true = refl
or_false false = refl

-- one step: from the line to the next one
pub stepped : (later begun rest crossing crossing' : List Rect) (line line' : ℤ) (n : ℕ) → IsAtLine later crossing line → line <ℤ ceiling → n ≤ length later
    → IsPartitionPoint (λ r. r.y1 ≤ℤ line) (λ r. line <ℤ r.y1) later n → begun ≡ take n later → rest ≡ drop n later → IsCrossed line crossing begun crossing' → IsNextLine rest crossing' line'
    → IsStep line later crossing rest crossing' line'
stepped later begun rest crossing crossing' line line' n s high within parted begun_is rest_is crossed next =
    let above = others_later later rest line n parted within rest_is in
    let first = first_cross later begun line n s.begins parted within begun_is in
    let cross = crossed.cross s.begun first in
    let far : line <ℤ line' = further rest crossing' line line' high above cross next in
    let parts : (x y : ℤ) → covered later x y ≡ (covered begun x y || covered rest x y) = λ x y.
    ap (λ l. covered l x y) (sym (take-append-drop n later) ∙ rw (begun_is, rest_is) refl) ∙ list_any-append (λ r. squares r x y) begun rest in
    let ahead : (x y : ℤ) → line ≤ℤ y → (covered crossing x y || covered later x y) ≡ (covered crossing' x y || covered rest x y) = λ x y le.
    join_three (covered crossing' x y) (covered crossing x y) (covered begun x y) (covered later x y) (covered rest x y) (crossed.squares s.begun first x y le) (parts x y) in
    record {
      at = record {
        sorted = rest_sorted later rest n s.sorted rest_is;
        begins = next.begins;
        begun = λ k d lt. lt_le (get_or crossing' k d).y1 line' (le_lt_lt (get_or crossing' k d).y1 line line' (cross k d lt).0 far);
        lefts = crossed.sorted s.lefts;
        low = lt_lt floor line line' s.low far;
        high = next.high;
      };
      further = far;
      cross = cross;
      whole = next.ends;
      here = λ x y le lt. ahead x y le ∙ rw (none_yet rest x y (λ k d h. lt_le_lt y line' (get_or rest k d).y1 lt (next.begins k d h))) (or_false (covered crossing' x y));
      above = λ x y le. ahead x y (lt_le line y (lt_le_lt line line' y far le));
    }
  where
    lt_lt : (a b c : ℤ) → a <ℤ b → b <ℤ c → a <ℤ c
    lt_lt a b c h k = omega (arith, ints)

-- one turn: what crosses the rows up to the next line is written
pub swept_turn : (rects later rest crossing crossing' : List Rect) (bands bands' : List Band) (row : List ℤ) (line line' : ℤ) → SweptTo rects later crossing bands line → IsStep line later crossing rest crossing' line'
    → IsCanonical row → ((x : ℤ) → inside row x ≡ has_column crossing' x) → RowPut line row bands bands' → (line <ℤ line') × SweptTo rects rest crossing' bands' line'
swept_turn rects later rest crossing crossing' bands bands' row line line' s step canonical members put =
    let grown : Grows line bands bands' = grows_written bands bands' line row canonical s.rising put in (
      step.further,
      record {
        at = step.at;
        ahead = λ x y le. s.ahead x y (lt_le line y (lt_le_lt line line' y step.further le)) ∙ step.above x y le;
        behind = λ x y lt. by_lt_z y line
            (λ below. ap (λ r. inside r x) (grown.below y below) ∙ s.behind x y below)
            (λ past. ap (λ r. inside r x) (grown.past y past ∙ last_is bands bands' line row put) ∙ (members x
            ∙ (columns_are crossing' line x y past step.cross (λ k d h. lt_le_lt y line' (get_or crossing' k d).y2 lt (step.whole k d h))
            ∙ sym (s.ahead x y past ∙ step.here x y past lt))));
        rising = grown.reach line' step.further;
      },
    )

pub swept_smaller : (rects rest crossing : List Rect) (bands : List Band) (line line' : ℤ) → (line <ℤ line') × SweptTo rects rest crossing bands line'
    → unsigned_abs (ceiling -ℤ read line') < unsigned_abs (ceiling -ℤ line)
swept_smaller rects rest crossing bands line line' turn =
    let low = turn.1.at.low in
    let high = turn.1.at.high in
    let is : read line' ≡ line' = read_is line' (omega (arith, ints)) in
    rw is (less line line' turn.0 high)
  where
    less : (line line' : ℤ) → line <ℤ line' → line' ≤ℤ ceiling → unsigned_abs (ceiling -ℤ line') < unsigned_abs (ceiling -ℤ line)
    less line line' up high = omega (arith, ints)

-- the lines are read as they are
pub at_read : (later crossing : List Rect) (line : ℤ) → IsAtLine later crossing line → read line ≡ line
at_read later crossing line s = read_is line (let low = s.low in let high = s.high in omega (arith, ints))

pub turn_read : (rects rest crossing : List Rect) (bands : List Band) (line : ℤ) → SweptTo rects rest crossing bands line → SweptTo rects rest crossing bands (read line)
turn_read rects rest crossing bands line s = rw (read_is line (let low = s.at.low in let high = s.at.high in omega (arith, ints))) s

pub line_fits : (rects later crossing : List Rect) (bands : List Band) (line : ℤ) → SweptTo rects later crossing bands line → line <ℤ ceiling → FitsSigned w32 line
line_fits rects later crossing bands line s high = let low = s.at.low in omega (arith, ints)

pub line_is : (rects later crossing : List Rect) (bands : List Band) (line : ℤ) → SweptTo rects later crossing bands line → line <ℤ ceiling → read32 line ≡ line
line_is rects later crossing bands line s high = let low = s.at.low in read32_is line (omega (arith, ints))

-- the sweep has come to its end
pub swept_squares : (rects later crossing : List Rect) (bands : List Band) (line : ℤ) → SweptTo rects later crossing bands line → ceiling ≤ℤ line
    → (x y : ℤ) → holds bands x y ≡ covered rects x y
swept_squares rects later crossing bands line s end x y = by_lt_z y line
    (λ lt. s.behind x y lt)
    (λ le.
    let top : highest <ℤ line = omega (arith, ints) in
    ap (λ r. inside r x) (row_past floor line y [] bands s.rising (omega (arith, ints)) ∙ sym (row_past floor line highest [] bands s.rising (let h = s.at.high in omega (arith, ints))))
    ∙ (s.behind x highest top ∙ (none_more rects x highest (omega (arith, ints)) ∙ sym (none_more rects x y (omega (arith, ints))))))

pub swept_region : (rects later crossing : List Rect) (bands : List Band) (line : ℤ) → SweptTo rects later crossing bands line → ceiling ≤ℤ line → IsBanded bands
swept_region rects later crossing bands line s end =
    let top : line ≡ ceiling = let h = s.at.high in omega (arith, ints) in
    let rising : AreBands floor [] bands ceiling = rw top at s.rising in
    let nothing : (x : ℤ) → inside (last_row [] bands) x ≡ false = λ x.
    ap (λ r. inside r x) (sym (row_past floor ceiling ceiling [] bands rising (omega (arith, ints)))) ∙ (swept_squares rects later crossing bands line s end x ceiling ∙ none_more rects x ceiling (omega (arith, ints))) in
    record {
      bands = rising;
      closed = equal_sets (last_row [] bands) [] (last_canonical floor ceiling [] bands nothing_canonical rising) nothing_canonical nothing;
    }

-- whether the sweep goes on, as the code compares
pub goes_on : (line end : ℤ) → end ≡ ceiling → int_lt line (read end) ≡ true → line <ℤ ceiling
goes_on line end is h = is_lt line ceiling (rw is at h)

pub ended : (line end : ℤ) → end ≡ ceiling → int_lt line (read end) ≡ false → ceiling ≤ℤ line
ended line end is h = not_lt line ceiling (rw is at h)
