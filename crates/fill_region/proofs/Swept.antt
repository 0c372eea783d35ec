-- A sweep upwards, and the runs of what lies below its line.
use Rattle.std.proofs.Common.{◌≡◌, ℤ, ◌-ℤ◌, ◌≤ℤ◌, ◌<ℤ◌, Bool, true, false, ◌||◌, ◌<◌, List, [], ◌++◌, sym, ◌∙◌, arith}
use Rattle.std.specs.Prelude.{All, int_lt, unsigned_abs}
use Rattle.std.proofs.lemmas.Bool.{false_from_ne_true}
use Rattle.std.proofs.lemmas.Int.{ints, by_lt_z}
use Rattle.std.proofs.lemmas.List.Elements.{All-contains, All-nil, All-weaker}
use Rattle.fill_base.specs.declared.rect.Rect.{Rect}
use Rattle.fill_base.specs.Coordinates.{highest}
use Rattle.fill_base.specs.Sides.{sides_of}
use Rattle.fill_base.proofs.Signed.{read, read_is, is_lt, not_lt}
use Rattle.fill_spans.specs.Spans.{ceiling}
use Rattle.fill_spans.specs.Columns.{IsRisingBy}
use Rattle.fill_bands.specs.Lines.{IsAtLine, IsStart, IsStep}
use Rattle.fill_bands.specs.Squares.{covered}
use Rattle.fill_region.specs.Runs.{IsRun}
use Rattle.fill_region.specs.Steps.{AreRunsOf, IsRow, MeetAt, AreStacked, before, behind}
use Rattle.fill_region.specs.declared.lines.Line.TheVariants.{Level}
use Rattle.fill_region.proofs.Intervals.{true_false}
use Rattle.fill_region.proofs.Levels.{below_same, below_none, above_same, above_none}
use Rattle.fill_region.proofs.Members.{holder, square_within, runs_alike}
use Rattle.fill_region.proofs.Lengthening.{row_more}

-- the runs of what lies below the line; the rectangles that have squares from there on are at hand
pub record SweptRuns (rects later crossing recent ended : List Rect) (line : ℤ) : Type 0 where
  pub at : IsAtLine later crossing line
  pub ahead : (x y : ℤ) → line ≤ℤ y → covered rects x y ≡ (covered crossing x y || covered later x y)
  pub are_runs : AreRunsOf (before (Level line) (covered rects)) (recent ++ ended)
  pub rising : IsRisingBy (λ r. r.x1) recent
  pub tops : All (λ r. r.y2 ≡ line) recent
  pub below : All (λ r. r.y2 <ℤ line) ended

pub none_swept : (rects sorted : List Rect) (line : ℤ) → IsStart rects sorted line → SweptRuns rects sorted [] [] [] line
none_swept rects sorted line s = record {
  at = s.at;
  ahead = λ x y le. s.same x y;
  are_runs = record {
    each = All-nil (λ r. IsRun (before (Level line) (covered rects)) (sides_of r));
    all = λ x y is. absurd (true_false (before (Level line) (covered rects) x y) is (nothing x y));
  };
  rising = λ i j d le lt. absurd (omega (arith, lt));
  tops = All-nil (λ r. r.y2 ≡ line);
  below = All-nil (λ r. r.y2 <ℤ line);
}
  where
    nothing : (x y : ℤ) → before (Level line) (covered rects) x y ≡ false
    nothing x y = by_lt_z y line (λ lt. below_same (covered rects) line x y lt ∙ s.none x y lt) (λ le. below_none (covered rects) line x y le)

-- a row holds nothing below its lines, and nothing above them
under : (bottom top : ℤ) (row : List Rect) (x y : ℤ) → IsRow bottom top row → y <ℤ bottom → covered row x y ≡ false
under bottom top row x y own lt = false_from_ne_true (covered row x y) (λ is.
    let h = holder row x y is in
    not_both bottom h.rect.y1 y (All-contains (λ r. r.y1 ≡ bottom) row h.rect own.bottoms h.among) (square_within h.rect x y h.holds_it).1.0 lt)
  where
    not_both : (a b y : ℤ) → b ≡ a → b ≤ℤ y → y <ℤ a → ⊥
    not_both a b y is le lt = omega (arith, ints)

over : (bottom top : ℤ) (row : List Rect) (x y : ℤ) → IsRow bottom top row → top ≤ℤ y → covered row x y ≡ false
over bottom top row x y own le = false_from_ne_true (covered row x y) (λ is.
    let h = holder row x y is in
    not_both top h.rect.y2 y (All-contains (λ r. r.y2 ≡ top) row h.rect own.tops h.among) (square_within h.rect x y h.holds_it).1.1 le)
  where
    not_both : (a b y : ℤ) → b ≡ a → y <ℤ b → a ≤ℤ y → ⊥
    not_both a b y is lt le = omega (arith, ints)

-- from the line to the next one
pub one_swept : (rects later rest crossing crossing' recent ended row new new_ended : List Rect) (line next : ℤ) → SweptRuns rects later crossing recent ended line → IsStep line later crossing rest crossing' next
    → AreRunsOf (covered row) row → ((x y : ℤ) → line ≤ℤ y → y <ℤ next → covered row x y ≡ covered crossing' x y) → IsRow line next row
    → ((p : ℤ → ℤ → Bool) (at : ℤ) → MeetAt p at recent row → AreStacked p recent row ended new new_ended) → IsRisingBy (λ r. r.x1) new → ((top : ℤ) → All (λ r. r.y2 ≡ top) row → All (λ r. r.y2 ≡ top) new)
    → ((top : ℤ) → All (λ r. r.y2 <ℤ top) recent → All (λ r. r.y2 <ℤ top) ended → All (λ r. r.y2 <ℤ top) new_ended) → SweptRuns rects rest crossing' new new_ended next
one_swept rects later rest crossing crossing' recent ended row new new_ended line next s step row_runs same own stacked rising ends low_ends = record {
  at = step.at;
  ahead = λ x y le. s.ahead x y (lt_le line next y step.further le) ∙ step.above x y le;
  are_runs = row_more (before (Level next) (covered rects)) line next recent ended row new new_ended
      (runs_alike (before (Level line) (before (Level next) (covered rects))) (before (Level line) (covered rects)) (recent ++ ended) lower s.are_runs) s.tops s.below
      (runs_alike (behind (Level line) (before (Level next) (covered rects))) (covered row) row upper row_runs) own (stacked (before (Level next) (covered rects)) line);
  rising = rising;
  tops = ends next own.tops;
  below = low_ends next (All-weaker (λ r. r.y2 ≡ line) (λ r. r.y2 <ℤ next) (λ r is. reach r.y2 line next is step.further) recent s.tops)
      (All-weaker (λ r. r.y2 <ℤ line) (λ r. r.y2 <ℤ next) (λ r lt. higher r.y2 line next lt step.further) ended s.below);
}
  where
    lt_le : (a b c : ℤ) → a <ℤ b → b ≤ℤ c → a ≤ℤ c
    lt_le a b c h k = omega (arith, ints)

    reach : (a b c : ℤ) → a ≡ b → b <ℤ c → a <ℤ c
    reach a b c is lt = omega (arith, ints)

    higher : (a b c : ℤ) → a <ℤ b → b <ℤ c → a <ℤ c
    higher a b c h k = omega (arith, ints)

    lower : (x y : ℤ) → before (Level line) (before (Level next) (covered rects)) x y ≡ before (Level line) (covered rects) x y
    lower x y = by_lt_z y line
        (λ lt. below_same (before (Level next) (covered rects)) line x y lt ∙ (below_same (covered rects) next x y (higher y line next lt step.further) ∙ sym (below_same (covered rects) line x y lt)))
        (λ le. below_none (before (Level next) (covered rects)) line x y le ∙ sym (below_none (covered rects) line x y le))

    upper : (x y : ℤ) → behind (Level line) (before (Level next) (covered rects)) x y ≡ covered row x y
    upper x y = by_lt_z y line
        (λ lt. above_none (before (Level next) (covered rects)) line x y lt ∙ sym (under line next row x y own lt))
        (λ le. by_lt_z y next
        (λ lt. above_same (before (Level next) (covered rects)) line x y le ∙ (below_same (covered rects) next x y lt ∙ (s.ahead x y le ∙ (step.here x y le lt ∙ sym (same x y le lt)))))
        (λ past. above_same (before (Level next) (covered rects)) line x y le ∙ (below_none (covered rects) next x y past ∙ sym (over line next row x y own past))))

-- the last line
pub all_swept : (rects later crossing recent ended : List Rect) (line : ℤ) → SweptRuns rects later crossing recent ended line → ceiling ≤ℤ line → AreRunsOf (covered rects) (recent ++ ended)
all_swept rects later crossing recent ended line s end = runs_alike (covered rects) (before (Level line) (covered rects)) (recent ++ ended) whole s.are_runs
  where
    high : (y : ℤ) → y <ℤ highest → line ≤ℤ y → ⊥
    high y lt le = omega (arith, ints)

    none : (x y : ℤ) → line ≤ℤ y → covered rects x y ≡ true → ⊥
    none x y le is =
        let h = holder rects x y is in
        high y (lt_le y h.rect.y2 highest (square_within h.rect x y h.holds_it).1.1 h.rect.top) le
      where
        lt_le : (a b c : ℤ) → a <ℤ b → b ≤ℤ c → a <ℤ c
        lt_le a b c h k = omega (arith, ints)

    whole : (x y : ℤ) → covered rects x y ≡ before (Level line) (covered rects) x y
    whole x y = by_lt_z y line (λ lt. sym (below_same (covered rects) line x y lt)) (λ le. false_from_ne_true (covered rects x y) (none x y le) ∙ sym (below_none (covered rects) line x y le))

-- ---- lines as the code reads them

pub line_read : (later crossing : List Rect) (line : ℤ) → IsAtLine later crossing line → read line ≡ line
line_read later crossing line s = read_is line (let low = s.low in let high = s.high in omega (arith, ints))

pub swept_read : (rects later crossing recent ended : List Rect) (line : ℤ) → SweptRuns rects later crossing recent ended line → SweptRuns rects later crossing recent ended (read line)
swept_read rects later crossing recent ended line s = rw (line_read later crossing line s.at) s

pub nearer : (later crossing : List Rect) (line next : ℤ) → line <ℤ next → IsAtLine later crossing next → unsigned_abs (ceiling -ℤ read next) < unsigned_abs (ceiling -ℤ line)
nearer later crossing line next further s = rw (line_read later crossing next s) (less line next further s.high)
  where
    less : (a b : ℤ) → a <ℤ b → b ≤ℤ ceiling → unsigned_abs (ceiling -ℤ b) < unsigned_abs (ceiling -ℤ a)
    less a b up high = omega (arith, ints)

pub goes_on : (line end : ℤ) → end ≡ ceiling → int_lt line (read end) ≡ true → line <ℤ ceiling
goes_on line end is h = is_lt line ceiling (rw is at h)

pub over_at : (line end : ℤ) → end ≡ ceiling → int_lt line (read end) ≡ false → ceiling ≤ℤ line
over_at line end is h = not_lt line ceiling (rw is at h)
