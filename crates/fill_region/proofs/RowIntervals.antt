-- The intervals of one row, one by one.
use Rattle.std.proofs.Common.{◌≡◌, ℕ, ◌+◌, ◌≤◌, ◌<◌, ℤ, pos, ◌-ℤ◌, ◌≤ℤ◌, ◌<ℤ◌, Bool, true, false, ◌&&◌, List, [], ◌∷◌, ◌++◌, length, refl, ◌∙◌, ap, arith}
use Rattle.std.specs.List.{All}
use Rattle.std.proofs.lemmas.Int.{ints, by_lt_z}
use Rattle.std.proofs.lemmas.Bool.Decides.{nat_tests}
use Rattle.std.proofs.lemmas.List.{get_or_past}
use Rattle.std.proofs.lemmas.List.Elements.{All-push, All-nil, All-weaker}
use Rattle.fill_base.specs.declared.rect.Rect.{Rect}
use Rattle.fill_base.specs.Coordinates.{highest}
use Rattle.fill_base.specs.Counts.{is_between}
use Rattle.fill_base.specs.Sides.{sides, sides_of}
use Rattle.fill_base.specs.Squares.{squares}
use Rattle.fill_base.proofs.Between.{is_between_true, is_between_below, is_between_above}
use Rattle.fill_spans.specs.Spans.{inside, floor, ceiling, odd, next_edge, IsCanonical}
use Rattle.fill_spans.specs.EdgeLookup.{IsFirstAbove}
use Rattle.fill_base.proofs.Signed.{read, read32, read_is, read32_is}
use Rattle.fill_spans.proofs.Chains.{chain_next, chain_within}
use Rattle.fill_spans.proofs.Searching.{chain_rises, inside_first_above, inside_gap, next_first, outside_high}
use Rattle.fill_bands.specs.Squares.{covered}
use Rattle.fill_region.specs.Runs.{IsInterval, IsRun}
use Rattle.fill_region.specs.Steps.{AreRunsOf, IsRow, squares_between}
use Rattle.fill_region.proofs.Intervals.{true_false, and_first, and_second}
use Rattle.fill_region.proofs.Levels.{and_false, le_self}
use Rattle.fill_region.proofs.Members.{or_left, or_right, covered_push}
use Rattle.fill_region.proofs.Searching.{rising_push}

odd_next : (k : ℕ) → odd k ≡ false → odd (k + 1) ≡ true
odd_next k h = grind (arith, nat_tests)

even_next : (k : ℕ) → odd k ≡ false → odd ((k + 1) + 1) ≡ false
even_next k h = grind (arith, nat_tests)

even_twice : (k : ℕ) → odd k ≡ false → odd (k + 2) ≡ false
even_twice k h = grind (arith, nat_tests)

-- the intervals before the edge at `k`
pub record AreIntervals (es : List ℤ) (bottom top : ℤ) (k : ℕ) (rects : List Rect) : Type 0 where
  pub within : k ≤ length es
  pub even : odd k ≡ false
  pub each : All (λ r. IsRun (squares_between es bottom top) (sides_of r)) rects
  pub all : (x y : ℤ) → squares_between es bottom top x y ≡ true → x <ℤ next_edge es k → covered rects x y ≡ true
  pub row : IsRow bottom top rects
  pub left : All (λ r. r.x1 <ℤ next_edge es k) rects

pub no_intervals : (es : List ℤ) (bottom top : ℤ) → IsCanonical es → AreIntervals es bottom top 0 []
no_intervals es bottom top canonical = record {
  within = omega arith;
  even = refl;
  each = All-nil (λ r. IsRun (squares_between es bottom top) (sides_of r));
  all = λ x y is lt. absurd (true_false (inside es x) (and_first (inside es x) (is_between bottom top y) is) (inside_first_above es x 0 canonical (first x lt)));
  row = record { rising = λ i j d le lt. absurd (omega (arith, lt)); bottoms = All-nil (λ r. r.y1 ≡ bottom); tops = All-nil (λ r. r.y2 ≡ top) };
  left = All-nil (λ r. r.x1 <ℤ next_edge es 0);
}
  where
    first : (x : ℤ) → x <ℤ next_edge es 0 → IsFirstAbove es x 0
    first x lt = record { within = omega arith; before = λ k below. absurd (omega (arith, below)); after = λ some. lt }

-- the row's squares at an edge, and beside it
filled : (es : List ℤ) (k : ℕ) (x : ℤ) → IsCanonical es → odd k ≡ false → k + 1 < length es → next_edge es k ≤ℤ x → x <ℤ next_edge es (k + 1) → inside es x ≡ true
filled es k x canonical even within from to = inside_gap es (k + 1) (next_edge es k) x canonical (next_first es k canonical (omega (arith, within))) from (λ some. to) ∙ odd_next k even

empty_after : (es : List ℤ) (k : ℕ) (x : ℤ) → IsCanonical es → odd k ≡ false → k + 1 < length es → next_edge es (k + 1) ≤ℤ x → x <ℤ next_edge es (k + 2) → inside es x ≡ false
empty_after es k x canonical even within from to =
    let two : (k + 1) + 1 ≡ k + 2 = omega arith in
    inside_gap es ((k + 1) + 1) (next_edge es (k + 1)) x canonical (next_first es (k + 1) canonical within) from (λ some. rw two to) ∙ even_next k even

empty_at : (es : List ℤ) (k : ℕ) → IsCanonical es → odd k ≡ false → k + 1 < length es → inside es (next_edge es (k + 1)) ≡ false
empty_at es k canonical even within = inside_first_above es (next_edge es (k + 1)) ((k + 1) + 1) canonical (next_first es (k + 1) canonical within) ∙ even_next k even

empty_before : (es : List ℤ) (k : ℕ) → IsCanonical es → odd k ≡ false → k < length es → inside es (next_edge es k -ℤ pos 1) ≡ false
empty_before es k canonical even within = inside_first_above es (next_edge es k -ℤ pos 1) k canonical (record {
  within = omega (arith, within);
  before = λ j lt. below j lt;
  after = λ some. less (next_edge es k);
}) ∙ even
  where
    less : (e : ℤ) → (e -ℤ pos 1) <ℤ e
    less e = omega (arith, ints)

    step : (a b c : ℤ) → a <ℤ b → b ≤ℤ c → a ≤ℤ (c -ℤ pos 1)
    step a b c h k = omega (arith, ints)

    below : (j : ℕ) → j < k → next_edge es j ≤ℤ (next_edge es k -ℤ pos 1)
    below j lt = step (next_edge es j) (next_edge es (j + 1)) (next_edge es k) (chain_next floor ceiling es j (omega (arith, lt, within)) canonical.rising)
        (chain_rises floor ceiling es (j + 1) k canonical.rising (omega (arith, lt)) within)

-- an interval more
pub one_interval : (es : List ℤ) (bottom top : ℤ) (k : ℕ) (rects : List Rect) (r : Rect) → IsCanonical es → bottom <ℤ top → k + 1 < length es → sides_of r ≡ sides (next_edge es k) bottom (next_edge es (k + 1)) top
    → AreIntervals es bottom top k rects → AreIntervals es bottom top (k + 2) (rects ++ r ∷ [])
one_interval es bottom top k rects r canonical tall within r_is so_far = record {
  within = omega (arith, within);
  even = even_twice k so_far.even;
  each = All-push (λ s. IsRun (squares_between es bottom top) (sides_of s)) rects r so_far.each run;
  all = λ x y is lt. covered_push rects r x y ∙ by_lt_z x (next_edge es k)
      (λ below. or_left (covered rects x y) (squares r x y) (so_far.all x y is below))
      (λ from. by_lt_z x (next_edge es (k + 1))
      (λ to. or_right (covered rects x y) (squares r x y) (held x y from to (and_second (inside es x) (is_between bottom top y) is)))
      (λ past. absurd (true_false (inside es x) (and_first (inside es x) (is_between bottom top y) is) (empty_after es k x canonical so_far.even within past lt))));
  row = record {
    rising = rising_push rects r so_far.row.rising (All-weaker (λ s. s.x1 <ℤ next_edge es k) (λ s. s.x1 ≤ℤ r.x1) (λ s lt. reach s.x1 (next_edge es k) r.x1 lt left) rects so_far.left);
    bottoms = All-push (λ s. s.y1 ≡ bottom) rects r so_far.row.bottoms low;
    tops = All-push (λ s. s.y2 ≡ top) rects r so_far.row.tops high;
  };
  left = All-push (λ s. s.x1 <ℤ next_edge es (k + 2)) rects r (All-weaker (λ s. s.x1 <ℤ next_edge es k) (λ s. s.x1 <ℤ next_edge es (k + 2)) (λ s lt. further s.x1 (next_edge es k) (next_edge es (k + 2)) lt two_on) rects so_far.left) (rw left two_on);
}
  where
    reach : (a b c : ℤ) → a <ℤ b → c ≡ b → a ≤ℤ c
    reach a b c lt is = omega (arith, ints)

    further : (a b c : ℤ) → a <ℤ b → b <ℤ c → a <ℤ c
    further a b c h g = omega (arith, ints)

    two_on : next_edge es k <ℤ next_edge es (k + 2)
    two_on = further (next_edge es k) (next_edge es (k + 1)) (next_edge es (k + 2)) (chain_next floor ceiling es k (omega (arith, within)) canonical.rising) (rw two at (chain_next floor ceiling es (k + 1) within canonical.rising))
      where
        two : (k + 1) + 1 ≡ k + 2
        two = omega arith

    left : r.x1 ≡ next_edge es k
    left = ap (λ s. s.left) r_is

    right : r.x2 ≡ next_edge es (k + 1)
    right = ap (λ s. s.right) r_is

    low : r.y1 ≡ bottom
    low = ap (λ s. s.bottom) r_is

    high : r.y2 ≡ top
    high = ap (λ s. s.top) r_is

    held : (x y : ℤ) → next_edge es k ≤ℤ x → x <ℤ next_edge es (k + 1) → is_between bottom top y ≡ true → squares r x y ≡ true
    held x y from to up = rw (left, right, low, high, is_between_true (next_edge es k) (next_edge es (k + 1)) x from to) up

    row_is : (x y : ℤ) → bottom ≤ℤ y → y <ℤ top → squares_between es bottom top x y ≡ inside es x
    row_is x y from to = rw (is_between_true bottom top y from to) (and_true (inside es x))
      where
        and_true : (b : Bool) → (b && true) ≡ b
        and_true true = refl
        and_true false = refl

    interval : (y : ℤ) → bottom ≤ℤ y → y <ℤ top → IsInterval (squares_between es bottom top) (next_edge es k) (next_edge es (k + 1)) y
    interval y from to = record {
      filled = λ x a b. row_is x y from to ∙ filled es k x canonical so_far.even within a b;
      before = row_is (next_edge es k -ℤ pos 1) y from to ∙ empty_before es k canonical so_far.even (omega (arith, within));
      after = row_is (next_edge es (k + 1)) y from to ∙ empty_at es k canonical so_far.even within;
    }

    wide : next_edge es k <ℤ next_edge es (k + 1)
    wide = chain_next floor ceiling es k (omega (arith, within)) canonical.rising

    under : IsInterval (squares_between es bottom top) (next_edge es k) (next_edge es (k + 1)) (bottom -ℤ pos 1) → ⊥
    under i = true_false (squares_between es bottom top (next_edge es k) (bottom -ℤ pos 1)) (i.filled (next_edge es k) (le_self (next_edge es k)) wide)
        (rw (is_between_below bottom top (bottom -ℤ pos 1) (less bottom)) (and_false (inside es (next_edge es k))))
      where
        less : (e : ℤ) → (e -ℤ pos 1) <ℤ e
        less e = omega (arith, ints)

    over : IsInterval (squares_between es bottom top) (next_edge es k) (next_edge es (k + 1)) top → ⊥
    over i = true_false (squares_between es bottom top (next_edge es k) top) (i.filled (next_edge es k) (le_self (next_edge es k)) wide)
        (rw (is_between_above bottom top top (le_self top)) (and_false (inside es (next_edge es k))))

    run : IsRun (squares_between es bottom top) (sides_of r)
    run = rw r_is (record { wide = wide; tall = tall; rows = interval; begins = under; ends = over })

-- once no two edges are left, those are all
pub all_intervals : (es : List ℤ) (bottom top : ℤ) (k : ℕ) (rects : List Rect) → IsCanonical es → length es ≤ k + 1 → AreIntervals es bottom top k rects → AreRunsOf (squares_between es bottom top) rects
all_intervals es bottom top k rects canonical past so_far = record {
  each = so_far.each;
  all = λ x y is. so_far.all x y is (rw end (below x (and_first (inside es x) (is_between bottom top y) is)));
}
  where
    last : (n k : ℕ) → odd n ≡ false → odd k ≡ false → k ≤ n → n ≤ k + 1 → n ≤ k
    last n k a b h g = grind (arith, nat_tests)

    end : next_edge es k ≡ ceiling
    end = get_or_past es k ceiling (last (length es) k canonical.even so_far.even so_far.within past)

    below : (x : ℤ) → inside es x ≡ true → x <ℤ ceiling
    below x is = by_lt_z x highest (λ lt. omega (arith, ints, lt)) (λ ge. absurd (true_false (inside es x) is (outside_high es x canonical ge)))

-- an edge, as the code reads it
pub edge_read : (es : List ℤ) (k : ℕ) (a p : ℤ) → IsCanonical es → k < length es → a ≡ next_edge es k → p ≡ read32 a → read p ≡ next_edge es k
edge_read es k a p canonical within a_is p_is =
    let inner = chain_within floor ceiling es k within canonical.rising in
    rw (p_is, a_is, fits32 (next_edge es k) inner.0 inner.1) (fits64 (next_edge es k) inner.0 inner.1)
  where
    fits32 : (e : ℤ) → floor <ℤ e → e <ℤ ceiling → read32 e ≡ e
    fits32 e low high = read32_is e (omega (arith, ints))

    fits64 : (e : ℤ) → floor <ℤ e → e <ℤ ceiling → read e ≡ e
    fits64 e low high = read_is e (omega (arith, ints))
