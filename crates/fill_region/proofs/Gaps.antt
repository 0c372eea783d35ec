-- Rectangles of one row with gaps between them: they are the runs of their squares.
use Rattle.std.proofs.Common.{◌≡◌, ℕ, zero, suc, ◌<◌, ℤ, pos, ◌-ℤ◌, ◌≤ℤ◌, ◌<ℤ◌, Bool, true, false, ◌&&◌, ◌||◌, List, [], ◌∷◌, ◌++◌, length, take, get_or, refl, sym, ◌∙◌, ap, subst, arith, ◌⊎◌, inl, inr, ⊎_elim, ◌+◌, add-one}
use Rattle.std.specs.Prelude.{All}
use Rattle.std.specs.List.{Contains}
use Rattle.std.specs.Int.{int_max}
use Rattle.std.proofs.lemmas.Bool.{false_from_ne_true}
use Rattle.std.proofs.lemmas.Int.{ints, clamps}
use Rattle.std.proofs.lemmas.List.{get_or-take, get_or_default, length-take-le}
use Rattle.std.proofs.lemmas.List.Elements.{All-contains, All-contains_itself, All-nil, All-push, All-tail, All-weaker, Contains-append_left, Contains-append_right}
use Rattle.fill_base.specs.declared.rect.Rect.{Rect}
use Rattle.fill_base.specs.Counts.{is_between}
use Rattle.fill_base.specs.Sides.{sides, sides_of}
use Rattle.fill_base.specs.Squares.{squares}
use Rattle.fill_base.proofs.Between.{is_between_true}
use Rattle.fill_spans.specs.Columns.{IsRisingBy}
use Rattle.fill_bands.specs.Squares.{covered}
use Rattle.fill_region.specs.Runs.{IsRun}
use Rattle.fill_region.specs.Steps.{AreRunsOf, IsRow}
use Rattle.fill_region.proofs.Clipping.{square_in}
use Rattle.fill_region.proofs.Levels.{le_self}
use Rattle.fill_region.proofs.Members.{holder, held, square_within, covered_push}

-- each ends left of where a later one begins
abbrev pub HaveGaps : List Rect → Type 0
HaveGaps [] = Unit {0}
HaveGaps (r ∷ rest) = All (λ s. r.x2 <ℤ s.x1) rest × HaveGaps rest

gaps_push : (xs : List Rect) (d : Rect) → HaveGaps xs → All (λ r. r.x2 <ℤ d.x1) xs → HaveGaps (xs ++ d ∷ [])
gaps_push [] d gaps before = (All-nil (λ s. d.x2 <ℤ s.x1), tt)
gaps_push (r ∷ xs) d gaps before = (All-push (λ s. r.x2 <ℤ s.x1) xs d gaps.0 (before 0 r (omega arith)), gaps_push xs d gaps.1 (All-tail (λ s. s.x2 <ℤ d.x1) r xs before))

-- two of them
abbrev AreBeside : Rect → Rect → Type 0
AreBeside r s = (r ≡ s) ⊎ ((r.x2 <ℤ s.x1) ⊎ (s.x2 <ℤ r.x1))

beside : (xs : List Rect) (r s : Rect) → HaveGaps xs → Contains xs r → Contains xs s → AreBeside r s
beside [] r s gaps (k, lt, at) more = absurd (omega (arith, lt))
beside (w ∷ xs) r s gaps (zero, lt, at) (zero, lt', at') = inl (sym at ∙ at')
beside (w ∷ xs) r s gaps (zero, lt, at) (suc j, lt', at') = inr (inl (subst (λ z. z.x2 <ℤ s.x1) at (All-contains (λ s. w.x2 <ℤ s.x1) xs s gaps.0 (j, omega (arith, lt'), at'))))
beside (w ∷ xs) r s gaps (suc k, lt, at) (zero, lt', at') = inr (inr (subst (λ z. z.x2 <ℤ r.x1) at' (All-contains (λ r. w.x2 <ℤ r.x1) xs r gaps.0 (k, omega (arith, lt), at))))
beside (w ∷ xs) r s gaps (suc k, lt, at) (suc j, lt', at') = beside xs r s gaps.1 (k, omega (arith, lt), at) (j, omega (arith, lt'), at')

-- they are runs of their squares
gap_runs : (bottom top : ℤ) (xs : List Rect) → HaveGaps xs → All (λ r. r.y1 ≡ bottom) xs → All (λ r. r.y2 ≡ top) xs → AreRunsOf (covered xs) xs
gap_runs bottom top xs gaps bottoms tops = record {
  each = All-weaker (Contains xs) (λ r. IsRun (covered xs) (sides_of r)) run xs (All-contains_itself xs);
  all = λ x y is. is;
}
  where
    low : (r : Rect) → Contains xs r → r.y1 ≡ bottom
    low r among = All-contains (λ r. r.y1 ≡ bottom) xs r bottoms among

    high : (r : Rect) → Contains xs r → r.y2 ≡ top
    high r among = All-contains (λ r. r.y2 ≡ top) xs r tops among

    left_of : (a b c d x : ℤ) → a <ℤ b → x ≡ a -ℤ pos 1 → c ≤ℤ x → x <ℤ d → (b <ℤ c) ⊎ (d <ℤ a) → ⊥
    left_of a b c d x wide is from to (inl gap) = omega (arith, ints)
    left_of a b c d x wide is from to (inr gap) = omega (arith, ints)

    right_of : (a b c d : ℤ) → a <ℤ b → c ≤ℤ b → b <ℤ d → (b <ℤ c) ⊎ (d <ℤ a) → ⊥
    right_of a b c d wide from to (inl gap) = omega (arith, ints)
    right_of a b c d wide from to (inr gap) = omega (arith, ints)

    not_left : (a x : ℤ) → x ≡ a -ℤ pos 1 → a ≤ℤ x → ⊥
    not_left a x is le = omega (arith, ints)

    not_right : (b : ℤ) → b <ℤ b → ⊥
    not_right b lt = omega (arith, ints)

    before : (r : Rect) (y : ℤ) → Contains xs r → covered xs (r.x1 -ℤ pos 1) y ≡ true → ⊥
    before r y among is =
        let h = holder xs (r.x1 -ℤ pos 1) y is in
        let w = square_within h.rect (r.x1 -ℤ pos 1) y h.holds_it in
        ⊎_elim (λ same. not_left r.x1 (r.x1 -ℤ pos 1) refl (subst (λ z. z.x1 ≤ℤ (r.x1 -ℤ pos 1)) (sym same) w.0.0)) (λ apart. left_of r.x1 r.x2 h.rect.x1 h.rect.x2 (r.x1 -ℤ pos 1) r.wide refl w.0.0 w.0.1 apart)
        (beside xs r h.rect gaps among h.among)

    after : (r : Rect) (y : ℤ) → Contains xs r → covered xs r.x2 y ≡ true → ⊥
    after r y among is =
        let h = holder xs r.x2 y is in
        let w = square_within h.rect r.x2 y h.holds_it in
        ⊎_elim (λ same. not_right r.x2 (subst (λ z. r.x2 <ℤ z.x2) (sym same) w.0.1)) (λ apart. right_of r.x1 r.x2 h.rect.x1 h.rect.x2 r.wide w.0.0 w.0.1 apart)
        (beside xs r h.rect gaps among h.among)

    below : (a b : ℤ) → a ≡ b → a ≤ℤ (b -ℤ pos 1) → ⊥
    below a b is le = omega (arith, ints)

    above : (a b : ℤ) → a ≡ b → b <ℤ a → ⊥
    above a b is lt = omega (arith, ints)

    run : (r : Rect) → Contains xs r → IsRun (covered xs) (sides_of r)
    run r among = record {
      wide = r.wide;
      tall = r.tall;
      rows = λ y from to. record {
        filled = λ x a b. held xs r x y among (square_in r x y a b from to);
        before = false_from_ne_true (covered xs (r.x1 -ℤ pos 1) y) (before r y among);
        after = false_from_ne_true (covered xs r.x2 y) (after r y among);
      };
      begins = λ i. let h = holder xs r.x1 (r.y1 -ℤ pos 1) (i.filled r.x1 (le_self r.x1) r.wide) in
          below h.rect.y1 r.y1 (low h.rect h.among ∙ sym (low r among)) (square_within h.rect r.x1 (r.y1 -ℤ pos 1) h.holds_it).1.0;
      ends = λ i. let h = holder xs r.x1 r.y2 (i.filled r.x1 (le_self r.x1) r.wide) in
          above h.rect.y2 r.y2 (high h.rect h.among ∙ sym (high r among)) (square_within h.rect r.x1 r.y2 h.holds_it).1.1;
    }

-- by their left edges
gaps_rising : (xs : List Rect) → HaveGaps xs → IsRisingBy (λ r. r.x1) xs
gaps_rising [] gaps i j d le lt = absurd (omega (arith, lt))
gaps_rising (r ∷ xs) gaps zero zero d le lt = le_self r.x1
gaps_rising (r ∷ xs) gaps zero (suc j) d le lt = far r.x1 r.x2 (get_or xs j d).x1 r.wide (gaps.0 j d (omega (arith, lt)))
  where
    far : (a b c : ℤ) → a <ℤ b → b <ℤ c → a ≤ℤ c
    far a b c h k = omega (arith, ints)
gaps_rising (r ∷ xs) gaps (suc i) zero d le lt = absurd (omega (arith, le))
gaps_rising (r ∷ xs) gaps (suc i) (suc j) d le lt = gaps_rising xs gaps.1 i j d (omega (arith, le)) (omega (arith, lt))

-- ---- the intervals so far

-- those that have ended, and the one that may go on, of the rectangles passed
pub record Opened (passed : List Rect) (bottom top : ℤ) (row : List Rect) (last : Rect) : Type 0 where
  pub gaps : HaveGaps row
  pub before : All (λ r. r.x2 <ℤ last.x1) row
  pub bottoms : All (λ r. r.y1 ≡ bottom) row
  pub tops : All (λ r. r.y2 ≡ top) row
  pub bottom_is : last.y1 ≡ bottom
  pub top_is : last.y2 ≡ top
  pub left : (x : ℤ) → All (λ r. r.x1 ≤ℤ x) passed → last.x1 ≤ℤ x
  pub same : (x y : ℤ) → bottom ≤ℤ y → y <ℤ top → covered (row ++ last ∷ []) x y ≡ covered passed x y

-- the rectangle has the same columns in the rows between the lines
columns : (r d : Rect) (bottom top x y : ℤ) → sides_of r ≡ sides d.x1 bottom d.x2 top → d.y1 ≤ℤ bottom → top ≤ℤ d.y2 → bottom ≤ℤ y → y <ℤ top → squares r x y ≡ squares d x y
columns r d bottom top x y is low high from to =
    let x1 : r.x1 ≡ d.x1 = ap (λ s. s.left) is in let x2 : r.x2 ≡ d.x2 = ap (λ s. s.right) is in
    let y1 : r.y1 ≡ bottom = ap (λ s. s.bottom) is in let y2 : r.y2 ≡ top = ap (λ s. s.top) is in
    rw (x1, x2, y1, y2, is_between_true bottom top y from to, is_between_true d.y1 d.y2 y (le_le d.y1 bottom y low from) (lt_le y top d.y2 to high)) refl
  where
    le_le : (a b c : ℤ) → a ≤ℤ b → b ≤ℤ c → a ≤ℤ c
    le_le a b c h k = omega (arith, ints)

    lt_le : (a b c : ℤ) → a <ℤ b → b ≤ℤ c → a <ℤ c
    lt_le a b c h k = omega (arith, ints)

-- the first one
pub one_opened : (first last : Rect) (bottom top : ℤ) → sides_of last ≡ sides first.x1 bottom first.x2 top → first.y1 ≤ℤ bottom → top ≤ℤ first.y2 → Opened (first ∷ []) bottom top [] last
one_opened first last bottom top is low high = record {
  gaps = tt;
  before = All-nil (λ r. r.x2 <ℤ last.x1);
  bottoms = All-nil (λ r. r.y1 ≡ bottom);
  tops = All-nil (λ r. r.y2 ≡ top);
  bottom_is = ap (λ s. s.bottom) is;
  top_is = ap (λ s. s.top) is;
  left = λ x all. subst (λ z. z ≤ℤ x) (sym (ap (λ s. s.left) is)) (all 0 first (omega arith));
  same = λ x y from to. ap (λ b. b || false) (columns last first bottom top x y is low high from to);
}

-- one behind a gap
pub gap_opened : (passed : List Rect) (d last new : Rect) (bottom top : ℤ) (row : List Rect) → last.x2 <ℤ d.x1 → sides_of new ≡ sides d.x1 bottom d.x2 top → d.y1 ≤ℤ bottom → top ≤ℤ d.y2
    → Opened passed bottom top row last → Opened (passed ++ d ∷ []) bottom top (row ++ last ∷ []) new
gap_opened passed d last new bottom top row gap is low high o = record {
  gaps = gaps_push row last o.gaps o.before;
  before = All-push (λ r. r.x2 <ℤ new.x1) row last (All-weaker (λ r. r.x2 <ℤ last.x1) (λ r. r.x2 <ℤ new.x1) (λ r lt. far r.x2 last.x1 last.x2 d.x1 new.x1 lt last.wide gap left_is) row o.before) (rw left_is gap);
  bottoms = All-push (λ r. r.y1 ≡ bottom) row last o.bottoms o.bottom_is;
  tops = All-push (λ r. r.y2 ≡ top) row last o.tops o.top_is;
  bottom_is = ap (λ s. s.bottom) is;
  top_is = ap (λ s. s.top) is;
  left = λ x all. subst (λ z. z ≤ℤ x) (sym left_is) (All-contains (λ r. r.x1 ≤ℤ x) (passed ++ d ∷ []) d all (ending passed d));
  same = λ x y from to. covered_push (row ++ last ∷ []) new x y ∙ (both (covered (row ++ last ∷ []) x y) (covered passed x y) (squares new x y) (squares d x y) (o.same x y from to) (columns new d bottom top x y is low high from to)
      ∙ sym (covered_push passed d x y));
}
  where
    left_is : new.x1 ≡ d.x1
    left_is = ap (λ s. s.left) is

    far : (a b c d e : ℤ) → a <ℤ b → b <ℤ c → c <ℤ d → e ≡ d → a <ℤ e
    far a b c d e h k l is = omega (arith, ints)

    both : (a b c e : Bool) → a ≡ b → c ≡ e → (a || c) ≡ (b || e)
    both a b c e h k = rw (h, k) refl

    ending : (xs : List Rect) (d : Rect) → Contains (xs ++ d ∷ []) d
    ending xs d = Contains-append_right xs (d ∷ []) d (one d)
      where
        one : (r : Rect) → Contains (r ∷ []) r
        one r = (0, omega arith, refl)

-- one that the last interval reaches
pub long_opened : (passed : List Rect) (d last new : Rect) (bottom top : ℤ) (row : List Rect) → d.x1 ≤ℤ last.x2 → All (λ r. r.x1 ≤ℤ d.x1) passed → sides_of new ≡ sides last.x1 last.y1 (int_max last.x2 d.x2) last.y2
    → d.y1 ≤ℤ bottom → top ≤ℤ d.y2 → Opened passed bottom top row last → Opened (passed ++ d ∷ []) bottom top row new
long_opened passed d last new bottom top row reach lefts is low high o = record {
  gaps = o.gaps;
  before = All-weaker (λ r. r.x2 <ℤ last.x1) (λ r. r.x2 <ℤ new.x1) (λ r lt. subst (λ z. r.x2 <ℤ z) (sym left_is) lt) row o.before;
  bottoms = o.bottoms;
  tops = o.tops;
  bottom_is = ap (λ s. s.bottom) is ∙ o.bottom_is;
  top_is = ap (λ s. s.top) is ∙ o.top_is;
  left = λ x all. subst (λ z. z ≤ℤ x) (sym left_is) (o.left x (All-weaker (Contains passed) (λ r. r.x1 ≤ℤ x) (λ r among. All-contains (λ r. r.x1 ≤ℤ x) (passed ++ d ∷ []) r all (Contains-append_left passed (d ∷ []) r among)) passed (All-contains_itself passed)));
  same = λ x y from to. covered_push row new x y ∙ (three (covered row x y) (squares last x y) (squares d x y) (squares new x y) (covered passed x y) (new_squares x y from to) (sym (covered_push row last x y) ∙ o.same x y from to)
      ∙ sym (covered_push passed d x y));
}
  where
    left_is : new.x1 ≡ last.x1
    left_is = ap (λ s. s.left) is

    right_is : new.x2 ≡ int_max last.x2 d.x2
    right_is = ap (λ s. s.right) is

    low_is : new.y1 ≡ bottom
    low_is = ap (λ s. s.bottom) is ∙ o.bottom_is

    high_is : new.y2 ≡ top
    high_is = ap (λ s. s.top) is ∙ o.top_is

    le_le : (a b c : ℤ) → a ≤ℤ b → b ≤ℤ c → a ≤ℤ c
    le_le a b c h k = omega (arith, ints)

    lt_le : (a b c : ℤ) → a <ℤ b → b ≤ℤ c → a <ℤ c
    lt_le a b c h k = omega (arith, ints)

    spanned : (a b c e m x : ℤ) → m ≡ int_max b e → a ≤ℤ c → c ≤ℤ b → a <ℤ b → c <ℤ e → is_between a m x ≡ (is_between a b x || is_between c e x)
    spanned a b c e m x is from reach wide long = grind (arith, ints, clamps)

    three : (a b c n p : Bool) → n ≡ (b || c) → (a || b) ≡ p → (a || n) ≡ (p || c)
    three true b c n p h k = rw (sym k) refl
    three false b c n p h k = h ∙ rw k refl

    drop_true : (a b : Bool) → b ≡ true → (a && b) ≡ a
    drop_true true b h = h
    drop_true false b h = refl

    new_squares : (x y : ℤ) → bottom ≤ℤ y → y <ℤ top → squares new x y ≡ (squares last x y || squares d x y)
    new_squares x y from to =
        drop_true (is_between new.x1 new.x2 x) (is_between new.y1 new.y2 y) (rw (low_is, high_is) (is_between_true bottom top y from to))
        ∙ (rw (left_is) (spanned last.x1 last.x2 d.x1 d.x2 new.x2 x right_is (o.left d.x1 lefts) reach last.wide d.wide)
        ∙ join (is_between last.x1 last.x2 x) (squares last x y) (is_between d.x1 d.x2 x) (squares d x y)
        (drop_true (is_between last.x1 last.x2 x) (is_between last.y1 last.y2 y) (rw (o.bottom_is, o.top_is) (is_between_true bottom top y from to)))
        (drop_true (is_between d.x1 d.x2 x) (is_between d.y1 d.y2 y) (is_between_true d.y1 d.y2 y (le_le d.y1 bottom y low from) (lt_le y top d.y2 to high))))
      where
        join : (a b c e : Bool) → b ≡ a → e ≡ c → (a || c) ≡ (b || e)
        join a b c e h k = rw (h, k) refl

-- the last one put to the others
pub all_opened : (passed : List Rect) (bottom top : ℤ) (row : List Rect) (last : Rect) → Opened passed bottom top row last → AreRunsOf (covered (row ++ last ∷ [])) (row ++ last ∷ []) × IsRow bottom top (row ++ last ∷ [])
all_opened passed bottom top row last o =
    let gaps = gaps_push row last o.gaps o.before in
    let bottoms = All-push (λ r. r.y1 ≡ bottom) row last o.bottoms o.bottom_is in
    let tops = All-push (λ r. r.y2 ≡ top) row last o.tops o.top_is in
    (gap_runs bottom top (row ++ last ∷ []) gaps bottoms tops, record { rising = gaps_rising (row ++ last ∷ []) gaps; bottoms = bottoms; tops = tops })

-- no rectangle at all
pub none_opened : (bottom top : ℤ) → AreRunsOf (covered []) [] × IsRow bottom top []
none_opened bottom top = (
  gap_runs bottom top [] tt (All-nil (λ r. r.y1 ≡ bottom)) (All-nil (λ r. r.y2 ≡ top)),
  record { rising = gaps_rising [] tt; bottoms = All-nil (λ r. r.y1 ≡ bottom); tops = All-nil (λ r. r.y2 ≡ top) },
)

-- ---- the rectangles passed

-- the rectangle behind the first one and `k` others
pub item_of : (all : List Rect) (first : Rect) (rest : List Rect) (k : ℕ) (d : Rect) → all ≡ first ∷ rest → k < length rest → d ≡ get_or rest k d → (k + 1 < length all) × (d ≡ get_or all (k + 1) d)
item_of all first rest k d is lt at = rw (is, add-one) (omega (arith, lt), at)

pub first_of : (all : List Rect) (first : Rect) (rest : List Rect) → all ≡ first ∷ rest → take 1 all ≡ first ∷ []
first_of all first rest is = rw is refl

-- those before one begin no further right
pub passed_left : (all : List Rect) (n : ℕ) (d : Rect) → IsRisingBy (λ r. r.x1) all → n < length all → d ≡ get_or all n d → All (λ r. r.x1 ≤ℤ d.x1) (take n all)
passed_left all n d rising lt is i e within =
    let here : i < n = rw (length-take-le n all (omega (arith, lt))) at within in
    rw (get_or-take n all i e here) (subst (λ z. (get_or all i e).x1 ≤ℤ z.x1) (get_or_default all n e d lt ∙ sym is) (rising i n e (omega (arith, here)) lt))
