-- Joining intervals that come by their left ends.
use Rattle.std.proofs.Common.{◌≡◌, ℕ, suc, ◌+◌, ◌≤◌, ◌<◌, ℤ, pos, ◌+ℤ◌, ◌≤ℤ◌, ◌<ℤ◌, List, [], ◌∷◌, ◌++◌, length, get_or, take, refl, arith, ap, ◌∙◌, sym, w32, FitsSigned, Bool, true, false, ◌||◌, inl, inr}
use Rattle.std.specs.Int.{int_max}
use Rattle.std.proofs.lemmas.Int.{ints, clamps, by_lt_z}
use Rattle.std.proofs.lemmas.List.{take_all, get_or_default}
use Rattle.std.proofs.lemmas.List.Folds.{list_any_more}
use Rattle.fill_base.specs.declared.rect.Rect.{Rect}
use Rattle.fill_base.specs.Counts.{is_between}
use Rattle.fill_base.specs.Coordinates.{lowest, highest}
use Rattle.fill_base.proofs.Signed.{read, read_is, read32, read32_is, coordinate_fits, coordinate_fits32, lt_le, le_trans}
use Rattle.fill_spans.specs.Spans.{inside, Chain, floor, ceiling, odd, IsCanonical}
use Rattle.fill_spans.specs.Columns.{has_column, IsRisingBy}
use Rattle.fill_spans.specs.Gaps.{GapPut}
use Rattle.fill_spans.proofs.Chains.{chain_raise, chain_push, chain_lt, inside_past, inside_push_below, not_odd}

-- the open interval of `edges` ends at `end`: the set so far
abbrev pub closed : List ℤ → ℤ → List ℤ
closed edges end = edges ++ end ∷ []

pub record IsOpen (edges : List ℤ) (left end : ℤ) : Type 0 where
  pub begun : Chain floor edges (left +ℤ pos 1)
  pub rising : Chain floor edges end
  pub one_more : odd (length edges) ≡ true
  pub low : end ≤ℤ highest

length_push : (es : List ℤ) (e : ℤ) → length (es ++ e ∷ []) ≡ suc (length es)
length_push [] e = refl
length_push (d ∷ es) e = ap suc (length_push es e)

push_two : (es : List ℤ) (d e : ℤ) → es ++ d ∷ e ∷ [] ≡ (es ++ d ∷ []) ++ e ∷ []
push_two [] d e = refl
push_two (c ∷ es) d e = ap (λ z. c ∷ z) (push_two es d e)

odd_push : (es : List ℤ) (e : ℤ) → odd (length es) ≡ true → odd (length (es ++ e ∷ [])) ≡ false
odd_push es e h = rw (length_push es e) (sym (not_odd (length es)) ∙ rw h refl)

even_push : (es : List ℤ) (e : ℤ) → odd (length es) ≡ false → odd (length (es ++ e ∷ [])) ≡ true
even_push es e h = rw (length_push es e) (sym (not_odd (length es)) ∙ rw h refl)

-- the set in the open interval, and past its end
in_open : (edges : List ℤ) (left end x : ℤ) → IsOpen edges left end → left ≤ℤ x → x <ℤ end → inside (closed edges end) x ≡ true
in_open edges left end x o le lt = inside_push_below end x edges lt ∙ (inside_past floor (left +ℤ pos 1) x edges o.begun (omega (arith, ints)) ∙ o.one_more)

past_end : (edges : List ℤ) (left end x : ℤ) → IsOpen edges left end → end ≤ℤ x → inside (closed edges end) x ≡ false
past_end edges left end x o le =
    inside_past floor (x +ℤ pos 1) x (closed edges end) (chain_push floor end (x +ℤ pos 1) edges o.rising (omega (arith, ints))) (omega (arith, ints))
    ∙ odd_push edges end o.one_more

between_yes : (a b x : ℤ) → a ≤ℤ x → x <ℤ b → is_between a b x ≡ true
between_yes a b x h k = grind (arith, ints)

between_left : (a b x : ℤ) → x <ℤ a → is_between a b x ≡ false
between_left a b x h = grind (arith, ints)

between_right : (a b x : ℤ) → b ≤ℤ x → is_between a b x ≡ false
between_right a b x h = grind (arith, ints)

or_false : (b c : Bool) → c ≡ false → b ≡ (b || c)
or_false true c h = refl
or_false false c h = sym h

or_true : (b c : Bool) → c ≡ true → true ≡ (b || c)
or_true true c h = refl
or_true false c h = sym h

-- an interval from `a` to `b` that begins in the open one, or where that ends
pub grown : (edges : List ℤ) (left end a b : ℤ) → IsOpen edges left end → left ≤ℤ a → a ≤ℤ end → a <ℤ b → b ≤ℤ highest → IsOpen edges a (int_max end b)
grown edges left end a b o le meet wide most = record {
  begun = chain_raise floor (left +ℤ pos 1) (a +ℤ pos 1) edges o.begun (omega (arith, ints));
  rising = chain_raise floor end (int_max end b) edges o.rising (omega (arith, ints, clamps));
  one_more = o.one_more;
  low = let l : end ≤ℤ highest = o.low in omega (arith, ints, clamps);
}

grown_members : (edges : List ℤ) (left end a b x : ℤ) → IsOpen edges left end → left ≤ℤ a → a ≤ℤ end → a <ℤ b → b ≤ℤ highest
    → inside (closed edges (int_max end b)) x ≡ (inside (closed edges end) x || is_between a b x)
grown_members edges left end a b x o le meet wide most =
    let o' = grown edges left end a b o le meet wide most in
    by_lt_z x a
    (λ lt. inside_push_below (int_max end b) x edges (omega (arith, ints, clamps)) ∙ (sym (inside_push_below end x edges (omega (arith, ints)))
    ∙ or_false (inside (closed edges end) x) (is_between a b x) (between_left a b x lt)))
    (λ ge. by_lt_z x (int_max end b)
    (λ lt. in_open edges a (int_max end b) x o' ge lt ∙ covers x ge lt)
    (λ past. past_end edges a (int_max end b) x o' past ∙ rw (past_end edges left end x o (omega (arith, ints, clamps)), between_right a b x (omega (arith, ints, clamps))) refl))
  where
    covers : (x : ℤ) → a ≤ℤ x → x <ℤ int_max end b → true ≡ (inside (closed edges end) x || is_between a b x)
    covers x ge lt = by_lt_z x end
        (λ h. rw (in_open edges left end x o (omega (arith, ints)) h) refl)
        (λ h. or_true (inside (closed edges end) x) (is_between a b x) (between_yes a b x ge (omega (arith, ints, clamps))))

-- an interval that begins past the open one's end
pub parted : (edges : List ℤ) (left end a b : ℤ) → IsOpen edges left end → left ≤ℤ a → end <ℤ a → a <ℤ b → b ≤ℤ highest
    → IsOpen (edges ++ end ∷ a ∷ []) a (int_max end b)
parted edges left end a b o le gap wide most =
    let first : Chain floor (closed edges end) a = chain_push floor end a edges o.rising gap in
    record {
      begun = rw (push_two edges end a) (chain_push floor a (a +ℤ pos 1) (closed edges end) first (omega (arith, ints)));
      rising = rw (push_two edges end a) (chain_push floor a (int_max end b) (closed edges end) first (omega (arith, ints, clamps)));
      one_more = rw (push_two edges end a) (even_push (closed edges end) a (odd_push edges end o.one_more));
      low = let l : end ≤ℤ highest = o.low in omega (arith, ints, clamps);
    }

parted_members : (edges : List ℤ) (left end a b x : ℤ) → IsOpen edges left end → left ≤ℤ a → end <ℤ a → a <ℤ b → b ≤ℤ highest
    → inside (closed (edges ++ end ∷ a ∷ []) (int_max end b)) x ≡ (inside (closed edges end) x || is_between a b x)
parted_members edges left end a b x o le gap wide most =
    let o' = parted edges left end a b o le gap wide most in
    by_lt_z x a
    (λ lt. inside_push_below (int_max end b) x (edges ++ end ∷ a ∷ []) (omega (arith, ints, clamps))
    ∙ (rw (push_two edges end a) (inside_push_below a x (closed edges end) lt)
    ∙ or_false (inside (closed edges end) x) (is_between a b x) (between_left a b x lt)))
    (λ ge. rw (past_end edges left end x o (omega (arith, ints))) (by_lt_z x (int_max end b)
    (λ lt. in_open (edges ++ end ∷ a ∷ []) a (int_max end b) x o' ge lt ∙ sym (between_yes a b x ge (omega (arith, ints, clamps))))
    (λ past. past_end (edges ++ end ∷ a ∷ []) a (int_max end b) x o' past ∙ sym (between_right a b x (omega (arith, ints, clamps))))))

-- the walk has come to the rectangle at `k`
pub record Joins (rects : List Rect) (k : ℕ) (edges : List ℤ) (end : ℤ) : Type 0 where
  pub within : k < length rects
  pub ends : (d : Rect) → IsOpen edges (get_or rects k d).x1 end
  pub members : (x : ℤ) → inside (closed edges end) x ≡ has_column (take (k + 1) rects) x

pub joins_first : (rects rest : List Rect) (r : Rect) → rects ≡ r ∷ rest → Joins rects 0 (r.x1 ∷ []) r.x2
joins_first rects rest r is = rw is (record {
  within = omega arith;
  ends = λ d. one_open r;
  members = λ x. one_has r x;
})
  where
    one_open : (r : Rect) → IsOpen (r.x1 ∷ []) r.x1 r.x2
    one_open r = let low = r.left in let wide = r.wide in record {
      begun = (omega (arith, ints), omega (arith, ints));
      rising = (omega (arith, ints), wide);
      one_more = refl;
      low = r.right;
    }

    one_has : (r : Rect) (x : ℤ) → inside (closed (r.x1 ∷ []) r.x2) x ≡ (is_between r.x1 r.x2 x || false)
    one_has r x = let wide = r.wide in grind (arith, ints)

joins_more : (rects : List Rect) (k : ℕ) (q : Rect) (old new : List ℤ) (end end' : ℤ) → k + 1 < length rects → ((d : Rect) → get_or rects (k + 1) d ≡ q)
    → IsOpen new q.x1 end' → ((x : ℤ) → inside (closed new end') x ≡ (inside (closed old end) x || is_between q.x1 q.x2 x)) → Joins rects k old end → Joins rects (k + 1) new end'
joins_more rects k q old new end end' more item is_open members j = record {
  within = more;
  ends = λ d. rw (item d) is_open;
  members = λ x. members x ∙ (rw (j.members x) (ap (λ r. has_column (take (k + 1) rects) x || is_between r.x1 r.x2 x) (sym (item q)))
      ∙ sym (list_any_more (λ r. is_between r.x1 r.x2 x) rects (k + 1) q more));
}

pub joins_step : (rects : List Rect) (k : ℕ) (q : Rect) (old new : List ℤ) (end : ℤ) → k + 1 < length rects → ((d : Rect) → get_or rects (k + 1) d ≡ q)
    → IsRisingBy (λ r. r.x1) rects → GapPut end q.x1 old new → Joins rects k old end → Joins rects (k + 1) new (int_max end q.x2)
joins_step rects k q old new end more item rising put j =
    let o = j.ends q in
    let left = (get_or rects k q).x1 in
    let le : left ≤ℤ q.x1 = rw (item q) at (rising k (k + 1) q (omega arith) more) in
    elim put [
      | inl h ↦ rw h.1 (joins_more rects k q old (old ++ end ∷ q.x1 ∷ []) end (int_max end q.x2) more item
          (parted old left end q.x1 q.x2 o le h.0 q.wide q.right) (λ x. parted_members old left end q.x1 q.x2 x o le h.0 q.wide q.right) j)
      | inr h ↦ rw h.1 (joins_more rects k q old old end (int_max end q.x2) more item
          (grown old left end q.x1 q.x2 o le h.0 q.wide q.right) (λ x. grown_members old left end q.x1 q.x2 x o le h.0 q.wide q.right) j)
    ]

pub joins_canonical : (rects : List Rect) (k : ℕ) (edges : List ℤ) (end : ℤ) (d : Rect) → Joins rects k edges end → IsCanonical (closed edges end)
joins_canonical rects k edges end d j =
    let o = j.ends d in
    record {
      rising = chain_push floor end ceiling edges o.rising (let h : end ≤ℤ highest = o.low in omega (arith, ints));
      even = odd_push edges end o.one_more;
    }

pub joins_all : (rects : List Rect) (k : ℕ) (edges : List ℤ) (end : ℤ) → Joins rects k edges end → length rects ≤ k + 1
    → (x : ℤ) → inside (closed edges end) x ≡ has_column rects x
joins_all rects k edges end j all x = j.members x ∙ rw (take_all (k + 1) rects all) refl

-- a coordinate, as the code narrows it
narrow : (z : ℤ) → lowest ≤ℤ z → z ≤ℤ highest → read32 (read z) ≡ z
narrow z low high = ap read32 (read_is z (coordinate_fits z low high)) ∙ read32_is z (coordinate_fits32 z low high)

narrow_x1 : (r : Rect) (x1 : ℤ) → x1 ≡ r.x1 → read32 (read x1) ≡ r.x1
narrow_x1 r x1 is = rw is (narrow r.x1 r.left (le_trans r.x1 r.x2 _ (lt_le r.x1 r.x2 r.wide) r.right))

narrow_x2 : (r : Rect) (x2 : ℤ) → x2 ≡ r.x2 → read32 (read x2) ≡ r.x2
narrow_x2 r x2 is = rw is (narrow r.x2 (le_trans _ r.x1 r.x2 r.left (lt_le r.x1 r.x2 r.wide)) r.right)

pub joins_begin : (rects rest : List Rect) (r : Rect) (x1 x2 : ℤ) (edges : List ℤ) → rects ≡ r ∷ rest → x1 ≡ r.x1 → x2 ≡ r.x2
    → edges ≡ read32 (read x1) ∷ [] → Joins rects 0 edges (read32 (read x2))
joins_begin rects rest r x1 x2 edges is left right put = rw (put, narrow_x1 r x1 left, narrow_x2 r x2 right) (joins_first rects rest r is)

pub joins_turn : (rects rest : List Rect) (r q : Rect) (k : ℕ) (old new : List ℤ) (end x1 x2 end' : ℤ) → rects ≡ r ∷ rest → k < length rest
    → q ≡ get_or rest k q → IsRisingBy (λ z. z.x1) rects → x1 ≡ q.x1 → x2 ≡ q.x2
    → GapPut end (read32 (read x1)) old new → end' ≡ int_max end (read32 (read x2)) → Joins rects k old end → Joins rects (k + 1) new (read32 end')
joins_turn rects rest r q k old new end x1 x2 end' is more item rising left right put most j =
    let o = j.ends r in
    let low : lowest ≤ℤ end = let h : floor <ℤ end = chain_lt floor end old o.rising in omega (arith, ints) in
    let most_is : end' ≡ int_max end q.x2 = most ∙ rw (narrow_x2 q x2 right) refl in
    let within : k + 1 < length rects = rw is (omega arith) in
    let step = joins_step rects k q old new end within (at_next rects rest r q k is more item) rising (rw (narrow_x1 q x1 left) at put) j in
    let fits : read32 (int_max end q.x2) ≡ int_max end q.x2 = read32_is _ (max_fits end q.x2 low o.low q.right) in
    rw (most_is, fits) step
  where
    at_next : (rects rest : List Rect) (r q : Rect) (k : ℕ) → rects ≡ r ∷ rest → k < length rest → q ≡ get_or rest k q → (d : Rect) → get_or rects (k + 1) d ≡ q
    at_next rects rest r q k is more item d = let e : k + 1 ≡ suc k = omega arith in rw (is, e) (get_or_default rest k d q more ∙ sym item)

    max_fits : (a b : ℤ) → lowest ≤ℤ a → a ≤ℤ highest → b ≤ℤ highest → FitsSigned w32 (int_max a b)
    max_fits a b h k l = omega (arith, ints, clamps)
