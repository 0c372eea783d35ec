-- What rectangles have above towers side by side.
use Rattle.std.proofs.Common.{◌≡◌, Bool, true, false, ◌&&◌, ◌||◌, not, ℕ, ◌+◌, ◌-◌, ◌^◌, ◌≤◌, ◌<◌, ℤ, pos, ◌+ℤ◌, ◌-ℤ◌, ◌≤ℤ◌, ◌<ℤ◌, List, [], ◌∷◌, ◌++◌, length, get_or, take, drop, refl, arith, subst, ap, ◌∙◌, sym, w64, FitsSigned, All}
use mir.Val.{bool_byte}
use Rattle.std.specs.Prelude.{int_le}
use Rattle.std.specs.List.{AllWithin}
use Rattle.std.specs.List.Sorted.{IsPartitionedBy, IsPartitionPoint, IsPermutation}
use Rattle.std.proofs.Math.Bool.{and_comm, or-false}
use Rattle.std.proofs.lemmas.Bool.{and_from, and_parts}
use Rattle.std.proofs.lemmas.Int.{ints, clamps, by_lt_z}
use Rattle.std.proofs.lemmas.List.{get_or_default, get_or-take, get_or-drop, length-take-le, length-drop, take-append-drop, take_more, take_all}
use Rattle.std.proofs.lemmas.List.Folds.{list_any-append, list_any_none}
use Rattle.std.proofs.lemmas.List.Sorted.{list_any-IsPermutation}
use Rattle.fill_area.proofs.Begun.{by_lt}
use Rattle.fill_base.specs.declared.rect.Rect.{Rect}
use Rattle.fill_base.specs.Counts.{is_between}
use Rattle.fill_base.specs.Squares.{squares, area_of}
use Rattle.fill_base.proofs.Between.{is_between_true, is_between_below, is_between_above, is_between_bounds}
use Rattle.fill_base.proofs.Signed.{read, read_is, pos_fits, not_le, le_trans, lt_le}
use Rattle.fill_spans.specs.Columns.{IsRisingBy}
use Rattle.fill_region.specs.Squares.{covered}
use Rattle.fill_cells.specs.steps.Skyline.{AreApart, IsOpen, IsSettled, IsSkyline}
use Rattle.fill_area.proofs.SharedAreas.{LiesIn, and_no, and_yes, apart_sum, area_small, lies_in, of_none, same_within, summed}
use Rattle.fill_cells.proofs.Lists.{covered_pushed}
use Rattle.fill_cells.proofs.SharedAreas.{hidden_part}

-- what `partition_point` asks of towers by their right edges, and what it answers
pub left_first : (towers : List Rect) (column : ℤ) → AreApart towers → IsPartitionedBy (λ r. int_le r.x2 column) towers
left_first towers column apart i j d le lt h = by_lt i j
    (λ before. le_le (get_or towers i d).x2 (get_or towers j d).x1 (get_or towers j d).x2 (apart i j d before lt) (get_or towers j d).wide h)
    (λ above. same i j (omega (arith, le, above)) h)
  where
    le_le : (a b c : ℤ) → a ≤ℤ b → b <ℤ c → int_le c column ≡ true → int_le a column ≡ true
    le_le a b c h w k = grind (arith, ints)

    same : (i j : ℕ) → i ≡ j → int_le (get_or towers j d).x2 column ≡ true → int_le (get_or towers i d).x2 column ≡ true
    same i j is h = rw is h

pub left_parted : (towers : List Rect) (column : ℤ) (n : ℕ) → IsPartitionPoint (λ r. int_le r.x2 column ≡ true) (λ r. int_le r.x2 column ≡ false) towers n
    → IsPartitionPoint (λ r. r.x2 ≤ℤ column) (λ r. column <ℤ r.x2) towers n
left_parted towers column n point = ((λ k d low high. yes (get_or towers k d).x2 column (point.0 k d low high)), (λ k d low high. not_le column (get_or towers k d).x2 (point.1 k d low high)))
  where
    yes : (a b : ℤ) → int_le a b ≡ true → a ≤ℤ b
    yes a b h = grind (arith, ints)

-- of so many towers those are counted that end at the column or left of it
pub record IsCounted (towers : List Rect) (column : ℤ) (count k : ℕ) : Type 0 where
  pub within : count ≤ k
  pub ended : AllWithin (λ t. t.x2 ≤ℤ column) towers 0 count
  pub past : AllWithin (λ t. column <ℤ t.x2) towers count k

pub counted_none : (towers : List Rect) (column : ℤ) → IsCounted towers column 0 0
counted_none towers column = record { within = omega arith; ended = λ k d low high. absurd (omega (arith, high)); past = λ k d low high. absurd (omega (arith, high)) }

-- after one that ends right of it none is counted
pub counted_next : (towers : List Rect) (column : ℤ) (count k n : ℕ) (t : Rect) → AreApart towers → IsCounted towers column count k → k < length towers → t ≡ get_or towers k t → n ≡ bool_byte (int_le t.x2 column)
    → IsCounted towers column (count + n) (k + 1)
counted_next towers column count k n t apart counted lt item n_is = either (int_le t.x2 column) refl
  where
    at_k : (d : Rect) → get_or towers k d ≡ t
    at_k d = get_or_default towers k d t lt ∙ sym item

    yes : (a b : ℤ) → int_le a b ≡ true → a ≤ℤ b
    yes a b h = grind (arith, ints)

    here : (i : ℕ) (d : Rect) → i ≡ k → get_or towers i d ≡ t
    here i d is = rw is (at_k d)

    not_both : (a b c m : ℤ) → m <ℤ a → a ≤ℤ b → b <ℤ c → c ≤ℤ m → ⊥
    not_both a b c m h k l p = omega (arith, ints, clamps)

    either : (e : Bool) → int_le t.x2 column ≡ e → IsCounted towers column (count + n) (k + 1)
    either true is =
        let one : n ≡ 1 = n_is ∙ ap bool_byte is in
        let all : count ≡ k = by_lt count k
        (λ before. absurd (not_both (get_or towers count t).x2 t.x1 t.x2 column (counted.past count t (omega arith) before)
        (subst (λ q. (get_or towers count t).x2 ≤ℤ q.x1) (at_k t) (apart count k t before lt)) t.wide (yes t.x2 column is)))
        (λ no. let le = counted.within in omega (arith, no, le)) in
        record {
          within = omega (arith, one, all);
          ended = λ i d low high. by_lt i k (λ lower. counted.ended i d low (omega (arith, lower, all))) (λ no. subst (λ q. q.x2 ≤ℤ column) (sym (here i d (omega (arith, no, high, one, all)))) (yes t.x2 column is));
          past = λ i d low high. absurd (omega (arith, low, high, one, all));
        }
    either false is =
        let none : n ≡ 0 = n_is ∙ ap bool_byte is in
        record {
          within = let le = counted.within in omega (arith, le, none);
          ended = λ i d low high. counted.ended i d low (omega (arith, high, none));
          past = λ i d low high. by_lt i k (λ lower. counted.past i d (omega (arith, low, none)) lower) (λ no. subst (λ q. column <ℤ q.x2) (sym (here i d (omega (arith, no, high)))) (not_le column t.x2 is));
        }

pub counted_parted : (towers : List Rect) (column read_column : ℤ) (count k : ℕ) → read_column ≡ column → length towers ≤ k → IsCounted towers read_column count k → IsPartitionPoint (λ t. t.x2 ≤ℤ column) (λ t. column <ℤ t.x2) towers count
counted_parted towers column read_column count k same all counted = (
  (λ i d low high. subst (λ z. (get_or towers i d).x2 ≤ℤ z) same (counted.ended i d low high)),
  (λ i d low high. subst (λ z. z <ℤ (get_or towers i d).x2) same (counted.past i d low (omega (arith, all, high)))),
)

-- a column of a rectangle
in_columns : (r : Rect) (x y : ℤ) → squares r x y ≡ true → (r.x1 ≤ℤ x) × (x <ℤ r.x2)
in_columns r x y here = is_between_bounds r.x1 r.x2 x (and_parts (is_between r.x1 r.x2 x) (is_between r.y1 r.y2 y) here).0

-- a cut of a rectangle
in_cuts : (r : Rect) (x y : ℤ) → squares r x y ≡ true → (r.y1 ≤ℤ y) × (y <ℤ r.y2)
in_cuts r x y here = is_between_bounds r.y1 r.y2 y (and_parts (is_between r.x1 r.x2 x) (is_between r.y1 r.y2 y) here).1

lt_le_lt : (a b c : ℤ) → a <ℤ b → b ≤ℤ c → a <ℤ c
lt_le_lt a b c h k = omega (arith, ints, clamps)

-- no tower that ends at a column or left of it has a square there
pub left_of : (towers : List Rect) (k : ℕ) (x y : ℤ) → k ≤ length towers → ((j : ℕ) (d : Rect) → j < k → (get_or towers j d).x2 ≤ℤ x) → covered (take k towers) x y ≡ false
left_of towers k x y within ends = list_any_none (λ r. squares r x y) (take k towers) (λ j d lt.
    let here : j < k = rw (length-take-le k towers within) at lt in
    rw (get_or-take k towers j d here) (past (get_or towers j d) (ends j d here)))
  where
    past : (r : Rect) → r.x2 ≤ℤ x → squares r x y ≡ false
    past r end = rw (is_between_above r.x1 r.x2 x end) refl

-- nor one that begins right of it
pub right_of : (towers : List Rect) (k : ℕ) (x y : ℤ) → ((j : ℕ) (d : Rect) → k ≤ j → j < length towers → x <ℤ (get_or towers j d).x1) → covered towers x y ≡ covered (take k towers) x y
right_of towers k x y begins =
    ap (λ l. covered l x y) (sym (take-append-drop k towers)) ∙ (list_any-append (λ r. squares r x y) (take k towers) (drop k towers)
    ∙ (ap (λ b. covered (take k towers) x y || b) (list_any_none (λ r. squares r x y) (drop k towers) later) ∙ or-false (covered (take k towers) x y)))
  where
    before : (r : Rect) → x <ℤ r.x1 → squares r x y ≡ false
    before r begin = rw (is_between_below r.x1 r.x2 x begin) refl

    later : (j : ℕ) (d : Rect) → j < length (drop k towers) → squares (get_or (drop k towers) j d) x y ≡ false
    later j d lt =
        let inside : j < length towers - k = rw (length-drop k towers) at lt in
        rw (get_or-drop k towers j d) (before (get_or towers (k + j) d) (begins (k + j) d (omega arith) (omega (arith, inside))))

-- those before the first that ends right of a rectangle's left edge have nothing of it
pub none_before : (towers : List Rect) (piece : Rect) (n : ℕ) → n ≤ length towers → AllWithin (λ t. t.x2 ≤ℤ piece.x1) towers 0 n
    → 0 ≡ area_of (covered (take n towers)) piece
none_before towers piece n within ended = of_none piece ∙ sym (same_within (covered (take n towers)) (λ x y. false) piece (λ x y here.
    left_of towers n x y within (λ j d lt. le_trans (get_or towers j d).x2 piece.x1 x (ended j d (omega arith) lt) (in_columns piece x y here).0)))

-- a tower shares no square with those before it
pub tower_apart : (towers : List Rect) (k : ℕ) (r : Rect) → AreApart towers → k < length towers → r ≡ get_or towers k r → (x y : ℤ) → covered (take k towers) x y && squares r x y ≡ false
tower_apart towers k r apart lt item x y = by_lt_z x r.x1
    (λ left. rw (is_between_below r.x1 r.x2 x left) (and_no _))
    (λ right. rw (left_of towers k x y (omega (arith, lt)) (λ j d before. le_trans (get_or towers j d).x2 r.x1 x
    (subst (λ q. (get_or towers j d).x2 ≤ℤ q.x1) (get_or_default towers k d r lt ∙ sym item) (apart j k d before lt)) right)) refl)

-- what a rectangle has that towers have not, by all that it has and what they have of it
without : (p : ℤ → ℤ → Bool) (r : Rect) → area_of (squares r) r ≡ area_of (λ x y. not (p x y)) r + area_of p r
without p r = same_within (squares r) (λ x y. not (p x y) || p x y) r (λ x y here. here ∙ either (p x y))
    ∙ apart_sum (λ x y. not (p x y)) p r (λ x y. not_both (p x y))
  where
    either : (b : Bool) → true ≡ (not b || b)
    either true = refl
    either false = refl

    not_both : (b : Bool) → not b && b ≡ false
    not_both true = refl
    not_both false = refl

-- the area without what is hidden, as the code subtracts it
pub added_in : (p : ℤ → ℤ → Bool) (r : Rect) (m n : ℤ) → m ≡ pos (area_of (squares r) r) → n ≡ pos (area_of p r) → read (read m -ℤ read n) ≡ pos (area_of (λ x y. not (p x y)) r)
added_in p r m n m_is n_is = less (area_of (λ x y. not (p x y)) r) (area_of (squares r) r) (area_of p r) (without p r) (area_small (squares r) r) m_is n_is
  where
    less : (w u v : ℕ) → u ≡ w + v → u ≤ 2 ^ 62 → m ≡ pos u → n ≡ pos v → read (read m -ℤ read n) ≡ pos w
    less w u v is small m_is n_is =
        let u_read : read m ≡ pos u = rw m_is (read_is (pos u) (pos_fits u (omega (arith, small)))) in
        let v_read : read n ≡ pos v = rw n_is (read_is (pos v) (pos_fits v (omega (arith, is, small)))) in
        let left : pos u -ℤ pos v ≡ pos w = omega (arith, ints, clamps, is) in
        rw (u_read, v_read, left) (read_is (pos w) (pos_fits w (omega (arith, is, small))))

-- what a rectangle has in the part
abbrev pub IsPiece : Rect → Rect → Rect → Type 0
IsPiece piece r part = (x y : ℤ) → squares piece x y ≡ squares r x y && squares part x y

in_both : (piece r part : Rect) → IsPiece piece r part → LiesIn r piece × LiesIn part piece
in_both piece r part each = (lies_in part r piece (λ x y. each x y ∙ and_comm (squares r x y) (squares part x y)), lies_in r part piece each)

-- a cut that is above the lower edges of both is above that of the piece
low_of : (piece r part : Rect) (y : ℤ) → IsPiece piece r part → r.y1 ≤ℤ y → part.y1 ≤ℤ y → piece.y1 ≤ℤ y
low_of piece r part y each low_r low_part = by_lt_z y piece.y1 (λ below. (in_cuts piece piece.x1 y (each piece.x1 y ∙ and_from _ _
    (within r (in_both piece r part each).0 low_r below) (within part (in_both piece r part each).1 low_part below))).0) (λ le. le)
  where
    within : (w : Rect) → LiesIn w piece → w.y1 ≤ℤ y → y <ℤ piece.y1 → squares w piece.x1 y ≡ true
    within w lies low below = and_from _ _ (is_between_true w.x1 w.x2 piece.x1 lies.left (lt_le_lt piece.x1 piece.x2 w.x2 piece.wide lies.right))
        (is_between_true w.y1 w.y2 y low (lt_le_lt y piece.y1 w.y2 below (le_trans piece.y1 piece.y2 w.y2 (lt_le _ _ piece.tall) lies.top)))

-- one rectangle more
pushed : (rects : List Rect) (k : ℕ) (r : Rect) → k < length rects → r ≡ get_or rects k r → (x y : ℤ) → covered (take (k + 1) rects) x y ≡ (covered (take k rects) x y || squares r x y)
pushed rects k r lt item x y = covered_pushed (take k rects) (take (k + 1) rects) r (take_more rects k r lt ∙ ap (λ z. take k rects ++ z ∷ []) (sym item)) x y

-- in the part, the towers stand for as many of the rectangles as are counted, from the lower edge of the next one up
pub record IsRaised (rects sorted towers : List Rect) (part : Rect) (k : ℕ) (area : ℤ) : Type 0 where
  pub same : IsPermutation rects sorted
  pub rising : IsRisingBy (λ r. r.y1) sorted
  pub apart : AreApart towers
  pub begun : (j : ℕ) (d : Rect) (y : ℤ) → k ≤ j → j < length sorted → (get_or sorted j d).y1 ≤ℤ y → part.y1 ≤ℤ y → All (λ t. t.y1 ≤ℤ y) towers
  pub ahead : (x y : ℤ) (j : ℕ) (d : Rect) → k ≤ j → j < length sorted → (get_or sorted j d).y1 ≤ℤ y → squares part x y ≡ true → covered towers x y ≡ covered (take k sorted) x y
  pub counted : area ≡ pos (area_of (covered (take k sorted)) part)

pub raised_start : (rects sorted items towers : List Rect) (part : Rect) → IsPermutation rects sorted → IsRisingBy (λ r. r.y1) sorted → items ≡ sorted → towers ≡ []
    → IsRaised rects items towers part 0 (pos 0)
raised_start rects sorted items towers part same rising items_are none = rw (items_are, none) (record {
  same = same;
  rising = rising;
  apart = λ i j d lt within. absurd (omega arith);
  begun = λ j d y le lt low low_part i e within. absurd (omega arith);
  ahead = λ x y j d le lt low here. refl;
  counted = ap (λ n. pos n) (of_none part);
})

-- where the towers stand for the rectangles before a piece
alike : (rects sorted towers : List Rect) (part r piece : Rect) (k : ℕ) (area : ℤ) → IsRaised rects sorted towers part k area → k < length sorted → r ≡ get_or sorted k r → IsPiece piece r part
    → (x y : ℤ) → squares piece x y ≡ true → covered towers x y ≡ covered (take k sorted) x y
alike rects sorted towers part r piece k area raised lt item each x y here =
    let both = and_parts (squares r x y) (squares part x y) (sym (each x y) ∙ here) in
    raised.ahead x y k r (omega arith) lt (subst (λ q. q.y1 ≤ℤ y) item (in_cuts r x y both.0).0) both.1

-- in the part, a piece is its rectangle
whole : (piece r part : Rect) (x y : ℤ) → IsPiece piece r part → squares part x y ≡ true → squares r x y ≡ squares piece x y
whole piece r part x y each here = sym (each x y ∙ rw here (and_yes (squares r x y)))

-- what the piece of the next one adds, as the code adds it
pub raised_sum : (rects sorted towers : List Rect) (part r piece : Rect) (k : ℕ) (area n : ℤ) → IsRaised rects sorted towers part k area → k < length sorted → r ≡ get_or sorted k r → IsPiece piece r part
    → n ≡ pos (area_of (λ x y. not (covered towers x y)) piece)
    → FitsSigned w64 (area +ℤ read n) × (read (area +ℤ read n) ≡ pos (area_of (covered (take (k + 1) sorted)) part))
raised_sum rects sorted towers part r piece k area n raised lt item each n_is =
    let before = covered (take k sorted) in
    let added : ℤ → ℤ → Bool = λ x y. squares piece x y && not (covered towers x y) in
    let same = alike rects sorted towers part r piece k area raised lt item each in
    let area_read : read area ≡ area = rw raised.counted (read_is (pos (area_of before part)) (pos_fits (area_of before part) (under _ (area_small before part)))) in
    subst (λ z. FitsSigned w64 (z +ℤ read n) × (read (z +ℤ read n) ≡ pos (area_of (covered (take (k + 1) sorted)) part))) area_read
    (summed (area_of (covered (take (k + 1) sorted)) part) (area_of before part) (area_of added part) area n
    (same_within (covered (take (k + 1) sorted)) (λ x y. before x y || added x y) part
    (λ x y here. pushed sorted k r lt item x y ∙ (ap (λ b. before x y || b) (whole piece r part x y each here) ∙ either (before x y) (squares piece x y) (covered towers x y) (same x y)))
    ∙ apart_sum before added part (λ x y. not_both (before x y) (squares piece x y) (covered towers x y) (same x y)))
    (area_small (covered (take (k + 1) sorted)) part) raised.counted
    (n_is ∙ ap (λ m. pos m) (hidden_part (λ x y. not (covered towers x y)) r part piece each
    ∙ same_within (λ x y. squares r x y && not (covered towers x y)) added part (λ x y here. ap (λ b. b && not (covered towers x y)) (whole piece r part x y each here)))))
  where
    under : (n : ℕ) → n ≤ 2 ^ 62 → n < 2 ^ 63
    under n le = omega (arith, le)

    either : (c q t : Bool) → (q ≡ true → t ≡ c) → (c || q) ≡ (c || (q && not t))
    either true q t same = refl
    either false true t same = rw (same refl) refl
    either false false t same = refl

    not_both : (c q t : Bool) → (q ≡ true → t ≡ c) → c && (q && not t) ≡ false
    not_both true true t same = rw (same refl) refl
    not_both true false t same = refl
    not_both false q t same = refl

pub raised_more : (rects sorted towers new : List Rect) (part r piece : Rect) (k : ℕ) (area n : ℤ) → IsRaised rects sorted towers part k area → k < length sorted → r ≡ get_or sorted k r → IsPiece piece r part
    → n ≡ pos (area_of (λ x y. not (covered towers x y)) piece) → IsSettled piece towers new → IsRaised rects sorted new part (k + 1) (read (area +ℤ read n))
raised_more rects sorted towers new part r piece k area n raised lt item each n_is settled = record {
  same = raised.same;
  rising = raised.rising;
  apart = settled.skyline.apart;
  begun = λ j d y le inside low low_part i e within. le_trans (get_or new i e).y1 piece.y1 y (settled.skyline.begun i e within)
      (low_of piece r part y each (le_trans r.y1 (get_or sorted j d).y1 y (later j d le inside) low) low_part);
  ahead = λ x y j d le inside low here.
      settled.squares x y (low_of piece r part y each (le_trans r.y1 (get_or sorted j d).y1 y (later j d le inside) low) (in_cuts part x y here).0)
      ∙ (ap (λ b. b || squares piece x y) (raised.ahead x y j d (omega (arith, le)) inside low here)
      ∙ (ap (λ b. covered (take k sorted) x y || b) (sym (whole piece r part x y each here)) ∙ sym (pushed sorted k r lt item x y)));
  counted = (raised_sum rects sorted towers part r piece k area n raised lt item each n_is).1;
}
  where
    later : (j : ℕ) (d : Rect) → k + 1 ≤ j → j < length sorted → r.y1 ≤ℤ (get_or sorted j d).y1
    later j d le inside = subst (λ q. q.y1 ≤ℤ (get_or sorted j d).y1) (get_or_default sorted k d r lt ∙ sym item) (raised.rising k j d (omega (arith, le)) inside)

-- the next one has nothing in the part
pub raised_same : (rects sorted towers : List Rect) (part r : Rect) (k : ℕ) (area : ℤ) → IsRaised rects sorted towers part k area → k < length sorted → r ≡ get_or sorted k r
    → ((x y : ℤ) → squares r x y && squares part x y ≡ false) → IsRaised rects sorted towers part (k + 1) area
raised_same rects sorted towers part r k area raised lt item none = record {
  same = raised.same;
  rising = raised.rising;
  apart = raised.apart;
  begun = λ j d y le. raised.begun j d y (omega (arith, le));
  ahead = λ x y j d le inside low here. raised.ahead x y j d (omega (arith, le)) inside low here ∙ more x y here;
  counted = raised.counted ∙ ap (λ n. pos n) (same_within (covered (take k sorted)) (covered (take (k + 1) sorted)) part more);
}
  where
    more : (x y : ℤ) → squares part x y ≡ true → covered (take k sorted) x y ≡ covered (take (k + 1) sorted) x y
    more x y here = sym (pushed sorted k r lt item x y ∙ (ap (λ b. covered (take k sorted) x y || b) (sym (and_yes (squares r x y)) ∙ (ap (λ b. squares r x y && b) (sym here) ∙ none x y))
        ∙ or-false (covered (take k sorted) x y)))

-- all are counted
pub raised_all : (rects sorted towers : List Rect) (part : Rect) (k : ℕ) (area : ℤ) → length sorted ≤ k → IsRaised rects sorted towers part k area → area ≡ pos (area_of (covered rects) part)
raised_all rects sorted towers part k area all raised =
    raised.counted ∙ ap (λ n. pos n) (same_within (covered (take k sorted)) (covered rects) part (λ x y here.
    ap (λ l. covered l x y) (take_all k sorted all) ∙ sym (list_any-IsPermutation (λ r. squares r x y) rects sorted raised.same)))

-- a rectangle between towers has no square of theirs
pub all_added : (towers : List Rect) (at : ℕ) (r : Rect) → IsOpen towers at r → All (λ q. r.x2 ≤ℤ q.x1) (drop at towers)
    → area_of (squares r) r ≡ area_of (λ x y. not (covered towers x y)) r
all_added towers at r is right = same_within (squares r) (λ x y. not (covered towers x y)) r (λ x y here. here ∙ ap not (sym (none x y here)))
  where
    later : (j : ℕ) (d : Rect) → at ≤ j → j < length towers → r.x2 ≤ℤ (get_or towers j d).x1
    later j d from inside = subst (λ i. r.x2 ≤ℤ (get_or towers i d).x1) (back at j from) (rw (get_or-drop at towers (j - at) d) at (right (j - at) d (rw (length-drop at towers) (omega (arith, from, inside)))))
      where
        back : (a j : ℕ) → a ≤ j → a + (j - a) ≡ j
        back a j le = omega (arith, le)

    none : (x y : ℤ) → squares r x y ≡ true → covered towers x y ≡ false
    none x y here =
        right_of towers at x y (λ j d from inside. lt_le_lt x r.x2 (get_or towers j d).x1 (in_columns r x y here).1 (later j d from inside))
        ∙ left_of towers at x y is.within (λ j d lt. le_trans (get_or towers j d).x2 r.x1 x (is.parted.0 j d (omega arith) lt) (in_columns r x y here).0)

-- an area that is another, as the code reads it
pub area_read : (n : ℤ) (u w : ℕ) → n ≡ pos u → u ≤ 2 ^ 62 → u ≡ w → read n ≡ pos w
area_read n u w is small same = ap read is ∙ (read_is (pos u) (pos_fits u (omega (arith, small))) ∙ ap (λ k. pos k) same)

-- the towers stand ready for the piece of the next rectangle
pub skyline_for : (rects sorted towers : List Rect) (part : Rect) (k : ℕ) (area : ℤ) (r piece : Rect) → IsRaised rects sorted towers part k area → k < length sorted → r ≡ get_or sorted k r → IsPiece piece r part → IsSkyline piece.y1 towers
skyline_for rects sorted towers part k area r piece raised lt item each =
    let both = in_both piece r part each in
    record { apart = raised.apart; begun = raised.begun k r piece.y1 (omega arith) lt (subst (λ q. q.y1 ≤ℤ piece.y1) item both.0.bottom) both.1.bottom }
