-- Rectangles between two cuts of a list by their lower edges.
use Rattle.std.proofs.Common.{◌≡◌, ℕ, zero, suc, inl, inr, map, ◌&&◌, ◌+◌, ◌-◌, ◌<◌, ◌≤◌, ◌^◌, ℤ, pos, ◌+ℤ◌, ◌-ℤ◌, ◌≤ℤ◌, ◌<ℤ◌, Bool, true, false, ◌||◌, List, [], ◌∷◌, ◌++◌, length, take, drop, get_or, min, refl, sym, ◌∙◌, ap, subst, arith, FitsSigned, w64}
use Rattle.std.specs.Prelude.{int_le, int_lt}
use Rattle.std.specs.Int.{int_max}
use Rattle.std.specs.List.{Contains}
use Rattle.std.specs.List.Sorted.{IsPartitionedBy, IsPartitionPoint}
use Rattle.std.proofs.lemmas.Int.{ints, clamps}
use Rattle.std.proofs.lemmas.List.{get_or-map, get_or-take, get_or-drop, length-take-le, length-drop, map-append, append_assoc, take-append-drop}
use Rattle.std.proofs.lemmas.List.Elements.{All-nil, All-push, All-weaker, All-contains, All-contains_itself, Contains-append_left, Contains-append_right}
use Rattle.std.proofs.lemmas.List.Folds.{list_any-append, list_any_none}
use Rattle.fill_base.specs.declared.rect.Rect.{Rect}
use Rattle.fill_base.specs.Coordinates.{lowest}
use Rattle.fill_base.specs.Sides.{sides_of}
use Rattle.fill_base.specs.Squares.{squares}
use Rattle.fill_base.proofs.Signed.{read, read_is, not_lt, lt_le}
use Rattle.fill_spans.specs.Columns.{IsRisingBy}
use Rattle.fill_bands.specs.Squares.{covered}
use Rattle.fill_region.specs.Near.{IsTallest, IsStretch}
use Rattle.fill_region.specs.Runs.{Sides, has, Precedes, AreInOrder, AreApart}
use Rattle.fill_region.proofs.Levels.{le_self}
use Rattle.fill_region.proofs.Members.{holder, held, one_more, square_within}
use Rattle.fill_region.proofs.Same.{all_after, tail_ordered}

-- ---- the tallest rectangle

pub none_tall : IsTallest [] (pos 0)
none_tall = record { least = omega (arith, ints); most = omega (arith, ints); each = All-nil (λ r. r.y2 ≤ℤ (r.y1 +ℤ pos 0)) }

pub one_taller : (rects : List Rect) (k : ℕ) (d : Rect) (height taller : ℤ) → k < length rects → d ≡ get_or rects k d → taller ≡ int_max height (d.y2 -ℤ d.y1) → IsTallest (take k rects) height → IsTallest (take (k + 1) rects) taller
one_taller rects k d height taller lt is more t = rw (one_more rects k d lt is) (record {
  least = low height (d.y2 -ℤ d.y1) taller t.least more;
  most = high height taller d.y1 d.y2 t.most d.bottom d.top more;
  each = All-push (λ r. r.y2 ≤ℤ (r.y1 +ℤ taller)) (take k rects) d (All-weaker (λ r. r.y2 ≤ℤ (r.y1 +ℤ height)) (λ r. r.y2 ≤ℤ (r.y1 +ℤ taller)) (λ r le. as_high r.y1 r.y2 height (d.y2 -ℤ d.y1) taller le more) (take k rects) t.each)
      (own d.y1 d.y2 height taller more);
})
  where
    low : (a b c : ℤ) → pos 0 ≤ℤ a → c ≡ int_max a b → pos 0 ≤ℤ c
    low a b c h is = omega (arith, ints, clamps)

    high : (a c y z : ℤ) → a ≤ℤ pos (2 ^ 31) → (pos 0 -ℤ pos 1073741824) ≤ℤ y → z ≤ℤ pos 1073741824 → c ≡ int_max a (z -ℤ y) → c ≤ℤ pos (2 ^ 31)
    high a c y z h low top is = omega (arith, ints, clamps)

    as_high : (y z a b c : ℤ) → z ≤ℤ (y +ℤ a) → c ≡ int_max a b → z ≤ℤ (y +ℤ c)
    as_high y z a b c h is = omega (arith, ints, clamps)

    own : (y z a c : ℤ) → c ≡ int_max a (z -ℤ y) → z ≤ℤ (y +ℤ c)
    own y z a c is = omega (arith, ints, clamps)

pub height_of : (d : Rect) (height taller : ℤ) → taller ≡ int_max height (read (d.y2 -ℤ d.y1)) → taller ≡ int_max height (d.y2 -ℤ d.y1)
height_of d height taller is = is ∙ ap (int_max height) (read_is (d.y2 -ℤ d.y1) (short d.y1 d.y2 d.bottom d.tall d.top))
  where
    short : (y z : ℤ) → (pos 0 -ℤ pos 1073741824) ≤ℤ y → y <ℤ z → z ≤ℤ pos 1073741824 → FitsSigned w64 (z -ℤ y)
    short y z low tall top = omega (arith, ints)

pub height_read : (rects : List Rect) (height : ℤ) → IsTallest rects height → read height ≡ height
height_read rects height t = read_is height (let a = t.least in let b = t.most in omega (arith, ints))

-- ---- between the cuts

-- what is asked of the two cuts by their tests
pub lower_first : (rects : List Rect) (top : ℤ) → IsRisingBy (λ r. r.y1) rects → IsPartitionedBy (λ r. int_lt r.y1 top) rects
lower_first rects top rising i j d le lt h = le_lt (get_or rects i d).y1 (get_or rects j d).y1 top (rising i j d le lt) h
  where
    le_lt : (a b c : ℤ) → a ≤ℤ b → int_lt b c ≡ true → int_lt a c ≡ true
    le_lt a b c h k = grind (arith, ints)

pub low_first : (rects : List Rect) (low : ℤ) → IsRisingBy (λ r. r.y1) rects → IsPartitionedBy (λ r. int_le r.y1 low) rects
low_first rects low rising i j d le lt h = le_le (get_or rects i d).y1 (get_or rects j d).y1 low (rising i j d le lt) h
  where
    le_le : (a b c : ℤ) → a ≤ℤ b → int_le b c ≡ true → int_le a c ≡ true
    le_le a b c h k = grind (arith, ints)

not_there : (r : Rect) (x y : ℤ) → (squares r x y ≡ true → ⊥) → squares r x y ≡ false
not_there r x y none = by (squares r x y) none
  where
    by : (b : Bool) → (b ≡ true → ⊥) → b ≡ false
    by true h = absurd (h refl)
    by false h = refl

-- those behind the upper cut begin above the row, and those before the lower one end below it
pub between_cuts : (rects lower upper passed level : List Rect) (height bottom top low : ℤ) (begin end cut : ℕ) → IsTallest rects height → low ≡ int_max bottom lowest -ℤ height
    → IsPartitionPoint (λ r. int_lt r.y1 top ≡ true) (λ r. int_lt r.y1 top ≡ false) rects end → IsPartitionPoint (λ r. int_le r.y1 low ≡ true) (λ r. int_le r.y1 low ≡ false) rects begin
    → end ≤ length rects → cut ≤ begin → cut ≤ end → lower ≡ take end rects → upper ≡ drop end rects → passed ≡ take cut lower → level ≡ drop cut lower
    → (x y : ℤ) → bottom ≤ℤ y → y <ℤ top → covered level x y ≡ covered rects x y
between_cuts rects lower upper passed level height bottom top low begin end cut t low_is above below within first inner lower_is upper_is passed_is level_is x y from to =
    sym (whole ∙ rw (none_above, part, none_below) (plain (covered level x y)))
  where
    whole : covered rects x y ≡ (covered lower x y || covered upper x y)
    whole = ap (λ rs. covered rs x y) (sym (take-append-drop end rects) ∙ rw (lower_is, upper_is) refl) ∙ list_any-append (λ r. squares r x y) lower upper

    part : covered lower x y ≡ (covered passed x y || covered level x y)
    part = ap (λ rs. covered rs x y) (sym (take-append-drop cut lower) ∙ rw (passed_is, level_is) refl) ∙ list_any-append (λ r. squares r x y) passed level

    plain : (b : Bool) → ((false || b) || false) ≡ b
    plain true = refl
    plain false = refl

    too_high : (r : Rect) → int_lt r.y1 top ≡ false → squares r x y ≡ true → ⊥
    too_high r past is = apart r.y1 (not_lt r.y1 top past) (square_within r x y is).1.0
      where
        apart : (a : ℤ) → top ≤ℤ a → a ≤ℤ y → ⊥
        apart a h k = omega (arith, ints)

    too_low : (r : Rect) → int_le r.y1 low ≡ true → r.y2 ≤ℤ (r.y1 +ℤ height) → squares r x y ≡ true → ⊥
    too_low r before high is =
        let w = square_within r x y is in
        apart r.y1 r.y2 (is_le r.y1 low before) high r.bottom w.1.0 w.1.1
      where
        is_le : (a b : ℤ) → int_le a b ≡ true → a ≤ℤ b
        is_le a b h = grind (arith, ints)

        apart : (a b : ℤ) → a ≤ℤ low → b ≤ℤ (a +ℤ height) → lowest ≤ℤ a → a ≤ℤ y → y <ℤ b → ⊥
        apart a b h k l m n = omega (arith, ints, clamps)

    none_above : covered upper x y ≡ false
    none_above = rw upper_is (list_any_none (λ r. squares r x y) (drop end rects) (λ k d lt.
        let here : k < length rects - end = rw (length-drop end rects) at lt in
        rw (get_or-drop end rects k d) (not_there (get_or rects (end + k) d) x y (too_high (get_or rects (end + k) d) (above.1 (end + k) d (omega (arith, here)) (omega (arith, here)))))))

    none_below : covered passed x y ≡ false
    none_below = rw (passed_is, lower_is) (list_any_none (λ r. squares r x y) (take cut (take end rects)) (λ k d lt.
        let long : length (take end rects) ≡ end = length-take-le end rects within in
        let here : k < cut = rw (length-take-le cut (take end rects) (rw long inner)) at lt in
        rw (get_or-take cut (take end rects) k d here, get_or-take end rects k d (omega (arith, here, inner)))
        (not_there (get_or rects k d) x y (too_low (get_or rects k d) (below.0 k d (omega (arith, here, inner, within)) (omega (arith, here, first))) (t.each k d (omega (arith, here, inner, within)))))))

-- they are of the list
pub are_among : (rects lower level : List Rect) (end cut : ℕ) → lower ≡ take end rects → level ≡ drop cut lower → (r : Rect) → Contains level r → Contains rects r
are_among rects lower level end cut lower_is level_is r among =
    subst (λ rs. Contains rs r) (take-append-drop end rects) (Contains-append_left (take end rects) (drop end rects) r
    (subst (λ rs. Contains rs r) (take-append-drop cut (take end rects)) (Contains-append_right (take cut (take end rects)) (drop cut (take end rects)) r (rw (level_is, lower_is) at among))))

-- ---- and they are a stretch of it, so they share no square where those of the list share none

pub is_stretch : (rects lower level : List Rect) (end cut : ℕ) → lower ≡ take end rects → level ≡ drop cut lower → IsStretch level rects
is_stretch rects lower level end cut lower_is level_is = record {
  before = take cut (take end rects);
  after = drop end rects;
  is = rw (level_is, lower_is) (sym (take-append-drop end rects) ∙ (ap (λ rs. rs ++ drop end rects) (sym (take-append-drop cut (take end rects))) ∙ append_assoc (take cut (take end rects)) (drop cut (take end rects)) (drop end rects)));
}

apart_front : (a b : List Sides) → AreApart (a ++ b) → AreApart a
apart_front [] b apart = tt
apart_front (s ∷ a) b apart = (
  All-weaker (Contains a) (λ t. (x y : ℤ) → has s x y ≡ true → has t x y ≡ false)
      (λ t among. All-contains (λ t. (x y : ℤ) → has s x y ≡ true → has t x y ≡ false) (a ++ b) t apart.0 (Contains-append_left a b t among)) a (All-contains_itself a),
  apart_front a b apart.1,
)

apart_back : (a b : List Sides) → AreApart (a ++ b) → AreApart b
apart_back [] b apart = apart
apart_back (s ∷ a) b apart = apart_back a b apart.1

pub apart_stretch : (level rects : List Rect) → IsStretch level rects → AreApart (map sides_of rects) → AreApart (map sides_of level)
apart_stretch level rects s apart =
    apart_front (map sides_of level) (map sides_of s.after) (subst AreApart (map-append sides_of level s.after)
    (apart_back (map sides_of s.before) (map sides_of (level ++ s.after)) (subst AreApart (map-append sides_of s.before (level ++ s.after)) (subst (λ rs. AreApart (map sides_of rs)) s.is apart))))

-- a row less a height, as the code reckons it
pub low_read : (rects : List Rect) (bottom least height : ℤ) → FitsSigned w64 bottom → IsTallest rects height → least ≡ int_max bottom lowest → read (read least -ℤ read height) ≡ int_max bottom lowest -ℤ height
low_read rects bottom least height fits t is =
    let low = t.least in let high = t.most in
    rw (is, height_read rects height t) (rw (read_is (int_max bottom lowest) (omega (arith, ints, clamps))) (read_is (int_max bottom lowest -ℤ height) (omega (arith, ints, clamps))))

pub both_cuts : (cut begin end : ℕ) → cut ≡ min begin end → (cut ≤ begin) × (cut ≤ end)
both_cuts cut begin end is = (omega (arith, is), omega (arith, is))

-- ---- runs in their order

-- runs begin no lower than those before them
pub runs_rising : (rects : List Rect) → AreInOrder (map sides_of rects) → IsRisingBy (λ r. r.y1) rects
runs_rising [] order i j d le lt = absurd (omega (arith, lt))
runs_rising (r ∷ rects) order zero zero d le lt = le_self r.y1
runs_rising (r ∷ rects) order zero (suc j) d le lt =
    later (get_or rects j d) (all_after (sides_of r) (map sides_of rects) order (sides_of (get_or rects j d)) (j, long j (omega (arith, lt)), get_or-map sides_of rects j d (sides_of (get_or rects j d)) (omega (arith, lt))))
  where
    later : (s : Rect) → Precedes (sides_of r) (sides_of s) → r.y1 ≤ℤ s.y1
    later s (inl lower) = lt_le r.y1 s.y1 lower
    later s (inr same) = eq_le r.y1 s.y1 same.0
      where
        eq_le : (a b : ℤ) → a ≡ b → a ≤ℤ b
        eq_le a b is = omega (arith, ints)

    length_map : (rs : List Rect) → length (map sides_of rs) ≡ length rs
    length_map [] = refl
    length_map (r ∷ rs) = ap suc (length_map rs)

    long : (k : ℕ) → k < length rects → k < length (map sides_of rects)
    long k lt = let e = length_map rects in omega (arith, lt, e)
runs_rising (r ∷ rects) order (suc i) zero d le lt = absurd (omega (arith, le))
runs_rising (r ∷ rects) order (suc i) (suc j) d le lt = runs_rising rects (tail_ordered (sides_of r) (map sides_of rects) order) i j d (omega (arith, le)) (omega (arith, lt))

-- some of a list hold nothing beyond it
pub none_beyond : (rects level : List Rect) (x y : ℤ) → ((r : Rect) → Contains level r → Contains rects r) → covered level x y ≡ true → covered rects x y ≡ true
none_beyond rects level x y among is = let h = holder level x y is in held rects h.rect x y (among h.rect h.among) h.holds_it

-- what lies in a frame lies in its rows
pub within_frame : (a b : Bool) (frame : Rect) (x y : ℤ) → (frame.y1 ≤ℤ y → y <ℤ frame.y2 → a ≡ b) → (a && squares frame x y) ≡ (b && squares frame x y)
within_frame a b frame x y same = by (squares frame x y) (λ is. let w = square_within frame x y is in same w.1.0 w.1.1)
  where
    by : (s : Bool) → (s ≡ true → a ≡ b) → (a && s) ≡ (b && s)
    by true f = rw (f refl) refl
    by false f = none a ∙ sym (none b)
      where
        none : (c : Bool) → (c && false) ≡ false
        none true = refl
        none false = refl
