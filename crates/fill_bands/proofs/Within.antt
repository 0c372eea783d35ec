-- Rectangles that lie within another one from a line on.
use Rattle.std.proofs.Common.{◌≡◌, zero, suc, ℤ, ◌≤ℤ◌, List, [], ◌∷◌, refl, arith, ap, ◌∙◌, Bool, true, false, cond, ◌||◌, ◌&&◌}
use Rattle.std.specs.Prelude.{int_le, All}
use Rattle.std.specs.List.{filter, dedup}
use Rattle.std.specs.Cmp.{first_so, second_so}
use Rattle.std.proofs.lemmas.Bool.{and_from}
use Rattle.std.proofs.lemmas.Int.{ints}
use Rattle.std.proofs.lemmas.List.Elements.{All-tail, All-filter}
use Rattle.std.proofs.lemmas.List.Filters.{All-dedup}
use Rattle.fill_base.specs.declared.rect.Rect.{Rect}
use Rattle.fill_base.specs.Counts.{is_between}
use Rattle.fill_base.specs.Squares.{squares}
use Rattle.fill_spans.specs.Columns.{IsRisingBy}
use Rattle.fill_bands.specs.Squares.{covered}

-- the rectangle ends no further right than `kept`, and no further up
abbrev pub ends_within : Rect → Rect → Bool
ends_within r kept = int_le r.x2 kept.x2 && int_le r.y2 kept.y2

between_within : (a b c d x : ℤ) → a ≤ℤ c → int_le d b ≡ true → is_between c d x ≡ true → is_between a b x ≡ true
between_within a b c d x h k l = grind (arith, ints)

above_within : (a b c d y : ℤ) → a ≤ℤ y → int_le d b ≡ true → is_between c d y ≡ true → is_between a b y ≡ true
above_within a b c d y h k l = grind (arith, ints)

absorbed : (b c d : Bool) → (c ≡ true → b ≡ true) → (b || d) ≡ (b || (c || d))
absorbed true c d h = refl
absorbed false true d h = let e : false ≡ true = h refl in cc
absorbed false false d h = refl

no_more : (r kept : Rect) (line x y : ℤ) → kept.x1 ≤ℤ r.x1 → kept.y1 ≤ℤ line → line ≤ℤ y → ends_within r kept ≡ true → squares r x y ≡ true → squares kept x y ≡ true
no_more r kept line x y left low le within here =
    and_from (is_between kept.x1 kept.x2 x) (is_between kept.y1 kept.y2 y)
    (between_within kept.x1 kept.x2 r.x1 r.x2 x left (first_so (int_le r.x2 kept.x2) (int_le r.y2 kept.y2) within) (first_so (is_between r.x1 r.x2 x) (is_between r.y1 r.y2 y) here))
    (above_within kept.y1 kept.y2 r.y1 r.y2 y (le_le kept.y1 line y low le) (second_so (int_le r.x2 kept.x2) (int_le r.y2 kept.y2) within) (second_so (is_between r.x1 r.x2 x) (is_between r.y1 r.y2 y) here))
  where
    le_le : (a b c : ℤ) → a ≤ℤ b → b ≤ℤ c → a ≤ℤ c
    le_le a b c h k = omega (arith, ints)

-- a rising list: its first one is at most the others, which rise
firsts : (k : Rect) (rects : List Rect) → IsRisingBy (λ r. r.x1) (k ∷ rects) → All (λ r. k.x1 ≤ℤ r.x1) rects
firsts k rects rising = λ i d lt. rising 0 (suc i) d (omega arith) (omega arith)

others : (k : Rect) (rects : List Rect) → IsRisingBy (λ r. r.x1) (k ∷ rects) → IsRisingBy (λ r. r.x1) rects
others k rects rising = λ i j d le lt. rising (suc i) (suc j) d (omega arith) (omega arith)

joined : (k : Rect) (rects : List Rect) → All (λ r. k.x1 ≤ℤ r.x1) rects → IsRisingBy (λ r. r.x1) rects → IsRisingBy (λ r. r.x1) (k ∷ rects)
joined k rects low rising zero zero d le lt = omega (arith, ints)
joined k rects low rising zero (suc j) d le lt = low j d (omega arith)
joined k rects low rising (suc i) zero d le lt = absurd (omega arith)
joined k rects low rising (suc i) (suc j) d le lt = rising i j d (omega arith) (omega arith)

-- without those that end within the last one kept, the same squares are covered from the line on
from_squares : (k : Rect) (rects : List Rect) (line x y : ℤ) → line ≤ℤ y → k.y1 ≤ℤ line → All (λ r. r.y1 ≤ℤ line) rects → All (λ r. k.x1 ≤ℤ r.x1) rects
    → IsRisingBy (λ r. r.x1) rects → covered (dedup ends_within (k ∷ rects)) x y ≡ (squares k x y || covered rects x y)
from_squares k [] line x y le low lows left rising = refl
from_squares k (r ∷ rects) line x y le low lows left rising =
    let tails = All-tail (λ q. q.y1 ≤ℤ line) r rects lows in
    chosen (ends_within r k) refl
    (from_squares k rects line x y le low tails (All-tail (λ q. k.x1 ≤ℤ q.x1) r rects left) (others r rects rising))
    (from_squares r rects line x y le (lows 0 r (omega arith)) tails (firsts r rects rising) (others r rects rising))
  where
    chosen : (b : Bool) → ends_within r k ≡ b → covered (dedup ends_within (k ∷ rects)) x y ≡ (squares k x y || covered rects x y)
        → covered (dedup ends_within (r ∷ rects)) x y ≡ (squares r x y || covered rects x y)
        → covered (cond (ends_within r k) (dedup ends_within (k ∷ rects)) (k ∷ dedup ends_within (r ∷ rects))) x y ≡ (squares k x y || (squares r x y || covered rects x y))
    chosen true is gone stays = rw is (gone ∙ absorbed (squares k x y) (squares r x y) (covered rects x y) (no_more r k line x y (left 0 r (omega arith)) low le is))
    chosen false is gone stays = rw is (ap (λ b. squares k x y || b) stays)

from_rising : (k : Rect) (rects : List Rect) → All (λ r. k.x1 ≤ℤ r.x1) rects → IsRisingBy (λ r. r.x1) rects → IsRisingBy (λ r. r.x1) (dedup ends_within (k ∷ rects))
from_rising k [] left rising = joined k [] left rising
from_rising k (r ∷ rects) left rising =
    chosen (ends_within r k) (from_rising k rects (All-tail (λ q. k.x1 ≤ℤ q.x1) r rects left) (others r rects rising))
    (joined k (dedup ends_within (r ∷ rects)) (All-dedup ends_within (λ q. k.x1 ≤ℤ q.x1) (r ∷ rects) left) (from_rising r rects (firsts r rects rising) (others r rects rising)))
  where
    chosen : (b : Bool) → IsRisingBy (λ q. q.x1) (dedup ends_within (k ∷ rects)) → IsRisingBy (λ q. q.x1) (k ∷ dedup ends_within (r ∷ rects))
        → IsRisingBy (λ q. q.x1) (cond b (dedup ends_within (k ∷ rects)) (k ∷ dedup ends_within (r ∷ rects)))
    chosen true gone stays = gone
    chosen false gone stays = stays

pub kept_squares : (rects : List Rect) (line x y : ℤ) → line ≤ℤ y → All (λ r. r.y1 ≤ℤ line) rects → IsRisingBy (λ r. r.x1) rects
    → covered (dedup ends_within rects) x y ≡ covered rects x y
kept_squares [] line x y le low rising = refl
kept_squares (k ∷ rects) line x y le low rising =
    from_squares k rects line x y le (low 0 k (omega arith)) (All-tail (λ q. q.y1 ≤ℤ line) k rects low) (firsts k rects rising) (others k rects rising)

pub kept_rising : (rects : List Rect) → IsRisingBy (λ r. r.x1) rects → IsRisingBy (λ r. r.x1) (dedup ends_within rects)
kept_rising [] rising = rising
kept_rising (k ∷ rects) rising = from_rising k rects (firsts k rects rising) (others k rects rising)

-- those of a rising list that pass a test rise
pub passing_rising : (p : Rect → Bool) (rects : List Rect) → IsRisingBy (λ r. r.x1) rects → IsRisingBy (λ r. r.x1) (filter p rects)
passing_rising p [] rising = rising
passing_rising p (k ∷ rects) rising =
    let rest = passing_rising p rects (others k rects rising) in
    chosen (p k) rest (joined k (filter p rects) (All-filter p (λ r. k.x1 ≤ℤ r.x1) rects (firsts k rects rising)) rest)
  where
    chosen : (b : Bool) → IsRisingBy (λ r. r.x1) (filter p rects) → IsRisingBy (λ r. r.x1) (k ∷ filter p rects)
        → IsRisingBy (λ r. r.x1) (cond b (k ∷ filter p rects) (filter p rects))
    chosen true gone stays = stays
    chosen false gone stays = gone
