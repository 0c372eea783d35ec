-- Squares of a list of rectangles, and the rectangle that holds one.
use Rattle.std.proofs.Common.{◌≡◌, ℕ, ◌+◌, ◌<◌, ℤ, ◌≤ℤ◌, ◌<ℤ◌, Bool, true, false, ◌||◌, List, [], ◌∷◌, ◌++◌, length, take, get_or, refl, sym, ◌∙◌, ap, true≢false, ◌⊎◌, inl, inr, ⊎_elim, rules, add-one}
use Rattle.std.specs.Prelude.{All}
use Rattle.std.specs.List.{Contains}
use Rattle.std.specs.List.Sorted.{IsPermutation}
use Rattle.std.proofs.lemmas.List.Elements.{All-contains, All-weaker, All-contains_itself, Contains-append_left, Contains-append_right, Contains-push_cases}
use Rattle.std.proofs.Math.Seq.{take-suc}
use Rattle.std.proofs.lemmas.List.Folds.{list_any-append, list_any_at}
use Rattle.std.proofs.lemmas.List.Sorted.{All-permutation, list_any-IsPermutation}
use Rattle.fill_base.specs.declared.rect.Rect.{Rect}
use Rattle.fill_base.specs.Counts.{is_between}
use Rattle.fill_base.specs.Sides.{sides_of}
use Rattle.fill_base.specs.Squares.{squares}
use Rattle.fill_base.proofs.Between.{is_between_bounds}
use Rattle.fill_bands.specs.Squares.{covered}
use Rattle.fill_region.specs.Runs.{IsRun}
use Rattle.fill_region.specs.Steps.{AreRunsOf}
use Rattle.fill_region.proofs.Intervals.{and_first, and_second, run_alike}

pub either : (a b : Bool) → (a || b) ≡ true → (a ≡ true) ⊎ (b ≡ true)
either true b e = inl refl
either false b e = inr e

pub or_left : (a b : Bool) → a ≡ true → (a || b) ≡ true
or_left true b e = refl
or_left false b e = absurd (true≢false (sym e))

pub or_right : (a b : Bool) → b ≡ true → (a || b) ≡ true
or_right true b e = refl
or_right false b e = e

-- the sides between which a rectangle holds a square
pub square_within : (r : Rect) (x y : ℤ) → squares r x y ≡ true → ((r.x1 ≤ℤ x) × (x <ℤ r.x2)) × ((r.y1 ≤ℤ y) × (y <ℤ r.y2))
square_within r x y is = (
  is_between_bounds r.x1 r.x2 x (and_first (is_between r.x1 r.x2 x) (is_between r.y1 r.y2 y) is),
  is_between_bounds r.y1 r.y2 y (and_second (is_between r.x1 r.x2 x) (is_between r.y1 r.y2 y) is),
)

-- the rectangle of a list that holds a square
pub record Holder (rects : List Rect) (x y : ℤ) : Type 0 where
  pub rect : Rect
  pub among : Contains rects rect
  pub holds_it : squares rect x y ≡ true

pub holder : (rects : List Rect) (x y : ℤ) → covered rects x y ≡ true → Holder rects x y
holder [] x y is = absurd (true≢false (sym is))
holder (r ∷ rects) x y is = ⊎_elim (λ here. record { rect = r; among = Contains-append_left (r ∷ []) rects r (one r); holds_it = here })
    (λ there. let h = holder rects x y there in record { rect = h.rect; among = Contains-append_right (r ∷ []) rects h.rect h.among; holds_it = h.holds_it })
    (either (squares r x y) (covered rects x y) is)
  where
    one : (r : Rect) → Contains (r ∷ []) r
    one r = search rules

pub held : (rects : List Rect) (r : Rect) (x y : ℤ) → Contains rects r → squares r x y ≡ true → covered rects x y ≡ true
held rects r x y (k, lt, at) is = list_any_at (λ s. squares s x y) rects k r lt (ap (λ s. squares s x y) at ∙ is)

pub covered_either : (xs ys : List Rect) (x y : ℤ) → covered (xs ++ ys) x y ≡ (covered xs x y || covered ys x y)
covered_either xs ys x y = list_any-append (λ r. squares r x y) xs ys

pub covered_same : (xs ys : List Rect) (x y : ℤ) → IsPermutation xs ys → covered xs x y ≡ covered ys x y
covered_same xs ys x y same = list_any-IsPermutation (λ r. squares r x y) xs ys same

-- the runs of a set in another order
pub runs_permuted : (p : ℤ → ℤ → Bool) (xs ys : List Rect) → IsPermutation xs ys → AreRunsOf p xs → AreRunsOf p ys
runs_permuted p xs ys same are = record {
  each = All-permutation (λ r. IsRun p (sides_of r)) xs ys same are.each;
  all = λ x y is. sym (covered_same xs ys x y same) ∙ are.all x y is;
}

-- equal sets have the same runs
pub runs_alike : (p q : ℤ → ℤ → Bool) (xs : List Rect) → ((x y : ℤ) → p x y ≡ q x y) → AreRunsOf q xs → AreRunsOf p xs
runs_alike p q xs same are = record {
  each = All-weaker (λ r. IsRun q (sides_of r)) (λ r. IsRun p (sides_of r)) (λ r run. run_alike p q (sides_of r) same run) xs are.each;
  all = λ x y is. are.all x y (sym (same x y) ∙ is);
}

-- ---- lists taken apart

pub first_part : (P : Rect → Type 0) (xs ys : List Rect) → All P (xs ++ ys) → All P xs
first_part P xs ys all = All-weaker (Contains xs) P (λ x among. All-contains P (xs ++ ys) x all (Contains-append_left xs ys x among)) xs (All-contains_itself xs)

pub last_part : (P : Rect → Type 0) (xs ys : List Rect) → All P (xs ++ ys) → All P ys
last_part P xs ys all = All-weaker (Contains ys) P (λ x among. All-contains P (xs ++ ys) x all (Contains-append_right xs ys x among)) ys (All-contains_itself ys)

pub one_more : (xs : List Rect) (k : ℕ) (d : Rect) → k < length xs → d ≡ get_or xs k d → take (k + 1) xs ≡ take k xs ++ d ∷ []
one_more xs k d lt is = rw add-one (take-suc xs k d lt ∙ ap (λ r. take k xs ++ r ∷ []) (sym is))

pub among_more : (xs : List Rect) (k : ℕ) (d x : Rect) → k < length xs → d ≡ get_or xs k d → Contains (take (k + 1) xs) x → Contains (take k xs) x ⊎ (d ≡ x)
among_more xs k d x lt is among = Contains-push_cases (take k xs) d x (rw (one_more xs k d lt is) at among)

pub covered_push : (xs : List Rect) (d : Rect) (x y : ℤ) → covered (xs ++ d ∷ []) x y ≡ (covered xs x y || squares d x y)
covered_push xs d x y = covered_either xs (d ∷ []) x y ∙ ap (λ b. covered xs x y || b) (or_false (squares d x y))
  where
    or_false : (b : Bool) → (b || false) ≡ b
    or_false true = refl
    or_false false = refl

pub covered_more : (xs : List Rect) (k : ℕ) (d : Rect) (x y : ℤ) → k < length xs → d ≡ get_or xs k d → covered (take (k + 1) xs) x y ≡ (covered (take k xs) x y || squares d x y)
covered_more xs k d x y lt is = ap (λ rs. covered rs x y) (one_more xs k d lt is) ∙ covered_push (take k xs) d x y
