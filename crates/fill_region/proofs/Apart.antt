-- What the type of a region keeps: runs that share no square, within the coordinates, and none where there is no square.
use Rattle.std.proofs.Common.{◌≡◌, ℕ, ℤ, Bool, true, false, ◌==◌, ◌&&◌, ◌||◌, List, [], ◌∷◌, map, length, refl, sym, ap, arith, ◌∙◌, subst, true≢false}
use Rattle.std.specs.Prelude.{All}
use Rattle.std.specs.Bool.{Decides}
use Rattle.std.specs.List.{Contains}
use Rattle.std.specs.Ordering.{int_eq}
use Rattle.std.specs.Cmp.Lexicographic.{pointwise}
use Rattle.std.proofs.lemmas.Int.{ints}
use Rattle.std.proofs.lemmas.Bool.Decides.{Decides-int_eq, Decides-and, Decides-like, nat_tests}
use Rattle.std.proofs.lemmas.List.{nil_from_length}
use Rattle.std.proofs.lemmas.List.Elements.{All-contains, All-weaker, All-contains_itself}
use Rattle.fill_base.specs.declared.rect.Rect.{Rect}
use Rattle.fill_base.specs.Coordinates.{IsInRange}
use Rattle.fill_base.specs.Edges.{same_edges}
use Rattle.fill_base.specs.Sides.{sides_of}
use Rattle.fill_bands.specs.Squares.{covered}
use Rattle.fill_region.specs.Comparison.{same_sides}
use Rattle.fill_region.specs.Runs.{Sides, IsRun, has, holds, Precedes, AreInOrder, AreApart, AreRuns}
use Rattle.fill_region.proofs.Intervals.{same_run, sides_same}
use Rattle.fill_region.proofs.Members.{holder, square_within}
use Rattle.fill_region.proofs.Same.{all_after, not_before_self, tail_ordered, later_in, first_in, corner}

not_both : (a b : Bool) → (a ≡ true → b ≡ true → ⊥) → a ≡ true → b ≡ false
not_both a true never is = absurd (never is refl)
not_both a false never is = refl

apart_from : (p : ℤ → ℤ → Bool) (runs : List Sides) → All (IsRun p) runs → AreInOrder runs → AreApart runs
apart_from p [] each ordered = tt
apart_from p (s ∷ rest) each ordered = (
  All-weaker (Contains rest) (λ t. (x y : ℤ) → has s x y ≡ true → has t x y ≡ false)
      (λ t among x y. not_both (has s x y) (has t x y) (λ in_s in_t.
      let same : s ≡ t = same_run p s t x y (All-contains (IsRun p) (s ∷ rest) s each (first_in s rest)) (All-contains (IsRun p) (s ∷ rest) t each (later_in s t rest among)) in_s in_t in
      not_before_self t (subst (λ z. Precedes z t) same (all_after s rest ordered t among))))
      rest (All-contains_itself rest),
  apart_from p rest (All-weaker (Contains rest) (IsRun p) (λ t among. All-contains (IsRun p) (s ∷ rest) t each (later_in s t rest among)) rest (All-contains_itself rest)) (tail_ordered s rest ordered),
)

pub runs_apart : (runs : List Sides) → AreRuns runs → AreApart runs
runs_apart runs are = apart_from (holds runs) runs are.each are.ordered

-- ---- the coordinates

pub in_range : (rects : List Rect) (x y : ℤ) → covered rects x y ≡ true → IsInRange x y
in_range rects x y is =
    let h = holder rects x y is in
    let w = square_within h.rect x y h.holds_it in
    record {
      left = omega (arith, ints, h.rect.left, w.0.0);
      right = omega (arith, ints, h.rect.right, w.0.1);
      bottom = omega (arith, ints, h.rect.bottom, w.1.0);
      top = omega (arith, ints, h.rect.top, w.1.1);
    }

-- ---- no square, no run

has_none : (runs : List Sides) → AreRuns runs → ((x y : ℤ) → holds runs x y ≡ false) → runs ≡ []
has_none [] are none = refl
has_none (s ∷ rest) are none =
    let run : IsRun (holds (s ∷ rest)) s = All-contains (IsRun (holds (s ∷ rest))) (s ∷ rest) s are.each (first_in s rest) in
    absurd (true≢false (sym (or_here (has s s.left s.bottom) (holds rest s.left s.bottom) (corner s run.wide run.tall)) ∙ none s.left s.bottom))
  where
    or_here : (a b : Bool) → a ≡ true → (a || b) ≡ true
    or_here true b e = refl
    or_here false b e = absurd (true≢false (sym e))

pub empty_Decides : (rects : List Rect) (n : ℕ) (r : Bool) → AreRuns (map sides_of rects) → n ≡ length rects → r ≡ (n == 0)
    → (r ≡ true → (x y : ℤ) → holds (map sides_of rects) x y ≡ false) × (((x y : ℤ) → holds (map sides_of rects) x y ≡ false) → r ≡ true)
empty_Decides rects n r are long is = (
  (λ yes x y. let none : n ≡ 0 = grind (arith, nat_tests) in ap (λ rs. holds (map sides_of rs) x y) (nil_from_length rects (sym long ∙ none))),
  (λ none. let zero_long : n ≡ 0 = long ∙ length_none rects (has_none (map sides_of rects) are none) in grind (arith, nat_tests)),
)
  where
    length_none : (rs : List Rect) → map sides_of rs ≡ [] → length rs ≡ 0
    length_none [] e = refl
    length_none (r ∷ rs) e = absurd (not_nil (sides_of r) (map sides_of rs) e)
      where
        not_nil : (s : Sides) (ss : List Sides) → s ∷ ss ≡ [] → ⊥
        not_nil s ss e = cc

-- ---- comparing

pub same_lists : (xs ys : List Rect) → pointwise same_edges xs ys ≡ pointwise same_sides (map sides_of xs) (map sides_of ys)
same_lists [] [] = refl
same_lists [] (r ∷ ys) = refl
same_lists (r ∷ xs) [] = refl
same_lists (r ∷ xs) (s ∷ ys) = ap (λ b. same_edges r s && b) (same_lists xs ys)

pub sides_Decides : (s t : Sides) → Decides (same_sides s t) (s ≡ t)
sides_Decides s t = Decides-like (same_sides s t)
    (λ h. sides_same s.left s.bottom s.right s.top t.left t.bottom t.right t.top h.0 h.1.0 h.1.1.0 h.1.1.1)
    (λ e. (ap (λ (z : Sides). z.left) e, (ap (λ (z : Sides). z.bottom) e, (ap (λ (z : Sides). z.right) e, ap (λ (z : Sides). z.top) e))))
    (Decides-and (int_eq s.left t.left) _ (Decides-int_eq s.left t.left) (Decides-and (int_eq s.bottom t.bottom) _ (Decides-int_eq s.bottom t.bottom)
    (Decides-and (int_eq s.right t.right) (int_eq s.top t.top) (Decides-int_eq s.right t.right) (Decides-int_eq s.top t.top))))
