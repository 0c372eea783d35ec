-- What a rectangle hides of a set, and rectangles that share no square.
use Rattle.std.proofs.Common.{◌≡◌, ℕ, ◌+◌, ◌<◌, refl, sym, ap, ◌∙◌, ℤ, ◌≤ℤ◌, ◌<ℤ◌, arith, Bool, true, false, ◌&&◌, ◌||◌, List, [], ◌∷◌, ◌++◌, length, get_or, take, w64, FitsSigned}
use Rattle.std.specs.Prelude.{int_lt}
use Rattle.std.proofs.lemmas.List.{take_more}
use Rattle.std.proofs.lemmas.Bool.{and_parts}
use Rattle.std.proofs.lemmas.Int.{ints, clamps}
use Rattle.fill_base.specs.declared.rect.Rect.{Rect}
use Rattle.fill_base.specs.Counts.{is_between}
use Rattle.fill_base.specs.Squares.{area_of, squares}
use Rattle.fill_base.proofs.Between.{is_between_bounds}
use Rattle.fill_base.proofs.Signed.{read, read_is}
use Rattle.fill_area.proofs.SharedAreas.{and_yes, in_part, lies_in, same_within}
use Rattle.fill_region.specs.Squares.{covered}
use Rattle.fill_cells.proofs.Lists.{covered_pushed}

-- the area of what a rectangle has of a set in a window
pub hidden_part : (p : ℤ → ℤ → Bool) (r w part : Rect) → ((x y : ℤ) → squares part x y ≡ squares r x y && squares w x y)
    → area_of p part ≡ area_of (λ x y. squares r x y && p x y) w
hidden_part p r w part each =
    let q : ℤ → ℤ → Bool = λ x y. squares part x y && p x y in
    same_within p q part (λ x y here. sym (ap (λ b. b && p x y) here))
    ∙ (in_part q part w (lies_in r w part each) (λ x y none. ap (λ b. b && p x y) none)
    ∙ same_within q (λ x y. squares r x y && p x y) w (λ x y here. ap (λ b. b && p x y) (each x y ∙ rw here (and_yes (squares r x y)))))

-- a number below another, as the code reads both
pub lt_read : (p q u v : ℤ) → p ≡ u → q ≡ v → FitsSigned w64 u → FitsSigned w64 v → u <ℤ v → int_lt (read p) (read q) ≡ true
lt_read p q u v p_is q_is u_fits v_fits lt = rw (p_is, q_is, read_is u u_fits, read_is v v_fits) (is u v lt)
  where
    is : (u v : ℤ) → u <ℤ v → int_lt u v ≡ true
    is u v lt = grind (arith, ints)

-- two rectangles of which one begins where the other ends, or past it, share no square
pub none_shared : (a b : Rect) (met : Bool) → (a.x1 <ℤ b.x2 → b.x1 <ℤ a.x2 → a.y1 <ℤ b.y2 → b.y1 <ℤ a.y2 → met ≡ true) → false ≡ met → (x y : ℤ) → squares a x y && squares b x y ≡ false
none_shared a b met meets none x y = is_no (squares a x y && squares b x y) (λ held. none ∙ within (and_parts (squares a x y) (squares b x y) held))
  where
    is_no : (t : Bool) → (t ≡ true → false ≡ true) → t ≡ false
    is_no true h = sym (h refl)
    is_no false h = refl

    over : (p q z : ℤ) → p ≤ℤ z → z <ℤ q → p <ℤ q
    over p q z le lt = omega (arith, ints, clamps)

    within : (squares a x y ≡ true) × (squares b x y ≡ true) → met ≡ true
    within both =
        let first = bounds a both.0 in
        let second = bounds b both.1 in
        meets (over a.x1 b.x2 x first.0 second.1) (over b.x1 a.x2 x second.0 first.1) (over a.y1 b.y2 y first.2 second.3) (over b.y1 a.y2 y second.2 first.3)
      where
        bounds : (r : Rect) → squares r x y ≡ true → (r.x1 ≤ℤ x) × (x <ℤ r.x2) × (r.y1 ≤ℤ y) × (y <ℤ r.y2)
        bounds r held =
            let parts = and_parts (is_between r.x1 r.x2 x) (is_between r.y1 r.y2 y) held in
            let across = is_between_bounds r.x1 r.x2 x parts.0 in
            let up = is_between_bounds r.y1 r.y2 y parts.1 in
            (across.0, across.1, up.0, up.1)

-- a set that no rectangle of a list meets, after one more
pub none_more : (others : List Rect) (k : ℕ) (other r : Rect) → k < length others → other ≡ get_or others k other
    → ((x y : ℤ) → covered (take k others) x y && squares r x y ≡ false) → ((x y : ℤ) → squares other x y && squares r x y ≡ false)
    → (x y : ℤ) → covered (take (k + 1) others) x y && squares r x y ≡ false
none_more others k other r lt item before here x y =
    ap (λ t. t && squares r x y) (covered_pushed (take k others) (take (k + 1) others) other (take_more others k other lt ∙ ap (λ z. take k others ++ z ∷ []) (sym item)) x y)
    ∙ neither (covered (take k others) x y) (squares other x y) (squares r x y) (before x y) (here x y)
  where
    neither : (a b c : Bool) → a && c ≡ false → b && c ≡ false → (a || b) && c ≡ false
    neither true b c first second = first
    neither false b c first second = second

-- the same where none met so far and none met here is told at once
pub none_more_met : (others : List Rect) (k : ℕ) (other r : Rect) (before here : Bool) → k < length others → other ≡ get_or others k other
    → (false ≡ before → (x y : ℤ) → covered (take k others) x y && squares r x y ≡ false) → (false ≡ here → (x y : ℤ) → squares other x y && squares r x y ≡ false)
    → false ≡ (before || here) → (x y : ℤ) → covered (take (k + 1) others) x y && squares r x y ≡ false
none_more_met others k other r false here lt item none_before none_here none = none_more others k other r lt item (none_before refl) (none_here none)
none_more_met others k other r true here lt item none_before none_here none = absurd (cc)
