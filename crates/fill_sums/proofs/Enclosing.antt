-- The rectangle around a region, run by run.
use Rattle.std.proofs.Common.{◌&&◌, ◌≡◌, ap, sym, ◌∙◌, ℕ, ◌+◌, ◌≤◌, ◌<◌, ℤ, ◌≤ℤ◌, ◌<ℤ◌, arith, Bool, true, false, List, length, get_or, take, ⊎_elim}
use Rattle.std.specs.Int.{int_max, int_min}
use Rattle.std.specs.Prelude.{int_lt}
use Rattle.std.proofs.lemmas.Int.{ints, clamps}
use Rattle.std.proofs.lemmas.List.{take_all}
use Rattle.fill_base.specs.Coordinates.{highest, lowest}
use Rattle.fill_base.specs.Squares.{squares}
use Rattle.fill_base.specs.declared.rect.Rect.{Rect}
use Rattle.fill_base.proofs.Signed.{read, read_is, coordinate_fits, le_trans, lt_le}
use Rattle.fill_region.specs.Squares.{covered}
use Rattle.fill_region.proofs.Members.{covered_more, either, square_within}
use Rattle.fill_sums.specs.steps.Bounds.{AreBounds, IsBetween}

-- the edges with one rectangle more
less_is : (a b at : ℤ) → lowest ≤ℤ a → a ≤ℤ highest → lowest ≤ℤ b → b ≤ℤ highest → at ≡ int_min a (read b) → read at ≡ int_min a b
less_is a b at al ah bl bh is =
    let inner : read b ≡ b = read_is b (coordinate_fits b bl bh) in
    let same : at ≡ int_min a b = is ∙ ap (λ z. int_min a z) inner in
    ap read same ∙ read_is (int_min a b) (coordinate_fits (int_min a b) (omega (arith, ints, clamps)) (omega (arith, ints, clamps)))

more_is : (a b at : ℤ) → lowest ≤ℤ a → a ≤ℤ highest → lowest ≤ℤ b → b ≤ℤ highest → at ≡ int_max a (read b) → read at ≡ int_max a b
more_is a b at al ah bl bh is =
    let inner : read b ≡ b = read_is b (coordinate_fits b bl bh) in
    let same : at ≡ int_max a b = is ∙ ap (λ z. int_max a z) inner in
    ap read same ∙ read_is (int_max a b) (coordinate_fits (int_max a b) (omega (arith, ints, clamps)) (omega (arith, ints, clamps)))

-- between some edges, so between edges further out
further : (a b c d x : ℤ) → a ≤ℤ x → x <ℤ b → (int_min a c ≤ℤ x) × (x <ℤ int_max b d)
further a b c d x low high = (omega (arith, ints, clamps), omega (arith, ints, clamps))

further_too : (a b c d x : ℤ) → c ≤ℤ x → x <ℤ d → (int_min a c ≤ℤ x) × (x <ℤ int_max b d)
further_too a b c d x low high = (omega (arith, ints, clamps), omega (arith, ints, clamps))

clamp_low : (a b : ℤ) → lowest ≤ℤ a → a ≤ℤ highest → lowest ≤ℤ b → b ≤ℤ highest → (lowest ≤ℤ int_min a b) × (int_min a b ≤ℤ highest)
clamp_low a b al ah bl bh = (omega (arith, ints, clamps), omega (arith, ints, clamps))

clamp_high : (a b : ℤ) → lowest ≤ℤ a → a ≤ℤ highest → lowest ≤ℤ b → b ≤ℤ highest → (lowest ≤ℤ int_max a b) × (int_max a b ≤ℤ highest)
clamp_high a b al ah bl bh = (omega (arith, ints, clamps), omega (arith, ints, clamps))

pub bounds_turn : (rects : List Rect) (k : ℕ) (r : Rect) (left bottom right top x1 x2 y1 y2 l b r' t : ℤ) → AreBounds rects k left bottom right top → k < length rects → r ≡ get_or rects k r
    → x1 ≡ r.x1 → x2 ≡ r.x2 → y1 ≡ r.y1 → y2 ≡ r.y2 → l ≡ int_min left (read x1) → r' ≡ int_max right (read x2) → b ≡ int_min bottom (read y1) → t ≡ int_max top (read y2)
    → AreBounds rects (k + 1) (read l) (read b) (read r') (read t)
bounds_turn rects k r left bottom right top x1 x2 y1 y2 l b r' t was lt item x1_is x2_is y1_is y2_is l_is r_is b_is t_is =
    let x1_most = le_trans r.x1 r.x2 highest (lt_le _ _ r.wide) r.right in
    let x2_least = le_trans lowest r.x1 r.x2 r.left (lt_le _ _ r.wide) in
    let y1_most = le_trans r.y1 r.y2 highest (lt_le _ _ r.tall) r.top in
    let y2_least = le_trans lowest r.y1 r.y2 r.bottom (lt_le _ _ r.tall) in
    let ls = clamp_low left r.x1 was.left_least was.left_most r.left x1_most in
    let rs = clamp_high right r.x2 was.right_least was.right_most x2_least r.right in
    let bs = clamp_low bottom r.y1 was.bottom_least was.bottom_most r.bottom y1_most in
    let ts = clamp_high top r.y2 was.top_least was.top_most y2_least r.top in
    rw (
      less_is left r.x1 l was.left_least was.left_most r.left x1_most (rw x1_is at l_is),
      more_is right r.x2 r' was.right_least was.right_most x2_least r.right (rw x2_is at r_is),
      less_is bottom r.y1 b was.bottom_least was.bottom_most r.bottom y1_most (rw y1_is at b_is),
      more_is top r.y2 t was.top_least was.top_most y2_least r.top (rw y2_is at t_is),
    )
    (record {
      left_least = ls.0;
      left_most = ls.1;
      bottom_least = bs.0;
      bottom_most = bs.1;
      right_least = rs.0;
      right_most = rs.1;
      top_least = ts.0;
      top_most = ts.1;
      within = λ x y member. ⊎_elim (before x y) (here x y) (either (covered (take k rects) x y) (squares r x y) (sym (covered_more rects k r x y lt item) ∙ member));
    })
  where
    before : (x y : ℤ) → covered (take k rects) x y ≡ true → IsBetween (int_min left r.x1) (int_min bottom r.y1) (int_max right r.x2) (int_max top r.y2) x y
    before x y member =
        let h = was.within x y member in
        let across = further left right r.x1 r.x2 x h.on_left h.on_right in
        let up = further bottom top r.y1 r.y2 y h.on_bottom h.on_top in
        record { on_left = across.0; on_right = across.1; on_bottom = up.0; on_top = up.1 }

    here : (x y : ℤ) → squares r x y ≡ true → IsBetween (int_min left r.x1) (int_min bottom r.y1) (int_max right r.x2) (int_max top r.y2) x y
    here x y member =
        let w = square_within r x y member in
        let across = further_too left right r.x1 r.x2 x w.0.0 w.0.1 in
        let up = further_too bottom top r.y1 r.y2 y w.1.0 w.1.1 in
        record { on_left = across.0; on_right = across.1; on_bottom = up.0; on_top = up.1 }

-- every square of a set lies between the edges around all rectangles that cover it
pub bounds_are : (p : ℤ → ℤ → Bool) (rects : List Rect) (k : ℕ) (left bottom right top : ℤ) → AreBounds rects k left bottom right top → length rects ≤ k → ((x y : ℤ) → covered rects x y ≡ p x y)
    → (x y : ℤ) → p x y ≡ true → IsBetween left bottom right top x y
bounds_are p rects k left bottom right top were all cover x y member = were.within x y (ap (λ rs. covered rs x y) (take_all k rects all) ∙ (cover x y ∙ member))

pub in_rect : (r : Rect) (left bottom right top x y : ℤ) → (r.x1 ≡ left) × (r.y1 ≡ bottom) × (r.x2 ≡ right) × (r.y2 ≡ top) → IsBetween left bottom right top x y → squares r x y ≡ true
in_rect r left bottom right top x y edges h =
    let low : r.x1 ≤ℤ x = rw edges.0 h.on_left in
    let high : x <ℤ r.x2 = rw edges.2 h.on_right in
    let under : r.y1 ≤ℤ y = rw edges.1 h.on_bottom in
    let over : y <ℤ r.y2 = rw edges.3 h.on_top in
    grind (arith, ints)

-- where the edges leave no room nothing lies between them
pub no_room : {A : Type 0} (left bottom right top x y : ℤ) → (int_lt left right && int_lt bottom top) ≡ false → IsBetween left bottom right top x y → A
no_room left bottom right top x y none h =
    let l : left ≤ℤ x = h.on_left in
    let r : x <ℤ right = h.on_right in
    let b : bottom ≤ℤ y = h.on_bottom in
    let t : y <ℤ top = h.on_top in
    absurd (grind (arith, ints))
