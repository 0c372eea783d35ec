-- Regions grown on all sides.
use Rattle.std.proofs.Common.{◌≡◌, ℕ, ◌+◌, ◌≤◌, ◌<◌, ℤ, pos, ◌+ℤ◌, ◌-ℤ◌, ◌≤ℤ◌, ◌<ℤ◌, List, [], ◌∷◌, ◌++◌, length, take, get_or, refl, arith, ap, ◌∙◌, sym, Bool, true, false, not, ◌||◌, ◌↔◌}
use Rattle.std.specs.Prelude.{IsTrue}
use Rattle.std.proofs.lemmas.Int.{ints, clamps, by_lt_z}
use Rattle.std.proofs.lemmas.List.{take_all}
use Rattle.fill_base.specs.declared.rect.Rect.{Rect}
use Rattle.fill_base.specs.Coordinates.{lowest, highest, IsInRange}
use Rattle.fill_base.specs.Squares.{squares}
use Rattle.std.specs.Int.{int_min}
use Rattle.fill_base.proofs.Signed.{read, read_is}
use Rattle.fill_region.specs.Runs.{Sides, holds}
use Rattle.fill_region.specs.Squares.{covered}
use Rattle.fill_region.proofs.Members.{or_left, or_right, held, one_more, covered_push}
use Rattle.fill_base.specs.Limits.{IsSpacing}
use Rattle.fill_size.specs.Distance.{IsNear, Reaches, HasSquare, IsSized, StaysInRange}
use Rattle.fill_size.specs.Growth.{FitsGrown}
use Rattle.fill_size.proofs.Ranges.{squares_inside, spacing_read, squares_true, nearest}

not_both : (b : Bool) → b ≡ true → b ≡ false → ⊥
not_both b h k = let e : true ≡ false = sym h ∙ k in cc

at_least : (a b : ℤ) → (a <ℤ b → ⊥) → b ≤ℤ a
at_least a b none = by_lt_z a b (λ lt. absurd (none lt)) (λ le. le)

below : (a b : ℤ) → (b ≤ℤ a → ⊥) → a <ℤ b
below a b none = by_lt_z a b (λ lt. lt) (λ le. absurd (none le))

-- no square lies in the strips that growing would leave the range from
pub record StripsEmpty (p : ℤ → ℤ → Bool) (d : ℤ) : Type 0 where
  pub left : (x y : ℤ) → p x y ≡ true → (lowest +ℤ d) ≤ℤ x
  pub right : (x y : ℤ) → p x y ≡ true → x <ℤ (highest -ℤ d)
  pub bottom : (x y : ℤ) → p x y ≡ true → (lowest +ℤ d) ≤ℤ y
  pub top : (x y : ℤ) → p x y ≡ true → y <ℤ (highest -ℤ d)

pub strips_stay : (p : ℤ → ℤ → Bool) (d : ℤ) → StripsEmpty p d → StaysInRange p d
strips_stay p d e x y r =
    let xa : (x -ℤ r.u) ≤ℤ d = r.across.above in let xb : (r.u -ℤ x) ≤ℤ d = r.across.below in
    let ya : (y -ℤ r.v) ≤ℤ d = r.up.above in let yb : (r.v -ℤ y) ≤ℤ d = r.up.below in
    (low r.u x d (e.left r.u r.v r.square) xb, high r.u x d (e.right r.u r.v r.square) xa, low r.v y d (e.bottom r.u r.v r.square) yb, high r.v y d (e.top r.u r.v r.square) ya)
  where
    low : (u x d : ℤ) → (lowest +ℤ d) ≤ℤ u → (u -ℤ x) ≤ℤ d → lowest ≤ℤ x
    low u x d a b = omega (arith, ints)

    high : (u x d : ℤ) → u <ℤ (highest -ℤ d) → (x -ℤ u) ≤ℤ d → x <ℤ highest
    high u x d a b = omega (arith, ints)

self_near : (d u : ℤ) → pos 0 ≤ℤ d → IsNear d u u
self_near d u some = record { above = omega (arith, ints); below = omega (arith, ints) }

left_near : (d u : ℤ) → pos 0 ≤ℤ d → IsNear d (u -ℤ d) u
left_near d u some = record { above = omega (arith, ints); below = omega (arith, ints) }

right_near : (d u : ℤ) → pos 0 ≤ℤ d → IsNear d (u +ℤ d) u
right_near d u some = record { above = omega (arith, ints); below = omega (arith, ints) }

pub stay_strips : (p : ℤ → ℤ → Bool) (d : ℤ) → pos 0 ≤ℤ d → StaysInRange p d → StripsEmpty p d
stay_strips p d some stays = record {
  left = λ x y is. up x (stays (x -ℤ d) y (record { u = x; v = y; square = is; across = left_near d x some; up = self_near d y some })).0;
  right = λ x y is. down x (stays (x +ℤ d) y (record { u = x; v = y; square = is; across = right_near d x some; up = self_near d y some })).1;
  bottom = λ x y is. up y (stays x (y -ℤ d) (record { u = x; v = y; square = is; across = self_near d x some; up = left_near d y some })).2;
  top = λ x y is. down y (stays x (y +ℤ d) (record { u = x; v = y; square = is; across = self_near d x some; up = right_near d y some })).3;
}
  where
    up : (x : ℤ) → lowest ≤ℤ (x -ℤ d) → (lowest +ℤ d) ≤ℤ x
    up x h = omega (arith, ints)

    down : (x : ℤ) → (x +ℤ d) <ℤ highest → x <ℤ (highest -ℤ d)
    down x h = omega (arith, ints)

-- the four strips, as the code looks at them
pub strips_none : (bs : List Sides) (d : ℤ) → ((x y : ℤ) → holds bs x y ≡ true → IsInRange x y) → (HasSquare (holds bs) lowest lowest (lowest +ℤ d) highest → ⊥) → (HasSquare (holds bs) (highest -ℤ d) lowest highest highest → ⊥)
    → (HasSquare (holds bs) lowest lowest highest (lowest +ℤ d) → ⊥) → (HasSquare (holds bs) lowest (highest -ℤ d) highest highest → ⊥) → StripsEmpty (holds bs) d
strips_none bs d region no_left no_right no_bottom no_top = record {
  left = λ x y is. let r = region x y is in at_least x _ (λ lt. no_left (record { x = x; y = y; square = is; from_left = r.left; to_right = lt; from_bottom = r.bottom; to_top = r.top }));
  right = λ x y is. let r = region x y is in below x _ (λ le. no_right (record { x = x; y = y; square = is; from_left = le; to_right = r.right; from_bottom = r.bottom; to_top = r.top }));
  bottom = λ x y is. let r = region x y is in at_least y _ (λ lt. no_bottom (record { x = x; y = y; square = is; from_left = r.left; to_right = r.right; from_bottom = r.bottom; to_top = lt }));
  top = λ x y is. let r = region x y is in below y _ (λ le. no_top (record { x = x; y = y; square = is; from_left = r.left; to_right = r.right; from_bottom = le; to_top = r.top }));
}

pub none_of_strips : (p : ℤ → ℤ → Bool) (d : ℤ) → StripsEmpty p d
    → ((HasSquare p lowest lowest (lowest +ℤ d) highest → ⊥) × (HasSquare p (highest -ℤ d) lowest highest highest → ⊥) × (HasSquare p lowest lowest highest (lowest +ℤ d) → ⊥) × (HasSquare p lowest (highest -ℤ d) highest highest → ⊥))
none_of_strips p d e = (
  (λ h. over h.x (lowest +ℤ d) (e.left h.x h.y h.square) h.to_right),
  (λ h. over h.x (highest -ℤ d) h.from_left (e.right h.x h.y h.square)),
  (λ h. over h.y (lowest +ℤ d) (e.bottom h.x h.y h.square) h.to_top),
  (λ h. over h.y (highest -ℤ d) h.from_bottom (e.top h.x h.y h.square)),
)
  where
    over : (a b : ℤ) → b ≤ℤ a → a <ℤ b → ⊥
    over a b h k = omega (arith, ints)

pub fits_test : (bs : List Sides) (d : ℤ) (a b c e : Bool) → ((x y : ℤ) → holds bs x y ≡ true → IsInRange x y) → pos 0 ≤ℤ d
    → (IsTrue a ↔ HasSquare (holds bs) lowest lowest (lowest +ℤ d) highest) → (IsTrue b ↔ HasSquare (holds bs) (highest -ℤ d) lowest highest highest)
    → (IsTrue c ↔ HasSquare (holds bs) lowest lowest highest (lowest +ℤ d)) → (IsTrue e ↔ HasSquare (holds bs) lowest (highest -ℤ d) highest highest)
    → (IsTrue (not (((a || b) || c) || e)) ↔ StaysInRange (holds bs) d)
fits_test bs d a b c e region some la lb lc le = (
  (λ h. let f = all_false a b c e h in strips_stay (holds bs) d (strips_none bs d region (none a la f.0) (none b lb f.1) (none c lc f.2) (none e le f.3))),
  (λ stays. let n = none_of_strips (holds bs) d (stay_strips (holds bs) d some stays) in not_true a b c e (λ h. n.0 (la.0 h)) (λ h. n.1 (lb.0 h)) (λ h. n.2 (lc.0 h)) (λ h. n.3 (le.0 h))),
)
  where
    none : {P : Type 0} (b : Bool) → (IsTrue b ↔ P) → b ≡ false → P → ⊥
    none b t is p = not_both b (t.1 p) is

    all_false : (a b c e : Bool) → not (((a || b) || c) || e) ≡ true → (a ≡ false) × (b ≡ false) × (c ≡ false) × (e ≡ false)
    all_false false false false false h = (refl, refl, refl, refl)
    all_false true b c e h = absurd (let k : false ≡ true = h in cc)
    all_false false true c e h = absurd (let k : false ≡ true = h in cc)
    all_false false false true e h = absurd (let k : false ≡ true = h in cc)
    all_false false false false true h = absurd (let k : false ≡ true = h in cc)

    not_true : (a b c e : Bool) → (a ≡ true → ⊥) → (b ≡ true → ⊥) → (c ≡ true → ⊥) → (e ≡ true → ⊥) → not (((a || b) || c) || e) ≡ true
    not_true false false false false f g h i = refl
    not_true true b c e f g h i = absurd (f refl)
    not_true false true c e f g h i = absurd (g refl)
    not_true false false true e f g h i = absurd (h refl)
    not_true false false false true f g h i = absurd (i refl)

pub fits_reads : (bs : List Sides) (d : ℤ) (a b c e : Bool) → ((x y : ℤ) → holds bs x y ≡ true → IsInRange x y) → pos 0 ≤ℤ d → d ≤ℤ pos 2147483648
    → (IsTrue a ↔ HasSquare (holds bs) lowest lowest (read (lowest +ℤ read d)) highest) → (IsTrue b ↔ HasSquare (holds bs) (read (highest -ℤ read d)) lowest highest highest)
    → (IsTrue c ↔ HasSquare (holds bs) lowest lowest highest (read (lowest +ℤ read d))) → (IsTrue e ↔ HasSquare (holds bs) lowest (read (highest -ℤ read d)) highest highest)
    → (IsTrue (not (((a || b) || c) || e)) ↔ StaysInRange (holds bs) d)
fits_reads bs d a b c e region least most la lb lc le =
    let d_is : read d ≡ d = read_is d (omega (arith, ints)) in
    let low : read (lowest +ℤ read d) ≡ lowest +ℤ d = rw d_is (read_is (lowest +ℤ d) (omega (arith, ints))) in
    let high : read (highest -ℤ read d) ≡ highest -ℤ d = rw d_is (read_is (highest -ℤ d) (omega (arith, ints))) in
    fits_test bs d a b c e region least (rw low at la) (rw high at lb) (rw low at lc) (rw high at le)

-- grown by 2^31 or more, a square leaves the coordinates, so only the empty set stays within
none_stays : (p : ℤ → ℤ → Bool) (d : ℤ) → ((x y : ℤ) → p x y ≡ true → IsInRange x y) → pos 2147483648 ≤ℤ d → StaysInRange p d → (x y : ℤ) → p x y ≡ true → ⊥
none_stays p d region far stays x y is = apart x ((stay_strips p d (omega (arith, ints)) stays).left x y is) (region x y is).right
  where
    apart : (x : ℤ) → (lowest +ℤ d) ≤ℤ x → x <ℤ highest → ⊥
    apart x h k = omega (arith, ints)

-- so a growth beyond 2^31 fits where 2^31 does
pub far_same : (p : ℤ → ℤ → Bool) (d m : ℤ) → ((x y : ℤ) → p x y ≡ true → IsInRange x y) → m ≡ int_min d (pos 2147483648) → StaysInRange p m ↔ StaysInRange p d
far_same p d m region m_is = by_lt_z (pos 2147483648) d
    (λ far. let e : m ≡ pos 2147483648 = m_is ∙ least_far far in rw e (
      (λ stays x y r. absurd (none_stays p (pos 2147483648) region (omega (arith, ints)) stays r.u r.v r.square)),
      (λ stays x y r. absurd (none_stays p d region (omega (arith, ints)) stays r.u r.v r.square)),
    ))
    (λ near. let e : m ≡ d = m_is ∙ least_near near in rw e ((λ stays. stays), (λ stays. stays)))
  where
    least_far : pos 2147483648 <ℤ d → int_min d (pos 2147483648) ≡ pos 2147483648
    least_far far = omega (arith, ints, clamps)

    least_near : d ≤ℤ pos 2147483648 → int_min d (pos 2147483648) ≡ d
    least_near near = omega (arith, ints, clamps)

-- the squares of a grown rectangle are those that the rectangle reaches
pub rect_sized : (r g : Rect) (d : ℤ) → pos 0 ≤ℤ d → g.x1 ≡ r.x1 -ℤ d → g.y1 ≡ r.y1 -ℤ d → g.x2 ≡ r.x2 +ℤ d → g.y2 ≡ r.y2 +ℤ d → IsSized (squares r) d (squares g)
rect_sized r g d some left bottom right top x y = (from, to)
  where
    from : squares g x y ≡ true → Reaches (squares r) d x y
    from is =
        let at = squares_inside g x y is in
        let across = nearest x r.x1 r.x2 d r.wide some (rw left at at.left) (rw right at at.right) in
        let up = nearest y r.y1 r.y2 d r.tall some (rw bottom at at.bottom) (rw top at at.top) in
        record { u = across.x; v = up.x; square = squares_true r across.x up.x across.low across.high up.low up.high; across = back x across.x across.near; up = back y up.x up.near }
      where
        back : (x u : ℤ) → IsNear d u x → IsNear d x u
        back x u n = record { above = n.below; below = n.above }

    to : Reaches (squares r) d x y → squares g x y ≡ true
    to h =
        let at = squares_inside r h.u h.v h.square in
        let a : g.x1 ≤ℤ x = rw left (low r.x1 h.u x at.left h.across.below) in
        let b : x <ℤ g.x2 = rw right (high r.x2 h.u x at.right h.across.above) in
        let c : g.y1 ≤ℤ y = rw bottom (low r.y1 h.v y at.bottom h.up.below) in
        let e : y <ℤ g.y2 = rw top (high r.y2 h.v y at.top h.up.above) in
        squares_true g x y a b c e
      where
        low : (a u x : ℤ) → a ≤ℤ u → (u -ℤ x) ≤ℤ d → (a -ℤ d) ≤ℤ x
        low a u x h k = omega (arith, ints)

        high : (b u x : ℤ) → u <ℤ b → (x -ℤ u) ≤ℤ d → x <ℤ (b +ℤ d)
        high b u x h k = omega (arith, ints)

split : {P : Type 0} (p q : Bool) → (p ≡ true → P) → (q ≡ true → P) → p || q ≡ true → P
split true q f g h = f refl
split false q f g h = g h

-- one more rectangle, and it grown
pub sized_more : (rects grown : List Rect) (r g : Rect) (d : ℤ) → IsSized (covered rects) d (covered grown) → IsSized (squares r) d (squares g) → IsSized (covered (rects ++ (r ∷ []))) d (covered (grown ++ (g ∷ [])))
sized_more rects grown r g d before one x y = (from, to)
  where
    wider : (p q : ℤ → ℤ → Bool) → ((u v : ℤ) → p u v ≡ true → q u v ≡ true) → Reaches p d x y → Reaches q d x y
    wider p q all h = record { u = h.u; v = h.v; square = all h.u h.v h.square; across = h.across; up = h.up }

    old : Reaches (covered rects) d x y → Reaches (covered (rects ++ (r ∷ []))) d x y
    old = wider (covered rects) (covered (rects ++ (r ∷ []))) (λ u v is. covered_push rects r u v ∙ or_left (covered rects u v) (squares r u v) is)

    new : Reaches (squares r) d x y → Reaches (covered (rects ++ (r ∷ []))) d x y
    new = wider (squares r) (covered (rects ++ (r ∷ []))) (λ u v is. covered_push rects r u v ∙ or_right (covered rects u v) (squares r u v) is)

    from : covered (grown ++ (g ∷ [])) x y ≡ true → Reaches (covered (rects ++ (r ∷ []))) d x y
    from is = split (covered grown x y) (squares g x y) (λ h. old ((before x y).0 h)) (λ h. new ((one x y).0 h)) (sym (covered_push grown g x y) ∙ is)

    to : Reaches (covered (rects ++ (r ∷ []))) d x y → covered (grown ++ (g ∷ [])) x y ≡ true
    to h = covered_push grown g x y ∙ split (covered rects h.u h.v) (squares r h.u h.v)
        (λ k. or_left (covered grown x y) (squares g x y) ((before x y).1 (record { u = h.u; v = h.v; square = k; across = h.across; up = h.up })))
        (λ k. or_right (covered grown x y) (squares g x y) ((one x y).1 (record { u = h.u; v = h.v; square = k; across = h.across; up = h.up })))
        (sym (covered_push rects r h.u h.v) ∙ h.square)

-- a piece of a region that stays in range, grown, lies within the coordinates
pub piece_fits : (p : ℤ → ℤ → Bool) (r : Rect) (d : ℤ) → pos 0 ≤ℤ d → StaysInRange p d → ((x y : ℤ) → squares r x y ≡ true → p x y ≡ true) → FitsGrown r d
piece_fits p r d some stays within =
    let e = stay_strips p d some stays in
    let wide : r.x1 <ℤ r.x2 = r.wide in let tall : r.y1 <ℤ r.y2 = r.tall in
    let low = within r.x1 r.y1 (squares_true r r.x1 r.y1 (omega (arith, ints)) wide (omega (arith, ints)) tall) in
    let high = within (r.x2 -ℤ pos 1) (r.y2 -ℤ pos 1) (squares_true r _ _ (omega (arith, ints)) (omega (arith, ints)) (omega (arith, ints)) (omega (arith, ints))) in
    record {
      left = up r.x1 (e.left _ _ low);
      bottom = up r.y1 (e.bottom _ _ low);
      right = down r.x2 (e.right _ _ high);
      top = down r.y2 (e.top _ _ high);
    }
  where
    up : (x : ℤ) → (lowest +ℤ d) ≤ℤ x → lowest ≤ℤ (x -ℤ d)
    up x h = omega (arith, ints)

    down : (x : ℤ) → (x -ℤ pos 1) <ℤ (highest -ℤ d) → (x +ℤ d) ≤ℤ highest
    down x h = omega (arith, ints)

-- what the code asks for at each run
pub run_fits : (bs : List Sides) (runs : List Rect) (i : ℕ) (r : Rect) (d : ℤ) → IsSpacing d → StaysInRange (holds bs) d → ((x y : ℤ) → covered runs x y ≡ holds bs x y)
    → i < length runs → r ≡ get_or runs i r → FitsGrown r (read d)
run_fits bs runs i r d is stays cover lt item = rw (spacing_read d is) (piece_fits (holds bs) r d is.least stays (λ x y h. sym (cover x y) ∙ held runs r x y (i, lt, sym item) h))

-- one turn: another run is grown
pub turn_sized : (runs grown after : List Rect) (i : ℕ) (r g : Rect) (d : ℤ) → IsSpacing d → i < length runs → r ≡ get_or runs i r → after ≡ grown ++ (g ∷ [])
    → g.x1 ≡ r.x1 -ℤ read d → g.y1 ≡ r.y1 -ℤ read d → g.x2 ≡ r.x2 +ℤ read d → g.y2 ≡ r.y2 +ℤ read d
    → IsSized (covered (take i runs)) (read d) (covered grown) → IsSized (covered (take (i + 1) runs)) (read d) (covered after)
turn_sized runs grown after i r g d is lt item added left bottom right top before =
    let some : pos 0 ≤ℤ read d = rw (spacing_read d is) is.least in
    rw (added, one_more runs i r lt item) (sized_more (take i runs) grown r g (read d) before (rect_sized r g (read d) some left bottom right top))

pub all_sized : (p q : ℤ → ℤ → Bool) (runs grown now : List Rect) (i : ℕ) (d : ℤ) → IsSpacing d → length runs ≤ i → now ≡ grown → ((x y : ℤ) → covered runs x y ≡ p x y) → ((x y : ℤ) → q x y ≡ covered now x y)
    → IsSized (covered (take i runs)) (read d) (covered grown) → IsSized p d q
all_sized p q runs grown now i d is end same cover squares_now before x y =
    let at : IsSized (covered runs) d (covered grown) = rw (take_all i runs end, spacing_read d is) at before in (
      (λ h. let r = (at x y).0 (sym (ap (λ g. covered g x y) same) ∙ sym (squares_now x y) ∙ h) in record { u = r.u; v = r.v; square = sym (cover r.u r.v) ∙ r.square; across = r.across; up = r.up }),
      (λ r. squares_now x y ∙ ap (λ g. covered g x y) same ∙ (at x y).1 (record { u = r.u; v = r.v; square = cover r.u r.v ∙ r.square; across = r.across; up = r.up })),
    )
