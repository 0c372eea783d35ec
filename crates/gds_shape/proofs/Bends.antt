-- The corners of a path differ from their neighbours, and lie between none of them.
use Rattle.std.proofs.Common.{◌≡◌, ℤ, List, [], ◌∷◌, refl, ap, sym, subst, ◌∙◌, ◌⊎◌, inl, inr, Bool, true, false, cond, arith, ◌||◌, ◌&&◌}
use Rattle.std.proofs.lemmas.Int.{ints}
use Rattle.std.proofs.lemmas.Bool.{and_parts, and_from, or_cases, false≢true}
use Rattle.std.proofs.lemmas.Bool.Decides.{Decides-int_eq}
use Rattle.std.specs.Ordering.{int_eq}
use Rattle.fill_base.specs.declared.place.Point.{Point}
use Rattle.gds_shape.specs.Paths.{is_same, is_inside, goes_on, is_inner, is_dropped, corners_from, corners}
use Rattle.gds_shape.specs.Corners.{NeighboursDiffer, NoneIsInner, first_of, last_of}

-- the corners behind the first one
abbrev behind : Point → Point → List Point → List Point
behind p q [] = cond (is_same p q) [] (q ∷ [])
behind p q (r ∷ points) = cond (is_dropped p q r) (behind p r points) (q ∷ behind q r points)

begins : (p q : Point) (points : List Point) → corners_from p q points ≡ p ∷ behind p q points
begins p q [] = here (is_same p q)
  where
    here : (b : Bool) → cond b (p ∷ []) (p ∷ q ∷ []) ≡ p ∷ cond b [] (q ∷ [])
    here true = refl
    here false = refl
begins p q (r ∷ points) = here (is_dropped p q r) (begins p r points) (begins q r points)
  where
    here : (b : Bool) → corners_from p r points ≡ p ∷ behind p r points → corners_from q r points ≡ q ∷ behind q r points
        → cond b (corners_from p r points) (p ∷ corners_from q r points) ≡ p ∷ cond b (behind p r points) (q ∷ behind q r points)
    here true one two = one
    here false one two = ap (λ cs. p ∷ cs) two

-- ---- what is not dropped

none_of : (a b c : Bool) → (a || b || c) ≡ false → (a ≡ false) × (b ≡ false) × (c ≡ false)
none_of true b c h = absurd (false≢true (sym h))
none_of false true c h = absurd (false≢true (sym h))
none_of false false c h = (refl, refl, h)

differ : (p q : Point) (points : List Point) → NeighboursDiffer (p ∷ behind p q points)
differ p q [] = here (is_same p q) refl
  where
    here : (b : Bool) → is_same p q ≡ b → NeighboursDiffer (p ∷ cond b [] (q ∷ []))
    here true is = tt
    here false is = (is, tt)
differ p q (r ∷ points) = here (is_dropped p q r) refl (differ p r points) (differ q r points)
  where
    here : (b : Bool) → is_dropped p q r ≡ b → NeighboursDiffer (p ∷ behind p r points) → NeighboursDiffer (q ∷ behind q r points) → NeighboursDiffer (p ∷ cond b (behind p r points) (q ∷ behind q r points))
    here true is one two = one
    here false is one two = ((none_of (is_same p q) (is_same q r) (is_inner p q r) is).0, two)

pub corners_differ : (points : List Point) → NeighboursDiffer (corners points)
corners_differ [] = tt
corners_differ (p ∷ points) = rw (begins p p points) (differ p p points)

-- ---- the ends

abbrev point_at : ℤ → ℤ → Point
point_at x y = record { x = x; y = y }

same_point : (p q : Point) → is_same p q ≡ true → p ≡ q
same_point p q h =
    let parts = and_parts (int_eq p.x q.x) (int_eq p.y q.y) h in
    equal p.x q.x p.y q.y ((Decides-int_eq p.x q.x).0 parts.0) ((Decides-int_eq p.y q.y).0 parts.1)
  where
    equal : (a b c d : ℤ) → a ≡ b → c ≡ d → point_at a c ≡ point_at b d
    equal a b c d one two = rw (one, two) refl

ends : (p q : Point) (points : List Point) → last_of p (behind p q points) ≡ last_of q points
ends p q [] = here (is_same p q) refl
  where
    here : (b : Bool) → is_same p q ≡ b → last_of p (cond b [] (q ∷ [])) ≡ q
    here true is = same_point p q is
    here false is = refl
ends p q (r ∷ points) = here (is_dropped p q r) (ends p r points) (ends q r points)
  where
    here : (b : Bool) → last_of p (behind p r points) ≡ last_of r points → last_of q (behind q r points) ≡ last_of r points
        → last_of p (cond b (behind p r points) (q ∷ behind q r points)) ≡ last_of r points
    here true one two = one
    here false one two = two

pub corners_keep_the_ends : (p : Point) (points : List Point) → (first_of p (corners (p ∷ points)) ≡ p) × (last_of p (corners (p ∷ points)) ≡ last_of p points)
corners_keep_the_ends p points = rw (begins p p points) (refl, ends p p points)

-- ---- none lies between its neighbours

abbrev Turns : Point → Point → Point → Type 0
Turns o p q = (is_same p q ≡ false) × (is_inner o p q ≡ false)

-- ---- along an axis

all_of : (a b c : Bool) → (a && b && c) ≡ true → (a ≡ true) × (b ≡ true) × (c ≡ true)
all_of true true c h = (refl, refl, h)
all_of true false c h = absurd (false≢true h)
all_of false b c h = absurd (false≢true h)

some_of : (a b c : Bool) → (a || b || c) ≡ true → (a ≡ true) ⊎ ((b ≡ true) ⊎ (c ≡ true))
some_of true b c h = inl refl
some_of false true c h = inr (inl refl)
some_of false false c h = inr (inr h)

none_of_two : (a b : Bool) → (a || b) ≡ false → (a ≡ false) × (b ≡ false)
none_of_two true b h = absurd (false≢true (sym h))
none_of_two false b h = (refl, h)

clash : (b : Bool) → b ≡ false → b ≡ true → ⊥
clash b off on = false≢true (sym off ∙ on)

on_line : (a b c e f g : ℤ) → goes_on a b c e f g ≡ true → (a ≡ b) × (b ≡ c) × (is_inside e f g ≡ true)
on_line a b c e f g h =
    let parts = all_of (int_eq a b) (int_eq b c) (is_inside e f g) h in
    ((Decides-int_eq a b).0 parts.0, (Decides-int_eq b c).0 parts.1, parts.2)

line_on : (a b c e f g : ℤ) → a ≡ b → b ≡ c → is_inside e f g ≡ true → goes_on a b c e f g ≡ true
line_on a b c e f g one two three = rw ((Decides-int_eq a b).1 one, (Decides-int_eq b c).1 two, three) refl

inside_further : (e f g h : ℤ) → is_inside f g h ≡ true → is_inside e f h ≡ true → is_inside e f g ≡ true
inside_further e f g h one two = grind (arith, ints)

not_flat : (f g h : ℤ) → is_inside f g h ≡ true → f ≡ h → ⊥
not_flat f g h one two = grind (arith, ints)

further : (a b c d e f g h : ℤ) → goes_on b c d f g h ≡ true → goes_on a b d e f h ≡ true → goes_on a b c e f g ≡ true
further a b c d e f g h one two =
    let m = on_line b c d f g h one in
    let n = on_line a b d e f h two in
    line_on a b c e f g n.0 m.0 (inside_further e f g h m.2 n.2)

apart : (a b c d e f g h : ℤ) → goes_on b c d f g h ≡ true → goes_on e f h a b d ≡ true → ⊥
apart a b c d e f g h one two = not_flat f g h (on_line b c d f g h one).2 (on_line e f h a b d two).1

-- ---- past a dropped point

-- the point behind a corner goes on to one that is dropped, or to the one behind it
goes_further : (o p q r : Point) → Turns o p q → is_dropped p q r ≡ true → Turns o p r
goes_further o p q r turns dropped = (off (is_same p r) differs, off (is_inner o p r) bends)
  where
    off : (b : Bool) → (b ≡ true → ⊥) → b ≡ false
    off true h = absurd (h refl)
    off false h = refl

    differs : is_same p r ≡ true → ⊥
    differs on =
        let same = and_parts (int_eq p.x r.x) (int_eq p.y r.y) on in
        let x : p.x ≡ r.x = (Decides-int_eq p.x r.x).0 same.0 in
        let y : p.y ≡ r.y = (Decides-int_eq p.y r.y).0 same.1 in
        elim (some_of (is_same p q) (is_same q r) (is_inner p q r) dropped) [
          | inl h ↦ clash (is_same p q) turns.0 h
          | inr (inl h) ↦
              let next = and_parts (int_eq q.x r.x) (int_eq q.y r.y) h in
              clash (is_same p q) turns.0 (and_from (int_eq p.x q.x) (int_eq p.y q.y) ((Decides-int_eq p.x q.x).1 (x ∙ sym ((Decides-int_eq q.x r.x).0 next.0))) ((Decides-int_eq p.y q.y).1 (y ∙ sym ((Decides-int_eq q.y r.y).0 next.1))))
          | inr (inr h) ↦ elim (or_cases (goes_on p.x q.x r.x p.y q.y r.y) (goes_on p.y q.y r.y p.x q.x r.x) h) [
            | inl up ↦ not_flat p.y q.y r.y (on_line p.x q.x r.x p.y q.y r.y up).2 y
            | inr across ↦ not_flat p.x q.x r.x (on_line p.y q.y r.y p.x q.x r.x across).2 x
          ]
        ]

    bends : is_inner o p r ≡ true → ⊥
    bends on =
        let two = none_of_two (goes_on o.x p.x q.x o.y p.y q.y) (goes_on o.y p.y q.y o.x p.x q.x) turns.1 in
        elim (some_of (is_same p q) (is_same q r) (is_inner p q r) dropped) [
          | inl h ↦ clash (is_same p q) turns.0 h
          | inr (inl h) ↦ clash (is_inner o p q) turns.1 (subst (λ z. is_inner o p z ≡ true) (sym (same_point q r h)) on)
          | inr (inr h) ↦ elim (or_cases (goes_on p.x q.x r.x p.y q.y r.y) (goes_on p.y q.y r.y p.x q.x r.x) h) [
            | inl up ↦ elim (or_cases (goes_on o.x p.x r.x o.y p.y r.y) (goes_on o.y p.y r.y o.x p.x r.x) on) [
              | inl too ↦ clash _ two.0 (further o.x p.x q.x r.x o.y p.y q.y r.y up too)
              | inr other ↦ apart o.x p.x q.x r.x o.y p.y q.y r.y up other
            ]
            | inr across ↦ elim (or_cases (goes_on o.x p.x r.x o.y p.y r.y) (goes_on o.y p.y r.y o.x p.x r.x) on) [
              | inl other ↦ apart o.y p.y q.y r.y o.x p.x q.x r.x across other
              | inr too ↦ clash _ two.1 (further o.y p.y q.y r.y o.x p.x q.x r.x across too)
            ]
          ]
        ]

turn : (o p q : Point) (points : List Point) → Turns o p q → NoneIsInner (o ∷ p ∷ behind p q points)
turn o p q [] turns = rw turns.0 (turns.1, tt)
turn o p q (r ∷ points) turns = here (is_dropped p q r) refl (turn o p r points) (turn p q r points)
  where
    here : (b : Bool) → is_dropped p q r ≡ b → (Turns o p r → NoneIsInner (o ∷ p ∷ behind p r points)) → (Turns p q r → NoneIsInner (p ∷ q ∷ behind q r points))
        → NoneIsInner (o ∷ p ∷ cond b (behind p r points) (q ∷ behind q r points))
    here true is one two = one (goes_further o p q r turns is)
    here false is one two = let off = none_of (is_same p q) (is_same q r) (is_inner p q r) is in (turns.1, two (off.1, off.2))

none_inner : (p q : Point) (points : List Point) → NoneIsInner (p ∷ behind p q points)
none_inner p q [] = here (is_same p q)
  where
    here : (b : Bool) → NoneIsInner (p ∷ cond b [] (q ∷ []))
    here true = tt
    here false = tt
none_inner p q (r ∷ points) = here (is_dropped p q r) refl (none_inner p r points)
  where
    here : (b : Bool) → is_dropped p q r ≡ b → NoneIsInner (p ∷ behind p r points) → NoneIsInner (p ∷ cond b (behind p r points) (q ∷ behind q r points))
    here true is one = one
    here false is one = let off = none_of (is_same p q) (is_same q r) (is_inner p q r) is in turn p q r points (off.1, off.2)

pub corners_turn : (points : List Point) → NoneIsInner (corners points)
corners_turn [] = tt
corners_turn (p ∷ points) = rw (begins p p points) (none_inner p p points)
