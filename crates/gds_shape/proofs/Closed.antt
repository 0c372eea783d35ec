-- A closed boundary goes up past each row as often as down.
use Rattle.std.proofs.Common.{◌≡◌, ℕ, suc, ◌+◌, ◌-◌, ℤ, ◌≤ℤ◌, ◌<ℤ◌, List, [], ◌∷◌, length, get_or, refl, arith, ap, ◌∙◌, sym, Bool, true, false, cond, not, ◌&&◌, inl, inr, Some}
use Rattle.std.specs.Prelude.{int_lt, int_le, All, count_by, slice_get}
use Rattle.std.specs.Ordering.{int_eq}
use Rattle.std.proofs.lemmas.Int.{ints}
use Rattle.fill_base.specs.declared.place.Point.{Point}
use Rattle.fill_base.specs.Coordinates.{lowest}
use Rattle.gds_shape.specs.Winding.{edges, edges_from, IsAligned, IsManhattan, IsClosed, IsPoint}
use Rattle.gds_shape.specs.steps.Edges.{passes}
use Rattle.gds_shape.proofs.Counting.{count_cons}

abbrev pub last_from : Point → List Point → Point
last_from p [] = p
last_from p (q ∷ points) = last_from q points

abbrev over : ℤ → Point → ℕ
over y p = cond (int_lt y p.y) 1 0

-- an edge that goes up past the row ends over it, and one that goes down begins there
edge_over : (p q : Point) (x y : ℤ) → IsAligned (p, q) → x <ℤ p.x → x <ℤ q.x
    → cond (passes true x y (p, q)) 1 0 + over y p ≡ cond (passes false x y (p, q)) 1 0 + over y q
edge_over p q x y aligned lp lq =
    let tp : int_lt x p.x ≡ true = less x p.x lp in
    let tq : int_lt x q.x ≡ true = less x q.x lq in
    elim aligned [
      | inl is ↦ rw (eq p.x q.x is, eq q.x p.x (sym is), tp, tq, other p.y y, other q.y y) (table (int_lt y p.y) (int_lt y q.y))
      | inr is ↦ rw (is, other q.y y) (level (int_eq p.x q.x) (int_eq q.x p.x) (int_lt x p.x) (int_lt x q.x) (int_lt y q.y))
    ]
  where
    less : (a b : ℤ) → a <ℤ b → int_lt a b ≡ true
    less a b h = grind (arith, ints)

    eq : (a b : ℤ) → a ≡ b → int_eq a b ≡ true
    eq a b h = grind (arith, ints)

    other : (a y : ℤ) → int_le a y ≡ not (int_lt y a)
    other a y = grind (arith, ints)

    table : (a b : Bool) → cond (not a && b) 1 0 + cond a 1 0 ≡ cond (not b && a) 1 0 + cond b 1 0
    table true true = refl
    table true false = refl
    table false true = refl
    table false false = refl

    level : (a b c d e : Bool) → cond (a && (c && (not e && e))) 1 0 + cond e 1 0 ≡ cond (b && (d && (not e && e))) 1 0 + cond e 1 0
    level true true true true true = refl
    level true true true true false = refl
    level true true true false true = refl
    level true true true false false = refl
    level true true false true true = refl
    level true true false true false = refl
    level true true false false true = refl
    level true true false false false = refl
    level true false true d true = refl
    level true false true d false = refl
    level true false false d true = refl
    level true false false d false = refl
    level false true c true true = refl
    level false true c true false = refl
    level false true c false true = refl
    level false true c false false = refl
    level false false c d true = refl
    level false false c d false = refl

-- all together: the ups and what the first point is over, and the downs and what the last one is
edges_over : (p : Point) (points : List Point) (x y : ℤ) → IsManhattan (p ∷ points) → x <ℤ p.x → All (λ q. x <ℤ q.x) points
    → count_by (passes true x y) (edges_from p points) + over y p ≡ count_by (passes false x y) (edges_from p points) + over y (last_from p points)
edges_over p [] x y aligned first right = refl
edges_over p (q ∷ points) x y aligned first right =
    let here = edge_over p q x y aligned.0 first (right 0 q (omega arith)) in
    let rest = edges_over q points x y aligned.1 (right 0 q (omega arith)) (λ k d lt. right (suc k) d (omega arith)) in
    rw (count_cons (passes true x y) (p, q) (edges_from q points), count_cons (passes false x y) (p, q) (edges_from q points)) (join _ _ _ _ _ _ _ here rest)
  where
    join : (u d us ds a b c : ℕ) → u + a ≡ d + b → us + b ≡ ds + c → (u + us) + a ≡ (d + ds) + c
    join u d us ds a b c h k = omega arith

last_is : (p : Point) (points : List Point) → slice_get (p ∷ points) (length points) ≡ Some (last_from p points)
last_is p [] = refl
last_is p (q ∷ points) = last_is q points

-- left of all points, at each row
pub closed_left : (points : List Point) (x y : ℤ) → IsManhattan points → IsClosed points → All (λ q. x <ℤ q.x) points
    → count_by (passes true x y) (edges points) ≡ count_by (passes false x y) (edges points)
closed_left [] x y manhattan closed left = refl
closed_left (p ∷ points) x y manhattan closed left =
    let far = edges_over p points x y manhattan (left 0 p (omega arith)) (λ k d lt. left (suc k) d (omega arith)) in
    let end : Some p ≡ Some (last_from p points) = closed ∙ (ap (λ n. slice_get (p ∷ points) n) (less (length points)) ∙ last_is p points) in
    let same : last_from p points ≡ p = cc in
    cancel _ _ (over y p) (far ∙ ap (λ q. count_by (passes false x y) (edges_from p points) + over y q) same)
  where
    less : (n : ℕ) → suc n - 1 ≡ n
    less n = omega arith

    cancel : (a b c : ℕ) → a + c ≡ b + c → a ≡ b
    cancel a b c h = omega arith

-- so too left of all coordinates
pub closed_row : (points : List Point) (x y : ℤ) → IsManhattan points → IsClosed points → All IsPoint points → x <ℤ lowest
    → count_by (passes true x y) (edges points) ≡ count_by (passes false x y) (edges points)
closed_row points x y manhattan closed within left = closed_left points x y manhattan closed (λ k d lt. right_of (get_or points k d) (within k d lt))
  where
    right_of : (q : Point) → IsPoint q → x <ℤ q.x
    right_of q is = past q.x is.x.least
      where
        past : (a : ℤ) → lowest ≤ℤ a → x <ℤ a
        past a h = omega (arith, ints)
