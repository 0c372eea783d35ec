-- The edges between neighbouring points, one after the other.
use Rattle.std.proofs.Common.{◌≡◌, ℕ, suc, ◌+◌, ◌≤◌, ◌<◌, ℤ, ◌≤ℤ◌, ◌<ℤ◌, List, [], ◌∷◌, ◌++◌, length, get_or, drop, refl, arith, ap, ◌∙◌, sym, Bool, true, false, cond, ◌&&◌, inl, inr, Option, Some, None, ◌+ℤ◌}
use Rattle.std.specs.Prelude.{int_lt, All, count_by, option_to_list, map, IfSome, IfNone}
use Rattle.std.specs.Ordering.{int_eq}
use Rattle.std.proofs.lemmas.Int.{ints}
use Rattle.std.proofs.lemmas.List.Sums.{sum_by-append}
use Rattle.fill_base.specs.declared.place.Point.{Point}
use Rattle.fill_base.specs.Counts.{is_between}
use Rattle.gds_shape.specs.declared.edge.Edge.{Edge}
use Rattle.gds_shape.specs.Winding.{edges, IsManhattan, IsPoint}
use Rattle.gds_shape.specs.Moves.{moved}
use Rattle.gds_shape.specs.steps.Edges.{goes, spans, passes, passing, IsEdge}
use Rattle.gds_shape.proofs.Counting.{count_cons}

self_eq : (a b : ℤ) → a ≡ b → int_eq a b ≡ true
self_eq a b h = grind (arith, ints)

empty : (a b y : ℤ) → b ≤ℤ a → is_between a b y ≡ false
empty a b y h = grind (arith, ints)

off : (a b : Bool) → (a && (b && false)) ≡ false
off true true = refl
off true false = refl
off false b = refl

-- the edge goes down from p to q
falls : (p q : Point) (e : Edge) → e.bottom ≡ q.y → e.top ≡ p.y → q.y ≤ℤ p.y
falls p q e b t = less e.bottom e.top q.y p.y e.tall b t
  where
    less : (a b c d : ℤ) → a <ℤ b → a ≡ c → b ≡ d → c ≤ℤ d
    less a b c d h k l = omega (arith, ints)

-- an edge counts as its two points do
pub edge_counts : (way : Bool) (x y : ℤ) (p q : Point) (e : Edge) → IsEdge p q e → (goes way e && (int_lt x e.x && spans y e)) ≡ passes way x y (p, q)
edge_counts true x y p q e is =
    elim is.ends [
      | inl up ↦ rw (up.0, up.1, up.2, is.stands, self_eq p.x q.x is.upright) refl
      | inr down ↦ rw (down.0, empty p.y q.y y (falls p q e down.1 down.2), off (int_eq p.x q.x) (int_lt x p.x)) refl
    ]
edge_counts false x y p q e is =
    elim is.ends [
      | inl up ↦ rw (up.0, empty q.y p.y y (falls q p e up.1 up.2), off (int_eq q.x p.x) (int_lt x q.x)) refl
      | inr down ↦ rw (down.0, down.1, down.2, is.stands, self_eq q.x p.x (sym is.upright), is.upright) refl
    ]

-- two level points count for nothing
pub level_counts : (way : Bool) (x y : ℤ) (p q : Point) → p.y ≡ q.y → passes way x y (p, q) ≡ false
level_counts true x y p q is = rw (empty p.y q.y y (same_le p.y q.y is), off (int_eq p.x q.x) (int_lt x p.x)) refl
  where
    same_le : (a b : ℤ) → a ≡ b → b ≤ℤ a
    same_le a b h = omega (arith, ints)
level_counts false x y p q is = rw (empty q.y p.y y (same_le p.y q.y is), off (int_eq q.x p.x) (int_lt x q.x)) refl
  where
    same_le : (a b : ℤ) → a ≡ b → a ≤ℤ b
    same_le a b h = omega (arith, ints)

-- what the edge between two points adds
pub put_counts : (way : Bool) (x y : ℤ) (p q : Point) (made : Option Edge) → IfSome made (IsEdge p q) → IfNone made (p.y ≡ q.y)
    → passing way (option_to_list made) x y ≡ cond (passes way x y (p, q)) 1 0
put_counts way x y p q (Some e) some none = rw (edge_counts way x y p q e some) (plus (cond (passes way x y (p, q)) 1 0))
  where
    plus : (n : ℕ) → 0 + n ≡ n
    plus n = omega arith
put_counts way x y p q None some none = rw (level_counts way x y p q none) refl

-- what is put so far, and the points that are left
pub record Along (points rest : List Point) (made : List Edge) : Type 0 where
  pub manhattan : IsManhattan rest
  pub within : All IsPoint rest
  pub same : (way : Bool) (x y : ℤ) → passing way made x y + count_by (passes way x y) (edges rest) ≡ count_by (passes way x y) (edges points)

pub along_step : (points : List Point) (p q : Point) (rest : List Point) (made new : List Edge) (between : Option Edge) → Along points (p ∷ q ∷ rest) made
    → IfSome between (IsEdge p q) → IfNone between (p.y ≡ q.y) → new ≡ made ++ option_to_list between → Along points (q ∷ rest) new
along_step points p q rest made new between a some none is = record {
  manhattan = a.manhattan.1;
  within = λ k d lt. a.within (suc k) d (omega arith);
  same = λ way x y.
      let parts : passing way new x y ≡ passing way made x y + passing way (option_to_list between) x y = rw is (sum_by-append (λ e. cond (goes way e && (int_lt x e.x && spans y e)) 1 0) made (option_to_list between)) in
      three (passing way new x y) (passing way made x y) (passing way (option_to_list between) x y) (cond (passes way x y (p, q)) 1 0) (count_by (passes way x y) (edges (q ∷ rest))) (count_by (passes way x y) (edges points))
      parts (put_counts way x y p q between some none) (ap (λ n. passing way made x y + n) (sym (count_cons (passes way x y) (p, q) (edges (q ∷ rest)))) ∙ a.same way x y);
}
  where
    three : (new made put n rest all : ℕ) → new ≡ made + put → put ≡ n → made + (n + rest) ≡ all → new + rest ≡ all
    three new made put n rest all h k l = omega arith

pub along_end : (points rest : List Point) (made : List Edge) → Along points rest made → length rest ≤ 1 → (way : Bool) (x y : ℤ) → passing way made x y ≡ count_by (passes way x y) (edges points)
along_end points [] made a short way x y = plus _ _ (a.same way x y)
  where
    plus : (n m : ℕ) → n + 0 ≡ m → n ≡ m
    plus n m h = omega arith
along_end points (p ∷ []) made a short way x y = plus _ _ (a.same way x y)
  where
    plus : (n m : ℕ) → n + 0 ≡ m → n ≡ m
    plus n m h = omega arith
along_end points (p ∷ q ∷ rest) made a short way x y = absurd (omega arith)

-- the same over points that are moved as they are read
pub from_point : (points : List Point) (by d : Point) (rest : List Point) (made : List Edge) → Along points (map (moved by) rest) made → 1 < length rest → IsPoint (moved by (get_or rest 0 d))
from_point points by d [] made a lt = absurd (omega arith)
from_point points by d (p ∷ rest) made a lt = a.within 0 (moved by p) (omega arith)

pub to_point : (points : List Point) (by d : Point) (rest : List Point) (made : List Edge) → Along points (map (moved by) rest) made → 1 < length rest → IsPoint (moved by (get_or rest 1 d))
to_point points by d [] made a lt = absurd (omega arith)
to_point points by d (p ∷ []) made a lt = absurd (omega arith)
to_point points by d (p ∷ q ∷ rest) made a lt = a.within 1 (moved by p) (omega arith)

pub along_next : (points : List Point) (by d : Point) (rest after : List Point) (made new : List Edge) (from to : Point) (between : Option Edge) → Along points (map (moved by) rest) made → 1 < length rest
    → from ≡ moved by (get_or rest 0 d) → to ≡ moved by (get_or rest 1 d) → IfSome between (IsEdge from to) → IfNone between (from.y ≡ to.y)
    → new ≡ made ++ option_to_list between → after ≡ drop 1 rest → Along points (map (moved by) after) new
along_next points by d [] after made new from to between a lt f t some none is left = absurd (omega arith)
along_next points by d (p ∷ []) after made new from to between a lt f t some none is left = absurd (omega arith)
along_next points by d (p ∷ q ∷ rest) after made new from to between a lt f t some none is left =
    rw left (along_step points (moved by p) (moved by q) (map (moved by) rest) made new between a (rw (f, t) at some) (rw (f, t) at none) is)

pub along_ended : (points : List Point) (by : Point) (rest : List Point) (made : List Edge) → Along points (map (moved by) rest) made → length rest ≤ 1
    → (way : Bool) (x y : ℤ) → passing way made x y ≡ count_by (passes way x y) (edges points)
along_ended points by [] made a short = along_end points [] made a (omega arith)
along_ended points by (p ∷ []) made a short = along_end points (moved by p ∷ []) made a (omega arith)
along_ended points by (p ∷ q ∷ rest) made a short = absurd (omega arith)

-- a moved point, as the code adds its numbers
pub moved_read : (by p : Point) (x y : ℤ) → x ≡ p.x +ℤ by.x → y ≡ p.y +ℤ by.y → record { x = x; y = y } ≡ moved by p
moved_read by p x y h k = rw (h, k) refl
