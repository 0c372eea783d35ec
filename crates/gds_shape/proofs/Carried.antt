-- A boundary that is moved covers the squares that it covered, moved.
use Rattle.std.proofs.Common.{◌≡◌, ℕ, ◌-◌, ℤ, pos, ◌+ℤ◌, ◌-ℤ◌, List, [], ◌∷◌, length, refl, arith, ap, ◌∙◌, sym, Bool, true, false, not, inl, inr, eqb, map}
use Rattle.std.specs.Prelude.{int_lt, int_le, count_by, slice_get}
use Rattle.std.specs.Ordering.{int_eq}
use Rattle.std.proofs.lemmas.Int.{ints}
use Rattle.std.proofs.lemmas.Option.{slice_get-map}
use Rattle.std.specs.Option.{option_map}
use Rattle.std.proofs.lemmas.List.{length-map}
use Rattle.fill_base.specs.declared.place.Point.{Point}
use Rattle.gds_shape.specs.Winding.{edges, edges_from, rises, covers, IsAligned, IsManhattan, IsClosed}
use Rattle.gds_shape.specs.Moves.{moved}
use Rattle.gds_shape.specs.steps.Edges.{passes}
use Rattle.gds_shape.proofs.Counting.{count_cons}

rises_moved : (by p q : Point) (x y : ℤ) → rises x y (moved by p) (moved by q) ≡ rises (x -ℤ by.x) (y -ℤ by.y) p q
rises_moved by p q x y = rw (same_eq p.x q.x by.x, lt_left x p.x by.x, le_left p.y y by.y, lt_left y q.y by.y) refl
  where
    same_eq : (a b d : ℤ) → int_eq (a +ℤ d) (b +ℤ d) ≡ int_eq a b
    same_eq a b d = grind (arith, ints)

    lt_left : (x a d : ℤ) → int_lt x (a +ℤ d) ≡ int_lt (x -ℤ d) a
    lt_left x a d = grind (arith, ints)

    le_left : (a y d : ℤ) → int_le (a +ℤ d) y ≡ int_le a (y -ℤ d)
    le_left a y d = grind (arith, ints)

passes_moved : (way : Bool) (by p q : Point) (x y : ℤ) → passes way x y (moved by p, moved by q) ≡ passes way (x -ℤ by.x) (y -ℤ by.y) (p, q)
passes_moved true by p q x y = rises_moved by p q x y
passes_moved false by p q x y = rises_moved by q p x y

count_from : (way : Bool) (by p : Point) (points : List Point) (x y : ℤ)
    → count_by (passes way x y) (edges_from (moved by p) (map (moved by) points)) ≡ count_by (passes way (x -ℤ by.x) (y -ℤ by.y)) (edges_from p points)
count_from way by p [] x y = refl
count_from way by p (q ∷ points) x y =
    rw (
      count_cons (passes way x y) (moved by p, moved by q) (edges_from (moved by q) (map (moved by) points)),
      count_cons (passes way (x -ℤ by.x) (y -ℤ by.y)) (p, q) (edges_from q points),
      passes_moved way by p q x y,
      count_from way by q points x y,
    ) refl

counts_moved : (way : Bool) (by : Point) (points : List Point) (x y : ℤ)
    → count_by (passes way x y) (edges (map (moved by) points)) ≡ count_by (passes way (x -ℤ by.x) (y -ℤ by.y)) (edges points)
counts_moved way by [] x y = refl
counts_moved way by (p ∷ points) x y = count_from way by p points x y

pub covers_moved : (by : Point) (points : List Point) (x y : ℤ) → covers (map (moved by) points) x y ≡ covers points (x -ℤ by.x) (y -ℤ by.y)
covers_moved by points x y = same _ _ _ _ (counts_moved true by points x y) (counts_moved false by points x y)
  where
    same : (a b c d : ℕ) → a ≡ c → b ≡ d → not (eqb a b) ≡ not (eqb c d)
    same a b c d h k = rw (h, k) refl

aligned_moved : (by p q : Point) → IsAligned (p, q) → IsAligned (moved by p, moved by q)
aligned_moved by p q h = elim h [ inl e ↦ inl (ap (λ v. v +ℤ by.x) e) | inr e ↦ inr (ap (λ v. v +ℤ by.y) e) ]

manhattan_from : (by p : Point) (points : List Point) → IsManhattan (p ∷ points) → IsManhattan (moved by p ∷ map (moved by) points)
manhattan_from by p [] h = tt
manhattan_from by p (q ∷ points) h = (aligned_moved by p q h.0, manhattan_from by q points h.1)

pub manhattan_moved : (by : Point) (points : List Point) → IsManhattan points → IsManhattan (map (moved by) points)
manhattan_moved by [] h = tt
manhattan_moved by (p ∷ points) h = manhattan_from by p points h

pub closed_moved : (by : Point) (points : List Point) → IsClosed points → IsClosed (map (moved by) points)
closed_moved by points h =
    let last : slice_get (map (moved by) points) (length (map (moved by) points) - 1) ≡ option_map (moved by) (slice_get points (length points - 1)) =
    rw length-map (slice_get-map (moved by) points (length points - 1)) in
    slice_get-map (moved by) points 0 ∙ (ap (option_map (moved by)) h ∙ sym last)

abbrev at : ℤ → ℤ → Point
at x y = record { x = x; y = y }

-- nothing moves by no distance
still_point : (p : Point) → moved (record { x = pos 0; y = pos 0 }) p ≡ p
still_point p = same p.x p.y (p.x +ℤ pos 0) (p.y +ℤ pos 0) (none p.x) (none p.y)
  where
    none : (a : ℤ) → a +ℤ pos 0 ≡ a
    none a = omega (arith, ints)

    same : (a b c d : ℤ) → c ≡ a → d ≡ b → at c d ≡ at a b
    same a b c d h k = rw (h, k) refl

pub still : (points : List Point) → map (moved (record { x = pos 0; y = pos 0 })) points ≡ points
still [] = refl
still (p ∷ points) = rw (still_point p, still points) refl

pub covers_still : (points : List Point) (x y : ℤ) → covers points (x -ℤ pos 0) (y -ℤ pos 0) ≡ covers points x y
covers_still points x y = rw (none x, none y) refl
  where
    none : (a : ℤ) → a -ℤ pos 0 ≡ a
    none a = omega (arith, ints)
