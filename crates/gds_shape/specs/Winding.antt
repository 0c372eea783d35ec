-- What a boundary covers. The edges of its points are counted that stand to the right of a square
-- and span its row: those upwards, and those downwards. Ups less downs is the winding number.
use Rattle.std.specs.Prelude.{◌≡◌, ◌⊎◌, ℕ, ◌-◌, ℤ, Bool, ◌&&◌, not, List, [], ◌∷◌, length, int_lt, slice_get, count_by, ◌==◌}
use Rattle.std.specs.Ordering.{int_eq}
use Rattle.std.specs.List.{AllByRecursion}
use Rattle.fill_base.specs.declared.place.Point.{Point}
use Rattle.fill_base.specs.Coordinates.{IsCoordinate}
use Rattle.fill_base.specs.Counts.{is_between}

-- each edge goes from a point to the next
abbrev pub edges_from : Point → List Point → List (Point × Point)
edges_from p [] = []
edges_from p (q ∷ points) = (p, q) ∷ edges_from q points

abbrev pub edges : List Point → List (Point × Point)
edges [] = []
edges (p ∷ points) = edges_from p points

-- upright at an abscissa above x, and from p up to q past the row y
abbrev pub rises : ℤ → ℤ → Point → Point → Bool
rises x y p q = int_eq p.x q.x && (int_lt x p.x && is_between p.y q.y y)

abbrev pub ups : List Point → ℤ → ℤ → ℕ
ups points x y = count_by (λ e. rises x y e.0 e.1) (edges points)

abbrev pub downs : List Point → ℤ → ℤ → ℕ
downs points x y = count_by (λ e. rises x y e.1 e.0) (edges points)

-- the winding number of the square (x, y) isn't 0
abbrev pub covers : List Point → ℤ → ℤ → Bool
covers points x y = not (ups points x y == downs points x y)

-- an edge along an axis, or of no length
abbrev pub IsAligned : Point × Point → Type 0
IsAligned e = (e.0.x ≡ e.1.x) ⊎ (e.0.y ≡ e.1.y)

abbrev pub IsManhattan : List Point → Type 0
IsManhattan points = AllByRecursion IsAligned (edges points)

-- the last point is the first
abbrev pub IsClosed : List Point → Type 0
IsClosed points = slice_get points 0 ≡ slice_get points (length points - 1)

pub record IsPoint (p : Point) : Type 0 where
  pub x : IsCoordinate p.x
  pub y : IsCoordinate p.y
