-- The least rectangle around points or rectangles: how far they go to each side.
use Rattle.std.specs.Prelude.{◌≡◌, Bool, true, ℤ, pos, negsuc, ◌-ℤ◌, ◌≤ℤ◌, ◌↔◌, List, All}
use Rattle.std.specs.Int.{int_min, int_max}
use Rattle.fill_base.specs.declared.place.Point.{Point}
use Rattle.fill_base.specs.Coordinates.{lowest}
use Rattle.gds_shape.specs.declared.bounds.Bounds.{Bounds}
use Rattle.gds_shape.specs.Paths.{in_bounds}

-- a point as a rectangle of no extent
abbrev pub at_point : Point → Bounds
at_point p = record { left = p.x; bottom = p.y; right = p.x; top = p.y }

abbrev pub joined : Bounds → Bounds → Bounds
joined a b = record {
  left = int_min a.left b.left;
  bottom = int_min a.bottom b.bottom;
  right = int_max a.right b.right;
  top = int_max a.top b.top;
}

-- A line lies left of the extent exactly where it lies left of each of the rectangles; so too on the
-- other sides. So the extent is in a range exactly where each of them is, however they are placed.
pub record IsExtent (all : List Bounds) (b : Bounds) : Type 0 where
  pub left : (z : ℤ) → (z ≤ℤ b.left) ↔ All (λ c. z ≤ℤ c.left) all
  pub bottom : (z : ℤ) → (z ≤ℤ b.bottom) ↔ All (λ c. z ≤ℤ c.bottom) all
  pub right : (z : ℤ) → (b.right ≤ℤ z) ↔ All (λ c. c.right ≤ℤ z) all
  pub top : (z : ℤ) → (b.top ≤ℤ z) ↔ All (λ c. c.top ≤ℤ z) all

-- no wider and no taller than all coordinates
abbrev pub IsNarrow : Bounds → Type 0
IsNarrow b = ((b.right -ℤ b.left) ≤ℤ pos 2147483648) × ((b.top -ℤ b.bottom) ≤ℤ pos 2147483648)

-- how far it has to move to begin at the least coordinates
abbrev pub corner_move : Bounds → Point
corner_move b = record { x = lowest -ℤ b.left; y = lowest -ℤ b.bottom }

-- far from where sums of 64 bits end: within 2^33
pub record IsNear (b : Bounds) : Type 0 where
  pub left : negsuc 8589934591 ≤ℤ b.left
  pub bottom : negsuc 8589934591 ≤ℤ b.bottom
  pub right : b.right ≤ℤ pos 8589934592
  pub top : b.top ≤ℤ pos 8589934592
  pub wide : b.left ≤ℤ b.right
  pub tall : b.bottom ≤ℤ b.top

-- the squares of a set lie within the rectangle
abbrev pub LiesWithin : (ℤ → ℤ → Bool) → Bounds → Type 0
LiesWithin s b = (x y : ℤ) → s x y ≡ true → in_bounds b x y ≡ true
