-- What of a design lies within a frame.
use Rattle.std.specs.Prelude.{◌≡◌, ◌⊎◌, ℕ, ℤ, Bool, false, ◌&&◌, ◌||◌, int_lt, List, [], ◌∷◌, map, Option, Some, None}
use Rattle.std.specs.List.{count_by}
use Rattle.fill_base.specs.declared.rect.Rect.{Rect}
use Rattle.fill_base.specs.Squares.{squares}
use Rattle.gds_shape.specs.declared.bounds.Bounds.{Bounds}
use Rattle.gds_shape.specs.Extents.{joined}
use Rattle.gds_cells.specs.Placements.{carried_bounds}
use Rattle.gds_cells.specs.Shapes.{parts_of}
use Rattle.gds_cells.specs.Copies.{Copy}

-- the numbers from a up to b and those from c up to d overlap
abbrev pub overlap : ℤ → ℤ → ℤ → ℤ → Bool
overlap a b c d = int_lt a d && int_lt c b

-- they share a square, or would if the second weren't a line or a point
abbrev pub meets : Rect → Bounds → Bool
meets r b = overlap b.left b.right r.x1 r.x2 && overlap b.bottom b.top r.y1 r.y2

abbrev pub meets_if : Rect → Option Bounds → Bool
meets_if r None = false
meets_if r (Some b) = meets r b

abbrev pub joined_if : Bounds → Option Bounds → Option Bounds
joined_if b None = Some b
joined_if b (Some c) = Some (joined b c)

-- the least rectangle around all of these; none where there are none
abbrev pub extent_of : List Bounds → Option Bounds
extent_of [] = None
extent_of (b ∷ bs) = joined_if b (extent_of bs)

-- the points of a copy of a boundary, the rectangles of the segments of a copy of a path
abbrev pub parts_at : Copy → List Bounds
parts_at c = map (carried_bounds c.placement) (parts_of c.element)

-- the extent of the copy meets the frame
abbrev pub is_met : Rect → Copy → Bool
is_met r c = meets_if r (extent_of (parts_at c))

-- how many of the copies do
abbrev pub met : Rect → List Copy → ℕ
met r cs = count_by (is_met r) cs

-- the second frame begins where the first one ends, as tall as it; the third one is both
pub record AreBeside (f g both : Rect) : Type 0 where
  pub middle : f.x2 ≡ g.x1
  pub left : both.x1 ≡ f.x1
  pub right : both.x2 ≡ g.x2
  pub low : (both.y1 ≡ f.y1) × (both.y1 ≡ g.y1)
  pub high : (both.y2 ≡ f.y2) × (both.y2 ≡ g.y2)

-- so too one above the other
pub record AreStacked (f g both : Rect) : Type 0 where
  pub middle : f.y2 ≡ g.y1
  pub low : both.y1 ≡ f.y1
  pub high : both.y2 ≡ g.y2
  pub left : (both.x1 ≡ f.x1) × (both.x1 ≡ g.x1)
  pub right : (both.x2 ≡ f.x2) × (both.x2 ≡ g.x2)

-- What lies in two frames side by side is, united, what lies in both taken together.
abbrev pub SideBySide : Type 0
SideBySide = (f g both : Rect) → AreBeside f g both ⊎ AreStacked f g both → (s : ℤ → ℤ → Bool) (x y : ℤ)
    → (s x y && squares both x y) ≡ ((s x y && squares f x y) || (s x y && squares g x y))
