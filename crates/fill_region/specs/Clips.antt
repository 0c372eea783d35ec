-- What serves the functions that clip runs: the parts of rectangles within a frame.
use Rattle.std.specs.Prelude.{◌≡◌, true, false, ℤ, ◌&&◌, ◌||◌, int_lt, Bool, List, All}
use Rattle.std.specs.List.{Contains}
use Rattle.fill_base.specs.declared.rect.Rect.{Rect}
use Rattle.fill_base.specs.Squares.{squares}
use Rattle.fill_bands.specs.Squares.{covered}

-- each begins before the other ends, across and upwards
abbrev pub overlap : Rect → Rect → Bool
overlap r s = ((int_lt r.x1 s.x2 && int_lt s.x1 r.x2) && int_lt r.y1 s.y2) && int_lt s.y1 r.y2

-- the rectangle reaches neither the frame's left side nor its right one
abbrev pub lies_inside : Rect → Rect → Bool
lies_inside frame r = int_lt frame.x1 r.x1 && int_lt r.x2 frame.x2

-- what of a rectangle of the list lies within the frame
pub record IsPart (rects : List Rect) (frame part : Rect) : Type 0 where
  pub rect : Rect
  pub among : Contains rects rect
  pub same : (x y : ℤ) → squares part x y ≡ (squares rect x y && squares frame x y)

-- the parts of the rectangles within the frame: those that reach neither its left side nor its right one, and the others
pub record ArePartsWithin (rects : List Rect) (frame : Rect) (inner beside : List Rect) : Type 0 where
  pub inner_parts : All (IsPart rects frame) inner
  pub beside_parts : All (IsPart rects frame) beside
  pub inner_in : All (λ r. lies_inside frame r ≡ true) inner
  pub beside_out : All (λ r. lies_inside frame r ≡ false) beside
  pub all : (x y : ℤ) → (covered inner x y || covered beside x y) ≡ (covered rects x y && squares frame x y)
