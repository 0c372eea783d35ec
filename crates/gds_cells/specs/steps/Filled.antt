-- The rectangles of a shape and its extent, however they are kept.
use Rattle.std.specs.Prelude.{List, [], ◌∷◌, ◌+ℤ◌, ◌-ℤ◌, Option, Some}
use Rattle.std.specs.Int.Signed.{≤ℤ_refl}
use Rattle.fill_base.specs.Coordinates.{lowest}
use Rattle.fill_base.specs.declared.rect.Rect.{Rect}
use Rattle.gds_shape.specs.declared.bounds.Bounds.{Bounds}
use Rattle.gds_cells.specs.declared.one_rect.OneRect.{OneRect}
use Rattle.gds_cells.specs.declared.filled.Filled.{Filled}
use Rattle.gds_cells.specs.declared.filled.Filled.TheVariants.{Whole, Parts}

-- the rectangle, from the least coordinates on
abbrev pub rect_of : OneRect → Rect
rect_of one = record {
  x1 = lowest;
  y1 = lowest;
  x2 = one.right;
  y2 = one.top;
  wide = one.wide;
  tall = one.tall;
  left = ≤ℤ_refl lowest;
  bottom = ≤ℤ_refl lowest;
  right = one.narrow;
  top = one.low;
}

-- as large as the rectangle, from where it begins on
abbrev pub extent_of : OneRect → Bounds
extent_of one = record { left = one.left; bottom = one.bottom; right = one.left +ℤ (one.right -ℤ lowest); top = one.bottom +ℤ (one.top -ℤ lowest) }

abbrev pub rects_in : Filled → List Rect
rects_in (Whole one) = rect_of one ∷ []
rects_in (Parts parts) = parts.value.rects.items

abbrev pub extent_in : Filled → Option Bounds
extent_in (Whole one) = Some (extent_of one)
extent_in (Parts parts) = parts.value.extent
