-- A rectangle by its four edges.
use Rattle.std.specs.Prelude.{ℤ}
use Rattle.fill_base.specs.declared.rect.Rect.{Rect}

pub record Sides : Type 0 where
  pub left : ℤ
  pub bottom : ℤ
  pub right : ℤ
  pub top : ℤ

abbrev pub sides : ℤ → ℤ → ℤ → ℤ → Sides
sides left bottom right top = record { left = left; bottom = bottom; right = right; top = top }

abbrev pub sides_of : Rect → Sides
sides_of r = sides r.x1 r.y1 r.x2 r.y2
