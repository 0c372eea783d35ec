-- Regions as sets of squares.
use Rattle.std.specs.Prelude.{ℤ, Bool, List}
use Rattle.std.specs.List.{list_any}
use Rattle.fill_base.specs.declared.rect.Rect.{Rect}
use Rattle.fill_base.specs.Squares.{squares}

-- some rectangle of the list holds the square
abbrev pub covered : List Rect → ℤ → ℤ → Bool
covered rects x y = list_any (λ r. squares r x y) rects
