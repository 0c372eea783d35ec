-- Rectangles as the columns in which they have squares.
use Rattle.std.specs.Prelude.{ℕ, ◌≤◌, ◌<◌, ℤ, ◌≤ℤ◌, Bool, List, length, get_or}
use Rattle.std.specs.List.{list_any}
use Rattle.fill_base.specs.declared.rect.Rect.{Rect}
use Rattle.fill_base.specs.Counts.{is_between}

-- some rectangle of the list has squares in the column `x`
abbrev pub has_column : List Rect → ℤ → Bool
has_column rects x = list_any (λ r. is_between r.x1 r.x2 x) rects

-- no rectangle comes after one with a greater number
abbrev pub IsRisingBy : (Rect → ℤ) → List Rect → Type 0
IsRisingBy number rects = (i j : ℕ) (d : Rect) → i ≤ j → j < length rects → number (get_or rects i d) ≤ℤ number (get_or rects j d)
