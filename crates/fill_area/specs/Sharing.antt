-- What a window shares with a rectangle.
use Rattle.std.specs.Prelude.{◌≡◌, ℕ, ◌<◌, ℤ, Bool, true, false, ◌&&◌, Option, Some, None}
use Rattle.fill_base.specs.Squares.{squares}
use Rattle.fill_base.specs.declared.rect.Rect.{Rect}
use Rattle.fill_base.specs.Counts.{is_between}
use Rattle.fill_area.specs.Parts.{part_begin, part_end}
use Rattle.fill_area.specs.Grid.{Grid, parts_across, parts_up, window_left, window_right, window_bottom, window_top}

-- the window in column `a` and row `b` holds the square
abbrev pub window_squares : Grid → ℕ → ℕ → ℤ → ℤ → Bool
window_squares g a b x y = is_between (window_left g a) (window_right g a) x && is_between (window_bottom g b) (window_top g b) y

-- the square is one of those within which windows count
abbrev pub in_clip : Grid → ℤ → ℤ → Bool
in_clip g x y = is_between g.clip.left g.clip.right x && is_between g.clip.bottom g.clip.top y

-- and it counts of the window in column `a` and row `b`
abbrev pub part_squares : Grid → ℕ → ℕ → ℤ → ℤ → Bool
part_squares g a b x y = is_between (part_begin (parts_across g) a) (part_end (parts_across g) a) x && is_between (part_begin (parts_up g) b) (part_end (parts_up g) b) y

-- the squares of a rectangle, if there is one
abbrev pub option_squares : Option Rect → ℤ → ℤ → Bool
option_squares (Some r) x y = squares r x y
option_squares None x y = false

-- the grid has a window in column `a` and row `b`
abbrev pub IsWindow : Grid → ℕ → ℕ → Type 0
IsWindow g a b = (a < g.across.count) × (b < g.up.count)

-- some square is in both sets
pub record ShareASquare (p q : ℤ → ℤ → Bool) : Type 0 where
  pub x : ℤ
  pub y : ℤ
  pub first : p x y ≡ true
  pub second : q x y ≡ true

-- each square of `q` is in `p`
abbrev pub Holds : (ℤ → ℤ → Bool) → (ℤ → ℤ → Bool) → Type 0
Holds p q = (x y : ℤ) → q x y ≡ true → p x y ≡ true
