-- The area that a set of squares has in a window, and when that is too little or too much.
use Rattle.std.specs.Prelude.{◌≡◌, ℕ, ◌+◌, ◌*◌, ◌<◌, ◌^◌, ℤ, pos, ◌*ℤ◌, ◌<ℤ◌, ◌≤ℤ◌, Bool, List, Option, Some, None, length, get_or}
use Rattle.fill_base.specs.Squares.{area_between, area_of}
use Rattle.fill_base.specs.declared.rect.Rect.{Rect}
use Rattle.fill_area.specs.Parts.{part_begin, part_end}
use Rattle.fill_area.specs.Grid.{Grid, IsGrid, parts_across, parts_up}

-- how many squares that count of the window in column `a` and row `b` are in the set
abbrev pub window_area : (ℤ → ℤ → Bool) → Grid → ℕ → ℕ → ℕ
window_area p g a b = area_between p (part_begin (parts_across g) a) (part_begin (parts_up g) b) (part_end (parts_across g) a) (part_end (parts_up g) b)

-- that of a rectangle, if there is one
abbrev pub option_area : (ℤ → ℤ → Bool) → Option Rect → ℕ
option_area p (Some r) = area_of p r
option_area p None = 0

-- a list of the areas of all windows of a grid, row by row
pub record AreMeasured (p : ℤ → ℤ → Bool) (g : Grid) (totals : List ℤ) : Type 0 where
  pub grid : IsGrid g
  pub count : length totals ≡ g.across.count * g.up.count
  pub each : (a b : ℕ) → a < g.across.count → b < g.up.count → get_or totals (b * g.across.count + a) (pos 0) ≡ pos (window_area p g a b)

-- the share is below `least` parts in a million
abbrev pub IsBelow : ℤ → ℤ → ℤ → Type 0
IsBelow total least area = (total *ℤ pos 1000000) <ℤ (least *ℤ area)

-- the share is above `most` parts in a million
abbrev pub IsAbove : ℤ → ℤ → ℤ → Type 0
IsAbove total most area = (most *ℤ area) <ℤ (total *ℤ pos 1000000)

-- a number of squares: from 0 to 2^40
pub record IsArea (n : ℤ) : Type 0 where
  pub least : pos 0 ≤ℤ n
  pub most : n ≤ℤ pos (2 ^ 40)

-- a share: from 0 to 1000000 parts in a million
pub record IsShare (n : ℤ) : Type 0 where
  pub least : pos 0 ≤ℤ n
  pub most : n ≤ℤ pos 1000000
