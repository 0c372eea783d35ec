-- A shape is its set of unit squares: the square (x, y) reaches from x to x + 1 and from y to y + 1.
-- A set of squares is a test of their lower left corners.
use Rattle.std.specs.Prelude.{ℕ, ℤ, Bool, ◌&&◌}
use Rattle.fill_base.specs.declared.rect.Rect.{Rect}
use Rattle.fill_base.specs.Counts.{sum_between, count_between, is_between}

-- the squares of a rectangle: its left and lower edges belong to it, its right and upper ones do not
abbrev pub squares : Rect → ℤ → ℤ → Bool
squares r x y = is_between r.x1 r.x2 x && is_between r.y1 r.y2 y

-- how many squares between these edges are in the set `p`
abbrev pub area_between : (ℤ → ℤ → Bool) → ℤ → ℤ → ℤ → ℤ → ℕ
area_between p left bottom right top = sum_between (λ y. count_between (λ x. p x y) left right) bottom top

-- how many squares of the window `w` are in the set `p`
abbrev pub area_of : (ℤ → ℤ → Bool) → Rect → ℕ
area_of p w = area_between p w.x1 w.y1 w.x2 w.y2
