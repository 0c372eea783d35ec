-- Which windows are low, as a list of their areas says.
use Rattle.std.specs.Prelude.{ℕ, ◌+◌, ◌*◌, ℤ, pos, ◌*ℤ◌, Bool, ◌&&◌, List, nat_lt, int_lt, get_or}
use Rattle.fill_area.specs.Grid.{Grid, counted_size}

-- there is a window in column `a` and row `b`, and its area is below the least share
abbrev pub low_by : Grid → ℤ → List ℤ → ℕ → ℕ → Bool
low_by g least totals a b = nat_lt a g.across.count && (nat_lt b g.up.count && int_lt (get_or totals (b * g.across.count + a) (pos 0) *ℤ pos 1000000) (least *ℤ counted_size g a b))
