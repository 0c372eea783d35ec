-- What sums tell of the areas of windows.
use Rattle.std.specs.Prelude.{ℕ, ◌/◌, ◌%◌, ℤ, pos, Bool, List, map}
use Rattle.std.specs.List.{range_with_len}
use Rattle.fill_area.specs.Density.{window_area}
use Rattle.fill_area.specs.Grid.{Grid}
use Rattle.fill_measure.specs.declared.sums.WindowSums.{WindowSums}
use Rattle.fill_measure.specs.steps.Meshes.{AreSums}

-- the sums are those of the set of squares: what each tells of the squares below a cut and left of another is so of this set, which is
-- uniform from a cut to the next where a side stands amid them
abbrev pub AreSumsOf : (ℤ → ℤ → Bool) → WindowSums → Type 0
AreSumsOf p sums = AreSums p sums.windows sums.across.items sums.up.items sums.prefix_sums

-- the areas that the set has in `n` windows from the one at place `from` on, row by row
abbrev pub areas_from : (ℤ → ℤ → Bool) → Grid → ℕ → ℕ → List ℤ
areas_from p g from n = map (λ k. pos (window_area p g (k % g.across.count) (k / g.across.count))) (range_with_len from n)
