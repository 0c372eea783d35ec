-- The cells of a mesh, and the areas of a row of them.
use Rattle.std.specs.Prelude.{◌≡◌, ℕ, ◌+◌, ◌<◌, ℤ, pos, Bool, List, length, get_or}
use Rattle.fill_base.specs.Squares.{area_between}
use Rattle.fill_cells.specs.Mesh.{gaps}

-- how many squares of the set lie in the cell between the cuts `i` and `i + 1` across and `j` and `j + 1` upwards
abbrev pub cell_area : (ℤ → ℤ → Bool) → List ℤ → List ℤ → ℕ → ℕ → ℤ → ℕ
cell_area p across up i j d = area_between p (get_or across i d) (get_or up j d) (get_or across (i + 1) d) (get_or up (j + 1) d)

-- the areas of the cells in row `j`
pub record IsRow (p : ℤ → ℤ → Bool) (across up : List ℤ) (j : ℕ) (areas : List ℤ) : Type 0 where
  pub count : length areas ≡ gaps across
  pub each : (i : ℕ) (d : ℤ) → i < gaps across → get_or areas i d ≡ pos (cell_area p across up i j d)
