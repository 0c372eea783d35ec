-- What running sums stand for.
use Rattle.std.specs.Prelude.{◌≡◌, ◌≤ℤ◌, ℤ, true}
use Rattle.fill_state.specs.Layers.{in_layer, is_drawn}
use Rattle.fill_base.specs.Squares.{squares}
use Rattle.fill_region.specs.Runs.{holds}
use Rattle.fill_area.specs.Density.{AreMeasured}
use Rattle.fill_area.specs.Grid.{Grid}
use Rattle.fill_sums.specs.Numbers.{WindowNumbers}
use Rattle.fill_raster.specs.Lattice.{in_raster}
use Rattle.fill_job.specs.Plans.{PointSet}
use Rattle.fill_core.specs.Machine.{metal_after}
use Rattle.fill_state.specs.Filling.{KeepsClear, in_places, is_filled, left_by, drawn_or_box}
use Rattle.fill_book.specs.steps.Following.{opposite_of, difference_by, way_of}
use Rattle.fill_book.specs.declared.edited.Edited.{Edited}
use Rattle.fill_book.specs.declared.stored.Stored.{Stored}

-- the squares that are metal, existing fill or in a box of a filled place, as they are stored
abbrev pub squares_in : Stored → PointSet
squares_in s = drawn_or_box s.filled.raster (is_filled s.filled) (is_drawn s.drawn)

-- the squares that are metal or existing fill after an edit, or in a box that it leaves
abbrev pub squares_left : Stored → Edited → PointSet
squares_left s e = drawn_or_box s.filled.raster (left_by s.filled e.out) (is_drawn e.drawn)

-- what the edit makes of the metal that is stored, what comes or goes of what counts, and that nothing that counts then lies in a box
-- that is left
pub record IsEdited (s : Stored) (e : Edited) : Type 0 where
  pub metal : (x y : ℤ) → in_layer e.drawn.metal x y ≡ metal_after e.edit (in_layer s.drawn.metal) x y
  pub existing : e.drawn.existing ≡ s.drawn.existing
  pub difference : (x y : ℤ) → holds e.difference.metal x y ≡ difference_by e.edit (in_layer s.drawn.metal) (holds s.drawn.existing) x y
  pub within : (x y : ℤ) → holds e.difference.metal x y ≡ true → squares e.difference.within x y ≡ true
  pub way : e.difference.way ≡ way_of e.edit
  pub back : e.difference.back ≡ opposite_of e.edit
  pub on : (i j : ℤ) → in_places e.out i j ≡ true → in_raster s.filled.raster i j ≡ true
  pub columns : e.out.columns.start ≤ℤ e.out.columns.end
  pub rows : e.out.rows.start ≤ℤ e.out.rows.end
  pub clear : KeepsClear s.filled.raster (is_filled s.filled) (is_drawn s.drawn)
  pub clear_left : KeepsClear s.filled.raster (left_by s.filled e.out) (is_drawn e.drawn)

-- the sums are the areas of what is drawn, and those of it and of boxes, in the windows of the grid
pub record StandFor (s : WindowNumbers) (g : Grid) (design all : PointSet) : Type 0 where
  pub windows : s.windows ≡ g
  pub drawn : AreMeasured design g s.drawn
  pub total : AreMeasured all g s.total
