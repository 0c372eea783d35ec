-- Windows of a set that hold a range on both axes.
use Rattle.std.specs.Prelude.{◌≡◌, ℕ, pos, true, List}
use Rattle.fill_area.specs.Axes.{IsContaining}
use Rattle.fill_area.specs.Grid.{Grid}
use Rattle.fill_region.specs.Runs.{Sides, holds}

pub record HoldsIn (g : Grid) (low : List Sides) (s : Sides) : Type 0 where
  pub a : ℕ
  pub b : ℕ
  pub across : IsContaining g.across s.left s.right a
  pub up : IsContaining g.up s.bottom s.top b
  pub is_low : holds low (pos a) (pos b) ≡ true
