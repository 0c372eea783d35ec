-- The range of every coordinate, in database units: -2^30 to 2^30.
use Rattle.std.specs.Prelude.{ℤ, pos, negsuc, ◌≤ℤ◌, ◌<ℤ◌}

-- the least coordinate, -2^30
abbrev pub lowest : ℤ
lowest = negsuc 1073741823

-- the greatest coordinate, 2^30
abbrev pub highest : ℤ
highest = pos 1073741824

pub record IsCoordinate (x : ℤ) : Type 0 where
  pub least : lowest ≤ℤ x
  pub most : x ≤ℤ highest

-- all four corners' numbers are coordinates
pub record AreCoordinates (left bottom right top : ℤ) : Type 0 where
  pub left_is : IsCoordinate left
  pub bottom_is : IsCoordinate bottom
  pub right_is : IsCoordinate right
  pub top_is : IsCoordinate top

-- the square with its lower left corner at (x, y) lies within the coordinates
pub record IsInRange (x y : ℤ) : Type 0 where
  pub left : lowest ≤ℤ x
  pub right : x <ℤ highest
  pub bottom : lowest ≤ℤ y
  pub top : y <ℤ highest
