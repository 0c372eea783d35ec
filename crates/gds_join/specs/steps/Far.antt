-- Numbers that the corners of a hostile library may have: within 2^50.
use Rattle.std.specs.Prelude.{ℤ, pos, negsuc, ◌≤ℤ◌, Bool, ◌&&◌, List}
use Rattle.std.specs.List.{list_any}
use Rattle.fill_base.specs.declared.place.Point.{Point}
use Rattle.fill_raster.specs.Lattice.{Lattice, in_raster}
use Rattle.gds_cells.specs.declared.placement.Placement.{Placement}
use Rattle.gds_out.specs.FillContents.{corner_of}
use Rattle.gds_join.specs.Reading.{is_point}

pub record IsFar (z : ℤ) : Type 0 where
  pub least : negsuc 1125899906842623 ≤ℤ z
  pub most : z ≤ℤ pos 1125899906842624

abbrev pub point : ℤ → ℤ → Point
point x y = record { x = x; y = y }

abbrev pub origin_of : Placement → Point
origin_of p = point p.x p.y

-- the place's corner is among some points
abbrev pub stands_at : Lattice → List Point → ℤ → ℤ → Bool
stands_at r points i j = in_raster r i j && list_any (is_point (corner_of r i j)) points
