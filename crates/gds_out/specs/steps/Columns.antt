-- The columns of a row from one on, to where its places are of the other kind.
use Rattle.std.specs.Prelude.{◌≡◌, ℤ, ◌≤ℤ◌, ◌<ℤ◌, Bool, not}
use Rattle.fill_raster.specs.Axes.{past}
use Rattle.fill_raster.specs.Lattice.{Lattice}
use Rattle.gds_out.specs.Places.{PlaceSet}

-- Column k is the first from i on whose place is filled or not, as asked, or the one past the last.
pub record IsNext (r : Lattice) (filled : PlaceSet) (i j : ℤ) (wanted : Bool) (k : ℤ) : Type 0 where
  pub from : i ≤ℤ k
  pub to : k ≤ℤ past r.across
  pub between : (m : ℤ) → i ≤ℤ m → m <ℤ k → filled m j ≡ not wanted
  pub found : k <ℤ past r.across → filled k j ≡ wanted
