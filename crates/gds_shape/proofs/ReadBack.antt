-- The numbers of an edge, read back from their bits.
use Rattle.std.proofs.Common.{◌≡◌, ◌≤ℤ◌, ◌<ℤ◌, ℤ, arith, w64, FitsSigned}
use Rattle.std.proofs.lemmas.Int.{ints}
use Rattle.fill_base.specs.Coordinates.{lowest, highest}
use Rattle.fill_base.proofs.Signed.{read, read_is, coordinate_fits}
use Rattle.gds_shape.specs.declared.edge.Edge.{Edge}

pub read_x : (e : Edge) → read e.x ≡ e.x
read_x e = read_is e.x (coordinate_fits e.x e.left e.right)

pub read_bottom : (e : Edge) → read e.bottom ≡ e.bottom
read_bottom e = read_is e.bottom (fits e.bottom e.top e.low e.tall e.high)
  where
    fits : (a b : ℤ) → lowest ≤ℤ a → a <ℤ b → b ≤ℤ highest → FitsSigned w64 a
    fits a b h k l = omega (arith, ints)

pub read_top : (e : Edge) → read e.top ≡ e.top
read_top e = read_is e.top (fits e.bottom e.top e.low e.tall e.high)
  where
    fits : (a b : ℤ) → lowest ≤ℤ a → a <ℤ b → b ≤ℤ highest → FitsSigned w64 b
    fits a b h k l = omega (arith, ints)
