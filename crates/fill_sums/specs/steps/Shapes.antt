-- The squares of what comes or goes.
use Rattle.std.specs.Prelude.{ℤ, Bool}
use Rattle.fill_base.specs.Squares.{squares}
use Rattle.fill_region.specs.Runs.{holds}
use Rattle.fill_sums.specs.declared.shape.Shape.{Shape}
use Rattle.fill_sums.specs.declared.shape.Shape.TheVariants.{Box, Metal}

abbrev pub squares_of : Shape → ℤ → ℤ → Bool
squares_of (Box rect) = squares rect.now
squares_of (Metal region) = holds region.now
