-- The rows of a set of bands between two lines, one after the other.
use Rattle.std.specs.Prelude.{◌≡◌, ℤ, ◌≤ℤ◌, ◌<ℤ◌, false, List, Option, Some, None}
use Rattle.fill_spans.specs.Spans.{inside}
use Rattle.fill_bands.specs.Bands.{Band, holds}
use Rattle.fill_bands.specs.declared.rows.Row.{Row}

-- the rows of a set that are still to come, in the lines from `from` on and below `top`
pub record Upwards : Type 0 where
  pub region : List Band
  pub from : ℤ
  pub top : ℤ

-- the row has the set's squares in its lines, which begin where the rows have come to
pub record IsNextRow (rows : Upwards) (row : Row) (rest : Upwards) : Type 0 where
  pub begins : row.bottom ≡ rows.from
  pub tall : row.bottom <ℤ row.top
  pub within : row.top ≤ℤ rows.top
  pub squares : (x y : ℤ) → row.bottom ≤ℤ y → y <ℤ row.top → holds rows.region x y ≡ inside row.spans.now x
  pub goes_on : rest ≡ record rows { from = row.top }

-- no line that is left has a square
pub record AreOver (rows rest : Upwards) : Type 0 where
  pub empty : (x y : ℤ) → rows.from ≤ℤ y → y <ℤ rows.top → holds rows.region x y ≡ false
  pub stays : rest ≡ rows

-- the next row, or none where no line that is left has a square
abbrev pub GivesRow : Upwards → Option Row → Upwards → Type 0
GivesRow rows (Some row) rest = IsNextRow rows row rest
GivesRow rows None rest = AreOver rows rest
