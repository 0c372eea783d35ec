-- The parts of a chip that are taken so far.
use Rattle.std.specs.Prelude.{◌≡◌, ℕ, ◌<◌, ◌≤◌, ℤ, true, Option, Some, None, All, IfSome, IsSome}
use Rattle.fill_raster.specs.Axes.{band_of, bands, is_on}
use Rattle.fill_state.specs.Filling.{Filling}
use Rattle.fill_text.specs.Rules.{Values, raster_of}
use Rattle.fill_text.specs.ValuesOfChips.{chip_values}
use Rattle.fill_text.specs.ValuesOfRules.{values_of}
use Rattle.fill_parts.specs.Cuts.{Part, has_row}
use Rattle.fill_parts.specs.Laws.{part}
use Rattle.fill_parts.specs.PartChip.{own_alone}
use Rattle.gds_join.specs.Joins.{Design}
use Rattle.gds_join.specs.declared.joined.First.{First}
use Rattle.gds_join.specs.declared.joined.Joined.{Joined}

-- the units and dates of the first part
abbrev pub design_of : Option First → Option Design
design_of None = None
design_of (Some first) = Some (first.units, first.dates)

-- the row is one of the chip, in a row of tiles of one of the first so many parts
pub record IsRowBelow (values : Values) (count taken : ℕ) (j : ℤ) : Type 0 where
  pub number : ℕ
  pub below : number < taken
  pub on : is_on (raster_of values.numbers).up j ≡ true
  pub has : has_row (part number count) (bands (raster_of values.numbers).up) (band_of (raster_of values.numbers).up j) ≡ true

-- the fill has the chip's columns, and rows of the first so many parts
pub record IsFillBelow (values : Values) (count taken : ℕ) (f : Filling) : Type 0 where
  pub columns : f.raster.across ≡ (raster_of values.numbers).across
  pub rows : (j : ℤ) → is_on f.raster.up j ≡ true → IsRowBelow values count taken j

-- from 1 to 4,096 parts, no more of them taken; what is known of the chip agrees
pub record IsJoinedSo (j : Joined) : Type 0 where
  pub some : 1 ≤ j.count
  pub few : j.count ≤ 4096
  pub within : j.taken ≤ j.count
  pub whole : IfSome j.whole (λ w. values_of w ≡ chip_values j.chip)
  pub first : 0 < j.taken → IsSome j.first
  pub rules : IfSome j.first (λ f. (k : Part) × (values_of f.rules ≡ own_alone (chip_values j.chip) k))
  pub fills : All (IsFillBelow (chip_values j.chip) j.count j.taken) j.fills.items
