-- Spans of one length along a line, each a step after the one before.
use Rattle.std.specs.Prelude.{◌≡◌, ◌↔◌, ℕ, ◌-◌, ◌<◌, ◌≤◌, ℤ, pos, ◌+ℤ◌, ◌*ℤ◌, ◌≤ℤ◌, ◌<ℤ◌}
use Rattle.fill_base.specs.Coordinates.{lowest, highest, IsCoordinate}
use Rattle.fill_base.specs.Limits.{IsLength}
use Rattle.fill_area.specs.declared.axis.Axis.{Axis}

-- where the span at index `a` begins, and where it ends
abbrev pub axis_begin : Axis → ℕ → ℤ
axis_begin axis a = axis.first +ℤ (pos a *ℤ axis.step)

abbrev pub axis_end : Axis → ℕ → ℤ
axis_end axis a = axis_begin axis a +ℤ axis.length

pub record IsCount (n : ℕ) : Type 0 where
  pub least : 1 ≤ n
  pub most : n ≤ 1048576

-- length, step and count are from 1 to 2^20, and the spans lie within the coordinates
pub record IsAxis (axis : Axis) : Type 0 where
  pub length_is : IsLength axis.length
  pub step_is : IsLength axis.step
  pub count_is : IsCount axis.count
  pub first_is : IsCoordinate axis.first
  pub last : axis_end axis (axis.count - 1) ≤ℤ highest

-- both ends of the span at index `a`, within the coordinates
pub record IsExtent (axis : Axis) (a : ℕ) (lo hi : ℤ) : Type 0 where
  pub begins : lo ≡ axis_begin axis a
  pub ends : hi ≡ axis_end axis a
  pub some : lo <ℤ hi
  pub low : lowest ≤ℤ lo
  pub high : hi ≤ℤ highest

-- the axis has a span at index `a`, and it shares a number with the range from `lo` on and below `hi`
abbrev pub IsTouching : Axis → ℤ → ℤ → ℕ → Type 0
IsTouching axis lo hi a = (a < axis.count) × (axis_begin axis a <ℤ hi) × (lo <ℤ axis_end axis a)

-- the axis has a span at index `a`, and it holds the range from `lo` on and below `hi`
abbrev pub IsContaining : Axis → ℤ → ℤ → ℕ → Type 0
IsContaining axis lo hi a = (a < axis.count) × (axis_begin axis a ≤ℤ lo) × (hi ≤ℤ axis_end axis a)

-- an index from `low` on and below `high`
abbrev pub IsIndex : ℕ → ℕ → ℕ → Type 0
IsIndex low high a = (low ≤ a) × (a < high)

-- the indexes from `low` on and below `high` are those that have the property, none of which is `count` or more
pub record IsRangeOf (P : ℕ → Type 0) (count low high : ℕ) : Type 0 where
  pub ordered : low ≤ high
  pub within : high ≤ count
  pub exact : (a : ℕ) → IsIndex low high a ↔ P a
