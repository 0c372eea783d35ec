-- What counts of the spans of an axis: what lies from one number on and below another.
use Rattle.std.specs.Prelude.{◌≡◌, ℕ, ℤ, ◌≤ℤ◌, ◌<ℤ◌}
use Rattle.std.specs.Int.{int_max, int_min}
use Rattle.fill_base.specs.Coordinates.{lowest, highest}
use Rattle.fill_area.specs.Axes.{IsAxis, axis_begin, axis_end}
use Rattle.fill_area.specs.declared.parts.Parts.{Parts}

-- the number itself, or the end beyond which it lies
abbrev pub kept_within : ℤ → ℤ → ℤ → ℤ
kept_within low high z = int_min (int_max z low) high

-- both ends of what counts of the span at index `a`: one number where nothing of it does
abbrev pub part_begin : Parts → ℕ → ℤ
part_begin p a = kept_within p.low p.high (axis_begin p.axis a)

abbrev pub part_end : Parts → ℕ → ℤ
part_end p a = kept_within p.low p.high (axis_end p.axis a)

-- the spans lie within the coordinates, and so does what counts
pub record AreParts (p : Parts) : Type 0 where
  pub axis : IsAxis p.axis
  pub least : lowest ≤ℤ p.low
  pub some : p.low <ℤ p.high
  pub most : p.high ≤ℤ highest

-- both ends of what counts of the span at index `a`, within the coordinates
pub record IsPart (p : Parts) (a : ℕ) (lo hi : ℤ) : Type 0 where
  pub begins : lo ≡ part_begin p a
  pub ends : hi ≡ part_end p a
  pub ordered : lo ≤ℤ hi
  pub low : lowest ≤ℤ lo
  pub high : hi ≤ℤ highest
