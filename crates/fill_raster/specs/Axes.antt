-- The places of a raster along one axis. Place `i`, any whole number, has a box of one length that begins `i` steps after the
-- origin; the raster's places are those whose box lies within the frame.
use Rattle.std.specs.Prelude.{ℕ, ◌*◌, ◌/◌, ◌≤◌, ℤ, pos, neg_ℤ, ◌+ℤ◌, ◌-ℤ◌, ◌*ℤ◌, ◌≤ℤ◌, ◌<ℤ◌, Bool, ◌&&◌, int_le, int_lt}
use Rattle.std.specs.Int.{int_max, int_min, int_div_euclid, div_ceil}
use Rattle.fill_base.specs.Coordinates.{lowest, highest, IsCoordinate}
use Rattle.fill_base.specs.Counts.{span_len}
use Rattle.fill_base.specs.Limits.{IsLength}
use Rattle.fill_raster.specs.declared.axis.Axis.{Axis}

-- where the box of a place begins, and where it ends
abbrev pub box_begin : Axis → ℤ → ℤ
box_begin a i = a.origin +ℤ (i *ℤ a.step)

abbrev pub box_end : Axis → ℤ → ℤ
box_end a i = box_begin a i +ℤ a.length

-- the box of the place lies within the frame
abbrev pub is_on : Axis → ℤ → Bool
is_on a i = int_le a.low (box_begin a i) && int_le (box_end a i) a.high

-- and it shares a number with the range from `low` on and below `high`
abbrev pub is_on_within : Axis → ℤ → ℤ → ℤ → Bool
is_on_within a low high i = is_on a i && (int_lt low (box_end a i) && int_lt (box_begin a i) high)

-- the least place of the raster, and the one past the last: the same where there is none
unfoldable pub first : Axis → ℤ
first a = neg_ℤ (int_div_euclid (a.origin -ℤ a.low) a.step)

unfoldable pub past : Axis → ℤ
past a = int_max (first a) (int_div_euclid ((a.high -ℤ a.length) -ℤ a.origin) a.step +ℤ pos 1)

-- how many places there are
abbrev pub extent : Axis → ℕ
extent a = span_len (first a) (past a)

-- how many bands there are, of as many places as the axis says; the last one may have fewer
abbrev pub bands : Axis → ℕ
bands a = div_ceil (extent a) a.band

-- the band of a place, from 0 on
abbrev pub band_of : Axis → ℤ → ℕ
band_of a i = span_len (first a) i / a.band

-- the least place of a band, and the one past its last
abbrev pub band_first : Axis → ℕ → ℤ
band_first a g = first a +ℤ pos (g * a.band)

abbrev pub band_past : Axis → ℕ → ℤ
band_past a g = int_min (band_first a g +ℤ pos a.band) (past a)

-- where the first box of a band begins, and where its last one ends
abbrev pub band_begin : Axis → ℕ → ℤ
band_begin a g = box_begin a (band_first a g)

abbrev pub band_end : Axis → ℕ → ℤ
band_end a g = box_end a (band_past a g -ℤ pos 1)

-- the same edges with a spacing beyond each, within the coordinates
abbrev pub halo_begin : Axis → ℕ → ℤ → ℤ
halo_begin a g spacing = int_max (band_begin a g -ℤ spacing) lowest

abbrev pub halo_end : Axis → ℕ → ℤ → ℤ
halo_end a g spacing = int_min (band_end a g +ℤ spacing) highest

-- from 1 to 4,096 places of a tile
pub record IsBand (n : ℕ) : Type 0 where
  pub least : 1 ≤ n
  pub most : n ≤ 4096

-- each number is in its range
pub record IsAxis (a : Axis) : Type 0 where
  pub least : lowest ≤ℤ a.low
  pub ordered : a.low <ℤ a.high
  pub most : a.high ≤ℤ highest
  pub length_is : IsLength a.length
  pub step_is : IsLength a.step
  pub origin_is : IsCoordinate a.origin
  pub band_is : IsBand a.band

-- a step is at least a box and the spacing
abbrev pub IsPitch : Axis → ℤ → Type 0
IsPitch a spacing = (a.length +ℤ spacing) ≤ℤ a.step
