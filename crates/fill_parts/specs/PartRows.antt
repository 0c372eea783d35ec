-- The rows of tiles and of windows that a part of a chip looks at. Places and windows stand along one axis each, upwards.
use Rattle.std.specs.Prelude.{ℕ, ℤ, zero, suc, ◌+◌, ◌-◌, Bool, ◌&&◌, ◌||◌, int_le, int_lt, nat_le, nat_lt, min, if◌then◌else◌}
use Rattle.std.specs.Int.{int_max, int_min}
use Rattle.fill_area.specs.Axes.{axis_begin, axis_end}
use Rattle.fill_area.specs.declared.axis.Axis as spans
use Rattle.fill_raster.specs.Axes.{bands, band_begin, band_end}
use Rattle.fill_raster.specs.declared.axis.Axis.{Axis}
use Rattle.fill_job.specs.Searches.{some_below}
use Rattle.fill_parts.specs.Cuts.{Part, first_row, has_row, past_row}
use Rattle.fill_parts.specs.Smaller.{Rows}

-- the least of the numbers below `n` that pass a test, or `n` where none does; and the one past the greatest, or 0
unfoldable pub first_of : (ℕ → Bool) → ℕ → ℕ
first_of p zero = zero
first_of p (suc n) = if some_below p n then first_of p n else (if p n then n else suc n)

unfoldable pub past_of : (ℕ → Bool) → ℕ → ℕ
past_of p zero = zero
past_of p (suc n) = if p n then suc n else past_of p n

-- the rows below `n` that pass a test, and those between them
abbrev pub rows_of : (ℕ → Bool) → ℕ → Rows
rows_of p n = record { from = first_of p n; to = past_of p n }

-- the part's own rows of so many
abbrev pub own_rows : Part → ℕ → Rows
own_rows part n = record { from = first_row part n; to = past_row part n }

-- the boxes of a row of tiles share a line of squares with some rows of windows, or with what lies between these
abbrev pub is_tile_row_level : Axis → spans.Axis → Rows → ℕ → Bool
is_tile_row_level a s rows t = nat_lt rows.from rows.to && (int_lt (axis_begin s rows.from) (band_end a t) && int_lt (band_begin a t) (axis_end s (rows.to - 1)))

-- and so a row of windows with the boxes of some rows of tiles
abbrev pub is_window_row_level : Axis → spans.Axis → Rows → ℕ → Bool
is_window_row_level a s rows b = nat_lt rows.from rows.to && (int_lt (axis_begin s b) (band_end a (rows.to - 1)) && int_lt (band_begin a rows.from) (axis_end s b))

-- the rows of tiles whose fill has to be known: the part's own, and those level with its own windows
abbrev pub needs_row : Part → Axis → spans.Axis → ℕ → Bool
needs_row part a s t = has_row part (bands a) t || is_tile_row_level a s (own_rows part s.count) t

abbrev pub needed_tiles : Part → Axis → spans.Axis → Rows
needed_tiles part a s = rows_of (needs_row part a s) (bands a)

-- the rows of windows whose metal has to be known: the part's own, and those level with those tiles
abbrev pub looks_at_row : Part → Axis → spans.Axis → ℕ → Bool
looks_at_row part a s b = has_row part s.count b || is_window_row_level a s (needed_tiles part a s) b

abbrev pub looked_at_windows : Part → Axis → spans.Axis → Rows
looked_at_windows part a s = rows_of (looks_at_row part a s) s.count

-- The frame of the part's chip begins at the first of these lines or below it, and ends at the second or above it: where nothing counts
-- beside a frame, it holds what may count of those windows; else it may be cut between them.
abbrev pub begins_by : Bool → Part → Axis → spans.Axis → ℤ
begins_by ignores part a s = if ignores then int_max a.low (axis_begin s (looked_at_windows part a s).from) else a.high

abbrev pub ends_from : Bool → Part → Axis → spans.Axis → ℤ
ends_from ignores part a s = if ignores then int_min a.high (axis_end s ((looked_at_windows part a s).to - 1)) else a.low

-- The rows of tiles of the part's chip: those that it needs, and below and above these as many as it takes for such a frame. The first is
-- the last one, up to the first that it needs, which begins where that has to or lower, or the lowest of all; the last is the first one,
-- from the last that it needs on, which ends where that has to or higher, or the highest of all.
abbrev pub first_tiles : Bool → Part → Axis → spans.Axis → ℕ
first_tiles ignores part a s = past_of (λ t. nat_le t (needed_tiles part a s).from && int_le (band_begin a t) (begins_by ignores part a s)) (bands a) - 1

abbrev pub past_tiles : Bool → Part → Axis → spans.Axis → ℕ
past_tiles ignores part a s =
    min (bands a) (first_of (λ t. (nat_le (needed_tiles part a s).to (t + 1) && nat_le (first_tiles ignores part a s) t) && int_le (ends_from ignores part a s) (band_end a t)) (bands a) + 1)

abbrev pub chip_tiles : Bool → Part → Axis → spans.Axis → Rows
chip_tiles ignores part a s = record { from = first_tiles ignores part a s; to = past_tiles ignores part a s }
