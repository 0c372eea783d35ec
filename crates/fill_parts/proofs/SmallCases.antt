-- The definitions of some rows alone, computed: ten places of six squares at steps of ten from 2 on in a frame from 0 to 100, three to
-- a band, and twelve windows of twenty squares at steps of ten from -10 on.
use Rattle.std.proofs.Common.{◌≡◌, refl, ℕ, pos, negsuc, true, false}
use Rattle.fill_area.specs.declared.axis.Axis as spans
use Rattle.fill_raster.specs.Axes.{bands, first, past}
use Rattle.fill_raster.specs.declared.axis.Axis.{Axis}
use Rattle.fill_job.specs.Searches.{some_below}
use Rattle.fill_parts.specs.Cuts.{Part}
use Rattle.fill_parts.specs.PartRows.{chip_tiles, first_of, looked_at_windows, needed_tiles, own_rows, past_of}
use Rattle.fill_parts.specs.Smaller.{Rows, bands_alone, spans_alone}

abbrev places : Axis
places = record { low = pos 0; high = pos 100; length = pos 6; step = pos 10; origin = pos 2; band = 3 }

abbrev windows : spans.Axis
windows = record { first = negsuc 9; length = pos 20; step = pos 10; count = 12 }

abbrev rows : ℕ → ℕ → Rows
rows from to = record { from = from; to = to }

four_bands : bands places ≡ 4
unfolding first past
four_bands = refl

-- the second and the third band: places 3 to 8, whose boxes reach from 32 to 88
middle_low : (bands_alone places (rows 1 3)).low ≡ pos 32
unfolding first past
middle_low = refl

middle_high : (bands_alone places (rows 1 3)).high ≡ pos 88
unfolding first past
middle_high = refl

middle_first : first (bands_alone places (rows 1 3)) ≡ pos 3
unfolding first past
middle_first = refl

middle_past : past (bands_alone places (rows 1 3)) ≡ pos 9
unfolding first past
middle_past = refl

-- all of them: the frame stays
all_low : (bands_alone places (rows 0 4)).low ≡ pos 0
all_low = refl

all_high : (bands_alone places (rows 0 4)).high ≡ pos 100
unfolding first past
all_high = refl

-- the windows from the fourth on up to the sixth
some_windows : spans_alone windows (rows 3 6) ≡ record { first = pos 20; length = pos 20; step = pos 10; count = 3 }
some_windows = refl

-- the third of five parts, with ten windows side by side from 0 to 100: its own are the fifth and the sixth, from 40 to 60, and its own
-- band is the second, with boxes from 32 to 58
abbrev tens : spans.Axis
tens = record { first = pos 0; length = pos 10; step = pos 10; count = 10 }

abbrev third : Part
third = record { number = 2; count = 5 }

own_windows : own_rows third 10 ≡ rows 4 6
own_windows = refl

-- no other band is level with its windows; that one is level with the fourth too
needed : needed_tiles third places tens ≡ rows 1 2
unfolding first past first_of past_of some_below
needed = refl

looked_at : looked_at_windows third places tens ≡ rows 3 6
unfolding first past first_of past_of some_below
looked_at = refl

-- from 30 to 60 may count, so where nothing beside the frame does it takes the first and the third band too
tiles : chip_tiles true third places tens ≡ rows 0 3
unfolding first past first_of past_of some_below
tiles = refl

tiles_alone : chip_tiles false third places tens ≡ rows 1 2
unfolding first past first_of past_of some_below
tiles_alone = refl
