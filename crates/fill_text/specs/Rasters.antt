-- The raster that the rules ask for.
use Rattle.std.specs.Prelude.{◌+ℤ◌, ◌&&◌, ℤ, Bool, Result, Ok, Err, int_le, nat_le, if◌then◌else◌}
use Rattle.fill_raster.specs.Lattice.{Lattice, places}
use Rattle.fill_text.specs.declared.rule_error.RuleError.{RuleError}
use Rattle.fill_text.specs.declared.rule_error.RuleError.TheVariants.{BadPitch, TooManyPlaces}

-- both steps are at least a box and the spacing
abbrev pub keeps_pitch : Lattice → ℤ → Bool
keeps_pitch r spacing = int_le (r.across.length +ℤ spacing) r.across.step && int_le (r.up.length +ℤ spacing) r.up.step

-- at most 2^24
abbrev pub has_few_places : Lattice → Bool
has_few_places r = nat_le (places r) 16777216

-- the raster with these numbers, or what is wrong with it
unfoldable pub raster_with : Lattice → ℤ → Result Lattice RuleError
raster_with r spacing = if keeps_pitch r spacing then (if has_few_places r then Ok r else Err TooManyPlaces) else Err BadPitch
