-- What of a chip a run is asked for, and what is told of it.
use Rattle.std.specs.Prelude.{◌+◌, None}
use Rattle.fill_parts.specs.Cuts.{Part}
use Rattle.gds_cells.specs.declared.error.FlattenError.TheVariants.{TooManyShapes}
use Rattle.densfill_engine.specs.declared.refusal.DesignError.{DesignError}
use Rattle.densfill_engine.specs.declared.refusal.DesignError.TheVariants.{Flatten, Crowded}
use Rattle.densfill_engine.specs.declared.refusal.InputFault.{InputFault}
use Rattle.densfill_engine.specs.declared.refusal.InputFault.TheVariants.{Refused}
use Rattle.densfill_engine.specs.declared.crew.Crew.{Crew}
use Rattle.densfill_engine.specs.declared.scope.Scope.{Scope}
use Rattle.densfill_engine.specs.declared.scope.Scope.TheVariants as asked

-- a run takes a chip that is within its limits, or one of any size
pub data Size : Type 0 where
  limited : Size
  unlimited : Size

-- one of all of a chip takes the first, one of a part the second
abbrev pub size_of : Scope → Size
size_of asked.Whole = limited
size_of (asked.Part k) = unlimited

-- too many copies near a part are told with the part
abbrev pub part_told : Part → InputFault DesignError → InputFault DesignError
part_told k (Refused (Flatten TooManyShapes)) = Refused (Crowded (k.number + 1) k.count)
part_told k fault = fault

abbrev pub told_in : Scope → InputFault DesignError → InputFault DesignError
told_in asked.Whole fault = fault
told_in (asked.Part k) fault = part_told k fault

-- a part is filled by one worker, without a limit
abbrev pub crew_in : Scope → Crew → Crew
crew_in asked.Whole crew = crew
crew_in (asked.Part k) crew = record { workers = 1; limit = None }
