-- What the program makes of the fill libraries of parts, each taken behind those of the parts before it.
use Rattle.std.specs.Prelude.{◌≡◌, ◌^◌, ◌<◌, ◌≤◌, ℕ, Bool, List, length, Option, Some, is_some}
use Rattle.densfill_io.specs.declared.input.InputError.TheVariants.{TooLong, Device, Memory}
use Rattle.fill_stacks.specs.Places.{PlaceSet}
use Rattle.fill_text.specs.Rules.{Values}
use Rattle.fill_text.specs.ValuesOfChips.{chip_values}
use Rattle.fill_parts.specs.Cuts.{Part}
use Rattle.fill_parts.specs.Laws.{part}
use Rattle.gds_join.specs.Fills.{filled_in}
use Rattle.gds_join.specs.Joined.{design_of}
use Rattle.gds_join.specs.Joins.{Design, IsPartRefused, IsTaken}
use Rattle.gds_join.specs.declared.error.PartError.{PartError}
use Rattle.gds_join.specs.declared.joined.Joined.{Joined}
use Rattle.densfill_engine.specs.declared.refusal.InputFault.{InputFault}
use Rattle.densfill_engine.specs.declared.refusal.InputFault.TheVariants.{Unread, Refused}

-- the library of these bytes is taken behind those of the other parts
pub record IsPartTaken (old new : Joined) (bytes : List ℕ) : Type 0 where
  pub short : length bytes ≤ 2 ^ 31
  pub design : Design
  pub first : design_of new.first ≡ Some design
  pub taken : IsTaken (chip_values old.chip) (part old.taken old.count) (design_of old.first) (filled_in old.fills.items) (filled_in new.fills.items) bytes design

-- why a library isn't: it could not be read, or memory ran out; it's too long; it is refused behind the others
abbrev pub IsUntakenAs : Values → Bool → Part → Option Design → PlaceSet → List ℕ → InputFault PartError → Type 0
IsUntakenAs values one_run k design earlier bytes (Unread Device) = Unit {0}
IsUntakenAs values one_run k design earlier bytes (Unread Memory) = Unit {0}
IsUntakenAs values one_run k design earlier bytes (Unread TooLong) = 2 ^ 31 < length bytes
IsUntakenAs values one_run k design earlier bytes (Refused e) = (length bytes ≤ 2 ^ 31) × IsPartRefused values one_run k design earlier bytes e

-- so behind the parts that are taken
abbrev pub IsUntaken : Joined → List ℕ → InputFault PartError → Type 0
IsUntaken j bytes fault = IsUntakenAs (chip_values j.chip) (is_some j.whole) (part j.taken j.count) (design_of j.first) (filled_in j.fills.items) bytes fault
