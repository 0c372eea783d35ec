-- The parts of a chip, joined, and one run.
use Rattle.std.specs.Prelude.{◌≡◌, ℕ, List, length, slice_get, Option, None, Some}
use Rattle.std.specs.List.{concat}
use Rattle.fill_parts.specs.Laws.{part}
use Rattle.fill_parts.specs.PartFill.{layers_by}
use Rattle.densfill_engine.specs.Fills.{Inputs, IsFilled, IsOnlyFillOf}
use Rattle.densfill_engine.specs.Joiners.{IsJoinOf}
use Rattle.densfill_engine.specs.Scopes.{unlimited}
use Rattle.densfill_engine.specs.declared.scope.Scope.TheVariants as asked
use Rattle.densfill_engine.specs.declared.view.Told.TheVariants.{Everything}

-- these are the libraries and the reports of all parts of the same inputs, in their order
pub record AreParts (rules design script : List ℕ) (libraries reports : List (List ℕ)) : Type 0 where
  pub count : length reports ≡ length libraries
  pub each : (k : ℕ) (library report : List ℕ) → slice_get libraries k ≡ Some library → slice_get reports k ≡ Some report
      → IsFilled (asked.Part (part k (length libraries))) rules design script 1 None library report

-- These are the texts of the one fill of what the inputs say, after the script's changes, however large the design is, which is sound;
-- and they are, byte for byte, what one run of one worker gives.
pub record AreOneRun (rules design script library report : List ℕ) : Type 0 where
  pub inputs : Inputs unlimited rules design script
  pub fill : IsOnlyFillOf Everything inputs.values (layers_by inputs.changes inputs.layers) inputs.units inputs.dates library report
  pub run : (limit : Option ℕ) (whole lines : List ℕ) → IsFilled asked.Whole rules design script 1 limit whole lines → (library ≡ whole) × (report ≡ lines)

-- so the libraries of all parts, joined, and their reports, one after another
abbrev pub PartsAreOneRun : Type 0
PartsAreOneRun = (rules design script : List ℕ) (libraries reports : List (List ℕ)) (library : List ℕ) → AreParts rules design script libraries reports → IsJoinOf rules libraries library
    → AreOneRun rules design script library (concat reports)
