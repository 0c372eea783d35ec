-- The parts of a chip, joined one after another.
use Rattle.std.specs.Prelude.{◌≡◌, ◌⊎◌, ◌+◌, ◌<◌, ◌≤◌, ℕ, Bool, List, [], ◌∷◌, ◌++◌, length, Option, Ok, IsOk, is_ok, is_some}
use Rattle.fill_text.specs.Rules.{Values}
use Rattle.fill_text.specs.ValuesOfChips.{chip_values}
use Rattle.fill_text.specs.declared.rule_error.RuleError.TheVariants as rule
use Rattle.fill_job.specs.Plans.{plan_of}
use Rattle.fill_parts.specs.Laws.{part}
use Rattle.fill_parts.specs.Smaller.{IsPlanOfAnySize}
use Rattle.fill_stacks.specs.Places.{PlaceSet}
use Rattle.gds_join.specs.Fills.{filled_in}
use Rattle.gds_join.specs.Joined.{IsJoinedSo, design_of}
use Rattle.gds_join.specs.Joins.{AreTaken, Design, IsJoined}
use Rattle.gds_join.specs.declared.error.PartError.{PartError}
use Rattle.densfill_io.specs.declared.input.InputError.TheVariants as input
use Rattle.densfill_engine.specs.Inputs.{chip_answer, rules_answer, IsFaultOf}
use Rattle.densfill_engine.specs.Joining.{IsUntakenAs}
use Rattle.densfill_engine.specs.declared.joining.Joiner.{Joiner}
use Rattle.densfill_engine.specs.declared.refusal.InputFault.{InputFault}
use Rattle.densfill_engine.specs.declared.refusal.InputFault.TheVariants.{Unread}
use Rattle.densfill_engine.specs.declared.refusal.RunFault.TheVariants as run
use Rattle.densfill_engine.specs.declared.refusal.Refusal.{Refusal}
use Rattle.densfill_engine.specs.declared.refusal.Refusal.TheVariants as refusal

-- one run takes the chip of this rule file
abbrev pub is_one_run : List ℕ → Bool
is_one_run rules = is_ok (rules_answer rules)

-- a joiner of from 1 to 4,096 parts
abbrev pub IsJoiner : Joiner → Type 0
IsJoiner j = IsJoinedSo j.parts

-- it was opened with the rules of these bytes
abbrev pub OpensFor : List ℕ → Joiner → Type 0
OpensFor rules j = (chip_answer rules ≡ Ok (chip_values j.parts.chip)) × (is_some j.parts.whole ≡ is_one_run rules)

-- these are the libraries of the parts that it has taken
pub record AreJoined (texts : List (List ℕ)) (j : Joiner) : Type 0 where
  pub count : j.parts.taken ≡ length texts
  pub taken : AreTaken (chip_values j.parts.chip) j.parts.count texts (design_of j.parts.first) (filled_in j.parts.fills.items)

-- the library is that of the places of all parts, whose libraries are these, in their order
pub record IsJoinOf (rules : List ℕ) (parts : List (List ℕ)) (out : List ℕ) : Type 0 where
  pub values : Values
  pub said : chip_answer rules ≡ Ok values
  pub plan : IsPlanOfAnySize (plan_of values)
  pub some : 0 < length parts
  pub few : length parts ≤ 4096
  pub joined : IsJoined values parts out

-- these are taken, and the library of these bytes isn't, behind them, as the next part of so many
pub record IsUntakenBehind (values : Values) (one_run : Bool) (count : ℕ) (texts : List (List ℕ)) (bytes : List ℕ) (fault : InputFault PartError) : Type 0 where
  pub design : Option Design
  pub earlier : PlaceSet
  pub taken : AreTaken values count texts design earlier
  pub untaken : IsUntakenAs values one_run (part (length texts) count) design earlier bytes fault

-- these are taken, and the library of the next part could not be opened
pub record IsUnopenedBehind (values : Values) (count : ℕ) (texts : List (List ℕ)) (fault : InputFault PartError) : Type 0 where
  pub design : Option Design
  pub earlier : PlaceSet
  pub taken : AreTaken values count texts design earlier
  pub unopened : (fault ≡ Unread input.Device) ⊎ (fault ≡ Unread input.Memory)

-- why a part of this number, from 1 on, is not joined, where these are the bytes of the files that were opened, one after another
abbrev pub IsUnjoined : Values → Bool → ℕ → List (List ℕ) → ℕ → InputFault PartError → Type 0
IsUnjoined values one_run count texts number fault =
    ((number ≡ length texts + 1) × IsUnopenedBehind values count texts fault)
    ⊎ ((before : List (List ℕ)) × (bytes : List ℕ) × (texts ≡ before ++ bytes ∷ []) × (number ≡ length texts) × IsUntakenBehind values one_run count before bytes fault)

-- why there is no join of a rule file of these bytes and of so many parts, where these are the bytes of the files of parts that were opened
abbrev pub IsJoinReason : List ℕ → List (List ℕ) → ℕ → Refusal → Type 0
IsJoinReason rules texts count (refusal.Rules fault) = IsFaultOf rule.Memory (chip_answer rules) fault
IsJoinReason rules texts count (refusal.TooLarge fault number parts) = ⊥
IsJoinReason rules texts count (refusal.Design fault) = ⊥
IsJoinReason rules texts count (refusal.Script fault) = ⊥
IsJoinReason rules texts count (refusal.Part number fault) = (values : Values) × (chip_answer rules ≡ Ok values) × IsUnjoined values (is_one_run rules) count texts number fault
IsJoinReason rules texts count (refusal.Run run.Memory) = IsOk (chip_answer rules)
IsJoinReason rules texts count (refusal.Run run.Unfinished) = ⊥
IsJoinReason rules texts count (refusal.Run run.Mixed) = ⊥
IsJoinReason rules texts count refusal.Out = (out : List ℕ) × IsJoinOf rules texts out
IsJoinReason rules texts count refusal.Report = ⊥

-- why the next part is not taken, where these are the bytes of all parts and of it
abbrev pub IsPartReason : Joiner → List (List ℕ) → Refusal → Type 0
IsPartReason j texts (refusal.Rules fault) = ⊥
IsPartReason j texts (refusal.TooLarge fault number parts) = ⊥
IsPartReason j texts (refusal.Design fault) = ⊥
IsPartReason j texts (refusal.Script fault) = ⊥
IsPartReason j texts (refusal.Part number fault) = IsUnjoined (chip_values j.parts.chip) (is_some j.parts.whole) j.parts.count texts number fault
IsPartReason j texts (refusal.Run fault) = ⊥
IsPartReason j texts refusal.Out = ⊥
IsPartReason j texts refusal.Report = ⊥
