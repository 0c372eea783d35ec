-- What the program makes of a rule file, a design and a script: a fill library and a report.
use Rattle.std.specs.Prelude.{◌≡◌, [], ℕ, ℤ, ◌+◌, ◌^◌, ◌<◌, ◌≤◌, ◌&&◌, ◌||◌, List, length, map, Option, Ok}
use Rattle.fill_text.specs.Rules.{Values}
use Rattle.fill_text.specs.Script.{Change, change_of}
use Rattle.fill_text.specs.declared.script.ScriptError.TheVariants as script
use Rattle.fill_job.specs.Plans.{Layers, Plan, allowed, drawn_squares, in_window_of, low_windows, plan_of}
use Rattle.fill_core.specs.Boxes.{low_fill, with_boxes}
use Rattle.fill_core.specs.Histories.{edits_in, events_in}
use Rattle.fill_core.specs.Machine.{IsComplete, State, replay}
use Rattle.fill_core.specs.Soundness.{IsSound}
use Rattle.fill_core.specs.declared.event.Event.{Event}
use Rattle.fill_parts.specs.Cuts.{Part}
use Rattle.fill_parts.specs.PartFill.{layers_by, part_fill}
use Rattle.fill_parts.specs.PartReport.{part_report}
use Rattle.fill_shared.specs.Runs.{IsFinished, IsMixed, IsUnfinished}
use Rattle.gds_out.specs.FillText.{fill_text}
use Rattle.densfill_engine.specs.Designs.{AreDrawn, IsDesign}
use Rattle.densfill_engine.specs.Inputs.{answer_of, script_answer, IsFaultOf, IsRulesReason}
use Rattle.densfill_engine.specs.Runs.{IsBack, IsTooShort, most_commits}
use Rattle.densfill_engine.specs.Scopes.{Size, size_of}
use Rattle.densfill_engine.specs.Views.{IsDesignFault, places_told, report_told}
use Rattle.densfill_engine.specs.declared.refusal.RunFault.TheVariants as run
use Rattle.densfill_engine.specs.declared.refusal.Refusal.{Refusal}
use Rattle.densfill_engine.specs.declared.refusal.Refusal.TheVariants.{Design, Script, Run}
use Rattle.densfill_engine.specs.declared.scope.Scope.{Scope}
use Rattle.densfill_engine.specs.declared.scope.Scope.TheVariants as asked
use Rattle.densfill_engine.specs.declared.view.Told.{Told}
use Rattle.densfill_engine.specs.declared.view.Told.TheVariants.{Everything}

-- what the three inputs say, where none of them is refused
pub record Inputs (size : Size) (rules design script : List ℕ) : Type 0 where
  pub values : Values
  pub accepted : answer_of size rules ≡ Ok values
  pub layers : Layers
  pub units : List ℕ
  pub dates : List ℕ
  pub drawn : IsDesign size design values layers units dates
  pub changes : List Change
  pub edits : script_answer script ≡ Ok changes

-- The texts tell of metal and existing fill as they are drawn and of all allowed places whose box lies wholly in a window that is low in them:
-- one pair of texts, whoever computed it. These places are a sound fill.
pub record IsOnlyFillOf (told : Told) (values : Values) (layers : Layers) (units dates library report : List ℕ) : Type 0 where
  pub library_is : library ≡ fill_text units dates values (places_told told (plan_of values) (low_fill (plan_of values) layers))
  pub report_is : report ≡ report_told told values (drawn_squares layers) (low_fill (plan_of values) layers)
  pub sound : IsSound (plan_of values) layers (low_fill (plan_of values) layers)

-- nothing is missing and nothing too much: the fill is what the last change left of it and all allowed places whose box lies wholly
-- in a window that was low then, in metal, existing fill and boxes together
abbrev pub IsAllWanted : Plan → State → Type 0
IsAllWanted plan s = (i j : ℤ) → s.fill i j ≡ s.base i j || (allowed plan s.layers i j && in_window_of plan (low_windows plan (with_boxes plan (drawn_squares s.layers) s.base)) i j)

-- The texts tell of a fill of the layers in which every tile is in: some events lead to it from the opening on them, among
-- them exactly these changes, in their order, and at most so many commits as the workers have turns. It is sound, and has all that
-- is wanted. Without a change there is one fill only, and one worker makes the changes first: that is the one fill of the layers
-- after them. Of two workers or more it is that of the book that they gave back.
pub record IsFillOf (told : Told) (values : Values) (layers : Layers) (units dates : List ℕ) (changes : List Change) (workers : ℕ) (limit : Option ℕ) (library report : List ℕ) : Type 0 where
  pub events : List Event
  pub changed : map change_of (edits_in events) ≡ changes
  pub brief : length events ≤ length changes + most_commits values workers limit
  pub complete : IsComplete (plan_of values) (replay (plan_of values) layers events)
  pub sound : let s = replay (plan_of values) layers events in IsSound (plan_of values) s.layers s.fill
  pub whole : IsAllWanted (plan_of values) (replay (plan_of values) layers events)
  pub library_is : let s = replay (plan_of values) layers events in library ≡ fill_text units dates values (places_told told (plan_of values) s.fill)
  pub report_is : let s = replay (plan_of values) layers events in report ≡ report_told told values (drawn_squares s.layers) s.fill
  pub unedited : changes ≡ [] → IsOnlyFillOf told values layers units dates library report
  pub alone : workers ≡ 1 → IsOnlyFillOf told values (layers_by changes layers) units dates library report
  pub together : 1 < workers → (back : IsBack IsFinished values layers changes workers limit) × (events_in back.book.history ≡ events)

-- Of the fill of layers after changes, which is sound, the library has the places in the part's tiles, and the report is that of its
-- windows.
pub record IsPartFillOf (values : Values) (layers : Layers) (units dates : List ℕ) (k : Part) (library report : List ℕ) : Type 0 where
  pub library_is : library ≡ fill_text units dates values (part_fill (plan_of values) layers k)
  pub report_is : report ≡ part_report values (drawn_squares layers) (low_fill (plan_of values) layers) k
  pub sound : IsSound (plan_of values) layers (low_fill (plan_of values) layers)

-- of all of a chip, or of a part, which one worker fills once the changes are made
abbrev pub IsFillIn : Scope → Values → Layers → (units dates : List ℕ) → List Change → ℕ → Option ℕ → (library report : List ℕ) → Type 0
IsFillIn asked.Whole values layers units dates changes workers limit library report = IsFillOf Everything values layers units dates changes workers limit library report
IsFillIn (asked.Part k) values layers units dates changes workers limit library report = IsPartFillOf values (layers_by changes layers) units dates k library report

-- the texts are those of a fill of what the three inputs say
abbrev pub IsFilled : Scope → (rules design script : List ℕ) → ℕ → Option ℕ → (library report : List ℕ) → Type 0
IsFilled scope rules design script workers limit library report =
    (inputs : Inputs (size_of scope) rules design script) × IsFillIn scope inputs.values inputs.layers inputs.units inputs.dates inputs.changes workers limit library report

-- Why a tile or an edit is missing: one worker leaves a tile only where turns or history are too few, and two or more gave back a
-- book of which that is so; when threads stop each other no clause says.
abbrev pub IsLeftOpen : Values → Layers → List Change → ℕ → Option ℕ → Type 0
IsLeftOpen values layers changes workers limit = (workers ≡ 1 → IsTooShort values limit (length changes) (2 ^ 32)) × (1 < workers → IsBack IsUnfinished values layers changes workers limit)

-- why a book is mixed up: two workers or more gave it back with edits that don't begin those of the script
abbrev pub IsMixedUp : Values → Layers → List Change → ℕ → Option ℕ → Type 0
IsMixedUp values layers changes workers limit = (workers ≡ 1 → ⊥) × (1 < workers → IsBack IsMixed values layers changes workers limit)

-- it is so of all of a chip; a part is never left incomplete, nor mixed up
abbrev pub OfWhole : Scope → Type 0 → Type 0
OfWhole asked.Whole P = P
OfWhole (asked.Part k) P = ⊥

-- why there is no fill of inputs of these bytes
abbrev pub IsFillReason : Scope → (rules design edits : List ℕ) → ℕ → Option ℕ → Refusal → Type 0
IsFillReason scope rules design edits workers limit (Design fault) = (values : Values) × (answer_of (size_of scope) rules ≡ Ok values) × IsDesignFault scope design values fault
IsFillReason scope rules design edits workers limit (Script fault) =
    (values : Values) × (answer_of (size_of scope) rules ≡ Ok values) × ((layers : Layers) × AreDrawn (size_of scope) design values layers × IsFaultOf script.Memory (script_answer edits) fault)
IsFillReason scope rules design edits workers limit (Run run.Memory) = Inputs (size_of scope) rules design edits
IsFillReason scope rules design edits workers limit (Run run.Unfinished) =
    (inputs : Inputs (size_of scope) rules design edits) × OfWhole scope (IsLeftOpen inputs.values inputs.layers inputs.changes workers limit)
IsFillReason scope rules design edits workers limit (Run run.Mixed) =
    (inputs : Inputs (size_of scope) rules design edits) × OfWhole scope (IsMixedUp inputs.values inputs.layers inputs.changes workers limit)
IsFillReason scope rules design edits workers limit refusal = IsRulesReason scope rules refusal
