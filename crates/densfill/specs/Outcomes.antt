-- What a run of the program leaves on standard output and on standard error, and its exit status.
use Rattle.std.specs.Prelude.{◌≡◌, ◌⊎◌, ◌-◌, ℕ, Bool, false, List, [], ◌∷◌, length, map, Option, Some, None, IfSome, IsOkAnd, codes, if◌then◌else◌, nat_lt, option_map, slice_get, take}
use Rattle.std.specs.Io.KnownBytes.{Appends}
use Rattle.densfill_io.specs.declared.input.InputError.{InputError}
use Rattle.densfill_io.specs.declared.input.InputError.TheVariants.{Device, Memory}
use Rattle.densfill_args.specs.Grammar.{Said}
use Rattle.densfill_args.specs.Grammar as line
use Rattle.densfill_engine.specs.Checks.{IsChecked, IsCheckReason}
use Rattle.densfill_engine.specs.Joiners.{IsJoinOf, IsJoinReason}
use Rattle.densfill_engine.specs.Fills.{IsFilled, IsFillReason}
use Rattle.densfill_engine.specs.Rects.{report_answer, IsReason}
use Rattle.densfill_engine.specs.Refusals.{refusal_status, refusal_text}
use Rattle.densfill_engine.specs.declared.refusal.InputFault.TheVariants.{Unread}
use Rattle.densfill_engine.specs.declared.refusal.RunFault.TheVariants as run
use Rattle.densfill_engine.specs.declared.refusal.Refusal.{Refusal}
use Rattle.densfill_engine.specs.declared.refusal.Refusal.TheVariants.{Rules, TooLarge, Design, Script, Part, Run, Out, Report}
use Rattle.densfill_engine.specs.declared.scope.Scope.{Scope}
use Rattle.densfill_engine.specs.declared.scope.Scope.TheVariants as asked

-- what is written is the line: whole, or a prefix of it where the writer failed
pub record IsTold (before after : Option (List ℕ)) (failed : Bool) (line : List ℕ) : Type 0 where
  pub prefix : (k : ℕ) × Appends before after (take k line)
  pub whole : failed ≡ false → Appends before after line

-- the refusal is told by its line, with a part's path where there is one, and its exit status, or want of memory where there was
-- none for the line
abbrev pub IsToldOf : Option (List ℕ) → Option (List ℕ) → Bool → ℕ → Option (List ℕ) → Refusal → Type 0
IsToldOf before after failed status path refusal =
    ((status ≡ refusal_status refusal) × IsTold before after failed (refusal_text refusal path))
    ⊎ ((status ≡ 3) × IsTold before after failed (codes "densfill: run: 31 Memory\n"))

-- how a fault of each input is told
abbrev pub of_rules : InputError → Refusal
of_rules error = Rules (Unread error)

abbrev pub of_design : InputError → Refusal
of_design error = Design (Unread error)

abbrev pub of_script : InputError → Refusal
of_script error = Script (Unread error)

-- the input of which faults are told so could not be opened
abbrev pub IsUnopened : (InputError → Refusal) → Refusal → Type 0
IsUnopened told refusal = (refusal ≡ told Device) ⊎ (refusal ≡ told Memory)

-- the library of the part of this number could not be opened
abbrev pub IsUnopenedPart : ℕ → Refusal → Type 0
IsUnopenedPart number refusal = (refusal ≡ Part number (Unread Device)) ⊎ (refusal ≡ Part number (Unread Memory))

-- there is a fill of inputs of these bytes, but no memory for its file's name, or one of its texts could not be written
abbrev pub IsUndelivered : Scope → (rules design script : List ℕ) → ℕ → Option ℕ → Refusal → Type 0
IsUndelivered scope rules design script workers limit refusal =
    ((library report : List ℕ) × IsFilled scope rules design script workers limit library report) × ((refusal ≡ Run run.Memory) ⊎ (refusal ≡ Out) ⊎ (refusal ≡ Report))

-- there is a library of all parts, but no memory for its file's name, or it could not be written
abbrev pub IsUnsettled : List ℕ → List (List ℕ) → Refusal → Type 0
IsUnsettled rules parts refusal = ((library : List ℕ) × IsJoinOf rules parts library) × ((refusal ≡ Run run.Memory) ⊎ (refusal ≡ Out))

-- what all of some files tell, where each tells it
unfoldable pub all_known : List (Option (List ℕ)) → Option (List (List ℕ))
all_known [] = Some []
all_known (None ∷ files) = None
all_known (Some bytes ∷ files) = option_map (λ others. bytes ∷ others) (all_known files)

-- what of a chip a line asks for: all of it, or part K of N, where it names one
abbrev pub scope_named : Option (ℕ × ℕ) → Scope
scope_named None = asked.Whole
scope_named (Some part) = asked.Part (record { number = part.0 - 1; count = part.1 })

-- an input could not be opened, or this is why opened files, whose bytes `remaining` tells, give no report of this much of a chip
abbrev pub IsCheckCause : {F : Type 0} → (F → Option (List ℕ)) → Scope → Refusal → Type 0
IsCheckCause {F} remaining scope refusal =
    (IsUnopened of_rules refusal ⊎ IsUnopened of_design refusal) ⊎ ((r d : F) × IfSome (remaining r) (λ r. IfSome (remaining d) (λ d. IsCheckReason scope r d refusal)))

-- or no fill of it
abbrev pub IsFillCause : {F : Type 0} → (F → Option (List ℕ)) → Scope → ℕ → Option ℕ → Refusal → Type 0
IsFillCause {F} remaining scope workers limit refusal =
    (IsUnopened of_rules refusal ⊎ IsUnopened of_design refusal ⊎ IsUnopened of_script refusal) ⊎ ((r d s : F) × IfSome (remaining r) (λ r. IfSome (remaining d) (λ d. IfSome (remaining s) (λ s.
    IsFillReason scope r d s workers limit refusal ⊎ IsUndelivered scope r d s workers limit refusal))))

-- so of what a line asks for
abbrev pub IsCause : {F : Type 0} → (F → Option (List ℕ)) → Option Said → Refusal → Type 0
IsCause {F} remaining (Some (line.rects rules script)) refusal =
    (IsUnopened of_rules refusal ⊎ IsUnopened of_script refusal) ⊎ ((r s : F) × IfSome (remaining r) (λ r. IfSome (remaining s) (λ s. IsReason r s refusal)))
IsCause remaining (Some (line.check rules design part)) refusal = IsCheckCause remaining (scope_named part) refusal
IsCause {F} remaining (Some (line.join rules out parts)) refusal =
    IsUnopened of_rules refusal ⊎ ((r : F) × (ps : List F) × IfSome (remaining r) (λ r. IfSome (all_known (map remaining ps)) (λ texts.
    IsJoinReason r texts (length parts) refusal ⊎ ((length texts ≡ length parts) × IsUnsettled r texts refusal))))
IsCause remaining (Some (line.fill rules design script out part workers limit)) refusal = IsFillCause remaining (scope_named part) workers limit refusal
IsCause remaining None refusal = ⊥

-- a text was written whole to a file
abbrev pub IsFile : {F : Type 0} → (F → Option (List ℕ)) → List ℕ → Type 0
IsFile {F} contents text = (old new : F) × Appends (contents old) (contents new) text

-- what is written is the report of this much of a chip, of opened files
abbrev pub IsCheckReport : {F : Type 0} → (F → Option (List ℕ)) → Scope → Option (List ℕ) → Option (List ℕ) → Type 0
IsCheckReport {F} remaining scope before after = (r d : F) × IfSome (remaining r) (λ r. IfSome (remaining d) (λ d. (text : List ℕ) × IsChecked scope r d text × Appends before after text))

-- so of a fill, whose library is written to another file
abbrev pub IsFillReport : {F : Type 0} → (F → Option (List ℕ)) → (F → Option (List ℕ)) → Scope → ℕ → Option ℕ → Option (List ℕ) → Option (List ℕ) → Type 0
IsFillReport {F} remaining contents scope workers limit before after =
    (r d s : F) × IfSome (remaining r) (λ r. IfSome (remaining d) (λ d. IfSome (remaining s) (λ s.
    (library report : List ℕ) × IsFilled scope r d s workers limit library report × IsFile contents library × Appends before after report)))

-- so of what a line asks for; a join writes its library alone
abbrev pub IsReport : {F : Type 0} → (F → Option (List ℕ)) → (F → Option (List ℕ)) → Option Said → Option (List ℕ) → Option (List ℕ) → Type 0
IsReport {F} remaining contents (Some (line.rects rules script)) before after =
    (r s : F) × IfSome (remaining r) (λ r. IfSome (remaining s) (λ s. IsOkAnd (report_answer r s) (Appends before after)))
IsReport remaining contents (Some (line.check rules design part)) before after = IsCheckReport remaining (scope_named part) before after
IsReport {F} remaining contents (Some (line.join rules out parts)) before after =
    ((r : F) × (ps : List F) × (length ps ≡ length parts) × IfSome (remaining r) (λ r. IfSome (all_known (map remaining ps)) (λ texts.
    (library : List ℕ) × IsJoinOf r texts library × IsFile contents library))) × (after ≡ before)
IsReport remaining contents (Some (line.fill rules design script out part workers limit)) before after = IsFillReport remaining contents (scope_named part) workers limit before after
IsReport remaining contents None before after = ⊥

-- the path of the part's library that a refusal is of, counted from 1
abbrev pub path_at : List (List ℕ) → ℕ → Option (List ℕ)
path_at parts number = if nat_lt 0 number then slice_get parts (number - 1) else None

abbrev pub path_in : List (List ℕ) → Refusal → Option (List ℕ)
path_in parts (Rules fault) = None
path_in parts (TooLarge fault number count) = None
path_in parts (Design fault) = None
path_in parts (Script fault) = None
path_in parts (Part number fault) = path_at parts number
path_in parts (Run fault) = None
path_in parts Out = None
path_in parts Report = None

abbrev pub path_of : Option Said → Refusal → Option (List ℕ)
path_of None refusal = None
path_of (Some (line.rects rules script)) refusal = None
path_of (Some (line.check rules design part)) refusal = None
path_of (Some (line.join rules out parts)) refusal = path_in parts refusal
path_of (Some (line.fill rules design script out part workers limit)) refusal = None

-- the run gave up for a cause, and told it; want of memory of the command line is told as that of the run
abbrev pub GaveUp : {F : Type 0} → (F → Option (List ℕ)) → Option Said → Option (List ℕ) → Option (List ℕ) → Bool → ℕ → Type 0
GaveUp remaining said before after failed status =
    (refusal : Refusal) × (IsCause remaining said refusal ⊎ (refusal ≡ Run run.Memory)) × IsToldOf before after failed status (path_of said refusal) refusal
