-- What the program takes its inputs for.
use Rattle.std.specs.Prelude.{◌≡◌, ◌⊎◌, ◌+◌, ◌^◌, ℕ, Bool, true, false, List, length, Result, Ok, Err, nat_lt, if◌then◌else◌}
use Rattle.fill_parts.specs.Cuts.{Part}
use Rattle.fill_parts.specs.PartChip.{part_rules}
use Rattle.fill_parts.specs.declared.part_rules.PartRulesError.{PartRulesError}
use Rattle.fill_parts.specs.declared.part_rules.PartRulesError.TheVariants as parts
use Rattle.fill_text.specs.Chips.{chip_of}
use Rattle.fill_text.specs.Rules.{Values, rules_of}
use Rattle.fill_text.specs.Script.{Change, edits_of}
use Rattle.fill_text.specs.declared.rule_error.RuleError.{RuleError}
use Rattle.fill_text.specs.declared.rule_error.RuleError.TheVariants as rule
use Rattle.fill_text.specs.declared.script.ScriptError.{ScriptError}
use Rattle.densfill_io.specs.declared.input.InputError.TheVariants.{TooLong, Device, Memory}
use Rattle.densfill_engine.specs.declared.refusal.InputFault.{InputFault}
use Rattle.densfill_engine.specs.declared.refusal.InputFault.TheVariants.{Unread, Refused}
use Rattle.densfill_engine.specs.declared.refusal.Refusal.{Refusal}
use Rattle.densfill_engine.specs.declared.refusal.Refusal.TheVariants.{Rules, TooLarge, Design}
use Rattle.densfill_engine.specs.declared.scope.Scope.{Scope}
use Rattle.densfill_engine.specs.declared.scope.Scope.TheVariants as asked
use Rattle.densfill_engine.specs.Scopes.{Size, limited, size_of, unlimited}

-- the same answer, with what `tell` makes of a refusal
abbrev pub told_by : {A E F : Type 0} → (E → F) → Result A E → Result A F
told_by tell (Ok x) = Ok x
told_by tell (Err e) = Err (tell e)

-- the same answer, but that an input of more than 2^31 bytes is too long, whatever it says
abbrev pub within_limit : {A E : Type 0} → List ℕ → Result A E → Result A (InputFault E)
within_limit text answer = if nat_lt (2 ^ 31) (length text) then Err (Unread TooLong) else told_by Refused answer

-- what the bytes of a rule file say, or why they are refused
abbrev pub rules_answer : List ℕ → Result Values (InputFault RuleError)
rules_answer text = within_limit text (rules_of text)

-- what the bytes of the rule file of a chip of any size say, or why they are refused
abbrev pub chip_answer : List ℕ → Result Values (InputFault RuleError)
chip_answer text = within_limit text (chip_of text)

-- so of a chip of that size
abbrev pub answer_of : Size → List ℕ → Result Values (InputFault RuleError)
answer_of limited text = rules_answer text
answer_of unlimited text = chip_answer text

-- what the bytes of a script say, or why they are refused
abbrev pub script_answer : List ℕ → Result (List Change) (InputFault ScriptError)
script_answer text = within_limit text (edits_of text)

-- why an input gave no value: it could not be read, memory ran out, there or while its bytes were interpreted, or its bytes are refused
abbrev pub IsFaultOf : {A E : Type 0} → E → Result A (InputFault E) → InputFault E → Type 0
IsFaultOf memory answer fault = (fault ≡ Unread Device) ⊎ (fault ≡ Unread Memory) ⊎ (fault ≡ Refused memory) ⊎ (answer ≡ Err fault)

-- the part has no rules of its own: memory ran out, or its rows have too many windows or places
pub record IsPartTooLarge (rules : List ℕ) (k : Part) (fault : PartRulesError) (number count : ℕ) : Type 0 where
  pub values : Values
  pub accepted : chip_answer rules ≡ Ok values
  pub why : (fault ≡ parts.Memory) ⊎ (part_rules values k ≡ Err fault)
  pub number_is : number ≡ k.number + 1
  pub count_is : count ≡ k.count

abbrev pub IsTooLarge : Scope → List ℕ → PartRulesError → ℕ → ℕ → Type 0
IsTooLarge asked.Whole rules fault number count = ⊥
IsTooLarge (asked.Part k) rules fault number count = IsPartTooLarge rules k fault number count

-- why a rule file of these bytes gives no rules of what is asked for
abbrev pub IsRulesReason : Scope → List ℕ → Refusal → Type 0
IsRulesReason scope rules (Rules fault) = IsFaultOf rule.Memory (answer_of (size_of scope) rules) fault
IsRulesReason scope rules (TooLarge fault number count) = IsTooLarge scope rules fault number count
IsRulesReason scope rules refusal = ⊥

-- the rule file is what was refused
abbrev pub is_of_rules : Refusal → Bool
is_of_rules (Rules fault) = true
is_of_rules (TooLarge fault number count) = true
is_of_rules refusal = false

-- the rule file or the design is
abbrev pub is_before_script : Refusal → Bool
is_before_script (Design fault) = true
is_before_script refusal = is_of_rules refusal
