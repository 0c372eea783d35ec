-- What the program answers to a rule file and a script.
use Rattle.std.specs.Prelude.{ℕ, List, Result, Ok, IsOk}
use Rattle.fill_base.specs.Sequence.{◌>>=◌}
use Rattle.fill_text.specs.declared.rule_error.RuleError.TheVariants as rule
use Rattle.fill_text.specs.declared.script.ScriptError.TheVariants as script
use Rattle.fill_report.specs.RulesReport.{metal_report}
use Rattle.densfill_engine.specs.Inputs.{told_by, rules_answer, script_answer, IsFaultOf}
use Rattle.densfill_engine.specs.Metal.{is_metal}
use Rattle.densfill_engine.specs.declared.refusal.RunFault.TheVariants as run
use Rattle.densfill_engine.specs.declared.refusal.Refusal.{Refusal}
use Rattle.densfill_engine.specs.declared.refusal.Refusal.TheVariants.{Rules, TooLarge, Design, Script, Part, Run, Out, Report}

-- the report of the metal that the script leaves of nothing, over the rules' windows, or the first refusal
unfoldable pub report_answer : List ℕ → List ℕ → Result (List ℕ) Refusal
report_answer rules edits = do
  values ← told_by Rules (rules_answer rules)
  changes ← told_by Script (script_answer edits)
  Ok (metal_report (is_metal changes) values)

-- why there is no report of a rule file and a script of these bytes
abbrev pub IsReason : List ℕ → List ℕ → Refusal → Type 0
IsReason rules edits (Rules fault) = IsFaultOf rule.Memory (rules_answer rules) fault
IsReason rules edits (TooLarge fault number count) = ⊥
IsReason rules edits (Design fault) = ⊥
IsReason rules edits (Script fault) = IsOk (rules_answer rules) × IsFaultOf script.Memory (script_answer edits) fault
IsReason rules edits (Part number fault) = ⊥
IsReason rules edits (Run run.Memory) = IsOk (report_answer rules edits)
IsReason rules edits (Run run.Unfinished) = ⊥
IsReason rules edits (Run run.Mixed) = ⊥
IsReason rules edits Out = ⊥
IsReason rules edits Report = IsOk (report_answer rules edits)
