-- What the program answers to a rule file and a design.
use Rattle.std.specs.Prelude.{◌≡◌, ◌||◌, ℕ, List, Ok}
use Rattle.fill_text.specs.Rules.{Values}
use Rattle.fill_job.specs.Plans.{PointSet}
use Rattle.fill_parts.specs.PartReport.{part_check}
use Rattle.fill_report.specs.RulesReport.{metal_report}
use Rattle.densfill_engine.specs.Designs.{AreCounted}
use Rattle.densfill_engine.specs.Inputs.{answer_of, IsRulesReason}
use Rattle.densfill_engine.specs.Scopes.{size_of}
use Rattle.densfill_engine.specs.Views.{IsMetalFault}
use Rattle.densfill_engine.specs.declared.refusal.RunFault.TheVariants as run
use Rattle.densfill_engine.specs.declared.refusal.Refusal.{Refusal}
use Rattle.densfill_engine.specs.declared.refusal.Refusal.TheVariants.{Design, Run, Report}
use Rattle.densfill_engine.specs.declared.scope.Scope.{Scope}
use Rattle.densfill_engine.specs.declared.scope.Scope.TheVariants as asked

-- the report of metal over the rules' windows, or the part's piece of it
abbrev pub report_in : Scope → Values → PointSet → List ℕ
report_in asked.Whole values metal = metal_report metal values
report_in (asked.Part k) values metal = part_check values metal k

-- the text is that of the metal and the existing fill that the design's top draws
pub record IsChecked (scope : Scope) (rules design text : List ℕ) : Type 0 where
  pub values : Values
  pub accepted : answer_of (size_of scope) rules ≡ Ok values
  pub metal : PointSet
  pub fill : PointSet
  pub counted : AreCounted (size_of scope) design values metal fill
  pub report : text ≡ report_in scope values (λ x y. metal x y || fill x y)

-- why there is no such text of a rule file and a design of these bytes
abbrev pub IsCheckReason : Scope → List ℕ → List ℕ → Refusal → Type 0
IsCheckReason scope rules design (Design fault) = (values : Values) × (answer_of (size_of scope) rules ≡ Ok values) × IsMetalFault scope design values fault
IsCheckReason scope rules design (Run run.Memory) = (text : List ℕ) × IsChecked scope rules design text
IsCheckReason scope rules design Report = (text : List ℕ) × IsChecked scope rules design text
IsCheckReason scope rules design refusal = IsRulesReason scope rules refusal
