-- What a rule file, a design and a script say together, of all of a chip or of a part, once it is known what each says.
use Rattle.std.proofs.Common.{◌≡◌, refl, sym, ap, subst, ◌∙◌, ℕ, List, Option, Some, None, Ok, IfSome, map}
use Rattle.fill_base.specs.declared.rect.Rect.{Rect}
use Rattle.fill_text.specs.Rules.{Values}
use Rattle.fill_text.specs.Script.{Change, change_of}
use Rattle.fill_text.specs.declared.script.Edit.{Edit}
use Rattle.fill_text.specs.declared.script.ScriptError.{ScriptError}
use Rattle.fill_text.specs.declared.script.ScriptError.TheVariants as script
use Rattle.fill_job.specs.Plans.{IsPlan, Layers, plan_of}
use Rattle.fill_parts.specs.PartFill.{layers_by}
use Rattle.fill_parts.specs.Laws.{ChipRunIsThePart, ClippedAgrees, EditsAreChanges}
use Rattle.gds_out.specs.Laws.{TextOfSomeRows}
use Rattle.densfill_engine.specs.Designs.{AreDrawn, IsDesign, IsDesignNear, IsFaultBy, IsRanged, IsUndrawn, layers_within}
use Rattle.densfill_engine.specs.Fills.{Inputs, IsFilled, IsFillIn, IsFillOf, IsFillReason, IsLeftOpen, IsMixedUp, IsOnlyFillOf, OfWhole}
use Rattle.densfill_engine.specs.Inputs.{IsFaultOf, IsRulesReason, answer_of, script_answer}
use Rattle.densfill_engine.specs.Runs.{IsTooShort}
use Rattle.densfill_engine.specs.Scopes.{Size, crew_in, size_of, told_in}
use Rattle.densfill_engine.specs.Views.{IsView, IsViewOf, edits_near}
use Rattle.densfill_engine.specs.declared.crew.Crew.{Crew}
use Rattle.densfill_engine.specs.declared.refusal.DesignError.{DesignError}
use Rattle.densfill_engine.specs.declared.refusal.InputFault.{InputFault}
use Rattle.densfill_engine.specs.declared.refusal.RunFault.{RunFault}
use Rattle.densfill_engine.specs.declared.refusal.RunFault.TheVariants as run
use Rattle.densfill_engine.specs.declared.refusal.Refusal.{Refusal}
use Rattle.densfill_engine.specs.declared.refusal.Refusal.TheVariants.{Rules, TooLarge, Design, Script, Part, Run, Out, Report}
use Rattle.densfill_engine.specs.declared.scope.Reach.TheVariants.{Needs}
use Rattle.densfill_engine.specs.declared.scope.Scope.{Scope}
use Rattle.densfill_engine.specs.declared.scope.Scope.TheVariants as asked
use Rattle.densfill_engine.specs.declared.view.Told.{Told}
use Rattle.densfill_engine.specs.declared.view.Told.TheVariants.{Everything}
use Rattle.densfill_engine.proofs.Checking.{fault_in, if_two, of, size_is}
use Rattle.densfill_engine.proofs.Drawing.{design_rows, undrawn_rows}
use Rattle.densfill_engine.proofs.Parts.{is_of_part, never_short}

-- what is said of the bytes of three inputs holds where all of them are known
pub if_all : {P : (r d s : List ℕ) → Type 0} (rules design edits : Option (List ℕ))
    → ((r d s : List ℕ) → rules ≡ Some r → design ≡ Some d → edits ≡ Some s → P r d s) → IfSome rules (λ r. IfSome design (λ d. IfSome edits (λ s. P r d s)))
if_all None design edits given = tt
if_all (Some r) None edits given = tt
if_all (Some r) (Some d) None given = tt
if_all (Some r) (Some d) (Some s) given = given r d s refl refl refl

-- ---- the design

seen_of : (scope : Scope) (d : List ℕ) (values small : Values) (told : Told) (frame : Option Rect) (near : Layers) (units dates : List ℕ) → IsViewOf scope Needs values small told frame
    → IsDesignNear frame d small near units dates → IsDesignNear frame d values near units dates
seen_of asked.Whole d values small told frame near units dates (small_is, told_is, frame_is) is = subst (λ (v : Values). IsDesignNear frame d v near units dates) small_is is
seen_of (asked.Part k) d values small told frame near units dates (rows, rect, told_is, frame_is, view) is =
    design_rows d values view.holds.rows frame near units dates (subst (λ (v : Values). IsDesignNear frame d v near units dates) view.holds.alone is)

-- ---- the texts

-- where all of a chip is looked at, what is said of that is said of the chip
whole_is : (P : Told → Values → Layers → List Change → Type 0) (values small : Values) (told : Told) (frame : Option Rect) (near layers : Layers) (made : List Edit) → IsViewOf asked.Whole Needs values small told frame
    → near ≡ layers_within frame layers → P told small near (map change_of (edits_near frame made)) → P Everything values layers (map change_of made)
whole_is P values small told frame near layers made (small_is, told_is, frame_is) within given =
    let near_is : near ≡ layers = within ∙ ap (λ (f : Option Rect). layers_within f layers) frame_is in
    subst (λ (t : Told). P t values layers (map change_of made)) told_is
    (subst (λ (v : Values). P told v layers (map change_of made)) small_is
    (subst (λ (l : Layers). P told small l (map change_of made)) near_is
    (subst (λ (f : Option Rect). P told small near (map change_of (edits_near f made))) frame_is given)))

module _ (scope : Scope) (values small : Values) (told : Told) (frame : Option Rect) (near layers : Layers) (made : List Edit) (crew : Crew) where
  abbrev changes : List Change
  changes = map change_of (edits_near frame made)

  filled_in : (units dates library report : List ℕ) → IsViewOf scope Needs values small told frame → IsPlan (plan_of small) → EditsAreChanges → ClippedAgrees → ChipRunIsThePart → TextOfSomeRows
      → IsRanged frame layers.metal → IsRanged frame layers.fill → IsRanged frame layers.keep → near ≡ layers_within frame layers
      → IsFillOf told small near units dates changes (crew_in scope crew).workers (crew_in scope crew).limit library report
      → IsFillIn scope values layers units dates (map change_of made) crew.workers crew.limit library report
  filled_in units dates library report view plan made_so clip law text metal_in fill_in keep_in within given = by scope view given
    where
      by : (scope : Scope) → IsViewOf scope Needs values small told frame → IsFillOf told small near units dates changes (crew_in scope crew).workers (crew_in scope crew).limit library report
          → IsFillIn scope values layers units dates (map change_of made) crew.workers crew.limit library report
      by asked.Whole view given =
          whole_is (λ t v l c. IsFillOf t v l units dates c crew.workers crew.limit library report) values small told frame near layers made view within given
      by (asked.Part k) (rows, rect, told_is, frame_is, view) given =
          is_of_part values k small rows rect near layers units dates made library report view plan made_so clip law text
          (subst (λ (f : Option Rect). IsRanged f layers.metal) frame_is metal_in) (subst (λ (f : Option Rect). IsRanged f layers.fill) frame_is fill_in) (subst (λ (f : Option Rect). IsRanged f layers.keep) frame_is keep_in)
          (within ∙ ap (λ (f : Option Rect). layers_within f layers) frame_is)
          (subst (λ (t : Told). IsOnlyFillOf t small (layers_by (map change_of (edits_near (Some rect) made)) near) units dates library report) told_is
          (subst (λ (f : Option Rect). IsOnlyFillOf told small (layers_by (map change_of (edits_near f made)) near) units dates library report) frame_is (given.alone refl)))

  open_in : IsViewOf scope Needs values small told frame → IsPlan (plan_of small) → near ≡ layers_within frame layers
      → IsLeftOpen small near changes (crew_in scope crew).workers (crew_in scope crew).limit
      → ((crew_in scope crew).workers ≡ 1 → IsTooShort small (crew_in scope crew).limit 0 4294967296)
      → OfWhole scope (IsLeftOpen values layers (map change_of made) crew.workers crew.limit)
  open_in view plan within left short = by scope view left short
    where
      by : (scope : Scope) → IsViewOf scope Needs values small told frame → IsLeftOpen small near changes (crew_in scope crew).workers (crew_in scope crew).limit
          → ((crew_in scope crew).workers ≡ 1 → IsTooShort small (crew_in scope crew).limit 0 4294967296) → OfWhole scope (IsLeftOpen values layers (map change_of made) crew.workers crew.limit)
      by asked.Whole view left short = whole_is (λ t v l c. IsLeftOpen v l c crew.workers crew.limit) values small told frame near layers made view within left
      by (asked.Part k) view left short = never_short small plan (short refl)

  mixed_in : IsViewOf scope Needs values small told frame → near ≡ layers_within frame layers → IsMixedUp small near changes (crew_in scope crew).workers (crew_in scope crew).limit
      → OfWhole scope (IsMixedUp values layers (map change_of made) crew.workers crew.limit)
  mixed_in view within own = by scope view own
    where
      by : (scope : Scope) → IsViewOf scope Needs values small told frame → IsMixedUp small near changes (crew_in scope crew).workers (crew_in scope crew).limit
          → OfWhole scope (IsMixedUp values layers (map change_of made) crew.workers crew.limit)
      by asked.Whole view own = whole_is (λ t v l c. IsMixedUp v l c crew.workers crew.limit) values small told frame near layers made view within own
      by (asked.Part k) view own = own.0 refl

-- ---- what the three inputs say

fill_of_rules : (scope : Scope) (r d s : List ℕ) (workers : ℕ) (limit : Option ℕ) (e : Refusal) → IsRulesReason scope r e → IsFillReason scope r d s workers limit e
fill_of_rules scope r d s workers limit (Rules fault) why = why
fill_of_rules scope r d s workers limit (TooLarge fault number count) why = why
fill_of_rules scope r d s workers limit (Design fault) why = absurd why
fill_of_rules scope r d s workers limit (Script fault) why = absurd why
fill_of_rules scope r d s workers limit (Part number fault) why = why
fill_of_rules scope r d s workers limit (Run run.Memory) why = absurd why
fill_of_rules scope r d s workers limit (Run run.Unfinished) why = absurd why
fill_of_rules scope r d s workers limit (Run run.Mixed) why = absurd why
fill_of_rules scope r d s workers limit Out why = why
fill_of_rules scope r d s workers limit Report why = why

module _ (scope : Scope) (rules design edits : Option (List ℕ)) (crew : Crew) where
  pub rules_refused : (e : Refusal) → IfSome rules (λ r. IsRulesReason scope r e) → IfSome rules (λ r. IfSome design (λ d. IfSome edits (λ s. IsFillReason scope r d s crew.workers crew.limit e)))
  rules_refused e why = if_all rules design edits (λ r d s at_r at_d at_s. fill_of_rules scope r d s crew.workers crew.limit e (of _ rules r at_r why))

  module _ (small : Values) (told : Told) (frame : Option Rect) (view : IsView scope Needs rules small told frame) where
    pub design_refused : (met : InputFault DesignError) → IfSome design (λ bytes. IsFaultBy (IsUndrawn frame bytes small) bytes met) → (e : Refusal) → e ≡ Design (told_in scope met)
        → IfSome rules (λ r. IfSome design (λ d. IfSome edits (λ s. IsFillReason scope r d s crew.workers crew.limit e)))
    design_refused met why e is = if_all rules design edits (λ r d s at_r at_d at_s. subst (λ x. IsFillReason scope r d s crew.workers crew.limit x) (sym is) (
      view.0,
      of _ rules r at_r view.2,
      fault_in scope Needs (λ v f. IsUndrawn f d v) d view.0 small told frame met view.1 (λ rows f e h. undrawn_rows d view.0 rows f e h) (of _ design d at_d why),
    ))

    module _ (near : Layers) (units dates : List ℕ) (drawn : IfSome design (λ bytes. IsDesignNear frame bytes small near units dates)) where
      seen : (d : List ℕ) → design ≡ Some d → IsDesignNear frame d view.0 near units dates
      seen d at_d = seen_of scope d view.0 small told frame near units dates view.1 (of _ design d at_d drawn)

      all : (d : List ℕ) (at_d : design ≡ Some d) → IsDesign (size_of scope) d view.0 (seen d at_d).layers units dates
      all d at_d = subst (λ (z : Size). IsDesign z d view.0 (seen d at_d).layers units dates) (size_is scope Needs view.0 small told frame view.1) (seen d at_d).whole

      pub both_read : IfSome rules (λ r. IfSome design (λ d. (values : Values) × (answer_of (size_of scope) r ≡ Ok values) × ((layers : Layers) × AreDrawn (size_of scope) d values layers)))
      both_read = if_two rules design (λ r d at_r at_d. (view.0, of _ rules r at_r view.2, ((seen d at_d).layers, (all d at_d).drawn)))

      pub script_refused : (f : InputFault ScriptError) → IfSome edits (λ text. IsFaultOf script.Memory (script_answer text) f)
          → IfSome rules (λ r. IfSome design (λ d. IfSome edits (λ s. IsFillReason scope r d s crew.workers crew.limit (Script f))))
      script_refused f why =
          if_all rules design edits (λ r d s at_r at_d at_s. (view.0, of _ rules r at_r view.2, ((seen d at_d).layers, (all d at_d).drawn, of _ edits s at_s why)))

      module _ (made : List Edit) (changed : IfSome edits (λ text. script_answer text ≡ Ok (map change_of made))) (who : Crew) (who_is : who ≡ crew_in scope crew) where
        abbrev inputs : (r d s : List ℕ) → rules ≡ Some r → design ≡ Some d → edits ≡ Some s → Inputs (size_of scope) r d s
        inputs r d s at_r at_d at_s = record {
          values = view.0;
          accepted = of _ rules r at_r view.2;
          layers = (seen d at_d).layers;
          units = units;
          dates = dates;
          drawn = all d at_d;
          changes = map change_of made;
          edits = of _ edits s at_s changed;
        }

        module _ (plan : IsPlan (plan_of small)) where
          pub filled : EditsAreChanges → ClippedAgrees → ChipRunIsThePart → TextOfSomeRows → (library report : List ℕ)
              → IsFillOf told small near units dates (map change_of (edits_near frame made)) who.workers who.limit library report
              → IfSome rules (λ r. IfSome design (λ d. IfSome edits (λ s. IsFilled scope r d s crew.workers crew.limit library report)))
          filled made_so clip law text library report given = if_all rules design edits (λ r d s at_r at_d at_s. (
            inputs r d s at_r at_d at_s,
            filled_in scope view.0 small told frame near (seen d at_d).layers made crew units dates library report view.1 plan made_so clip law text (seen d at_d).metal_in (seen d at_d).fill_in (seen d at_d).keep_in (seen d at_d).within
                (subst (λ (c : Crew). IsFillOf told small near units dates (map change_of (edits_near frame made)) c.workers c.limit library report) who_is given),
          ))

          pub run_refused : (f : RunFault) → (f ≡ run.Unfinished → IsLeftOpen small near (map change_of (edits_near frame made)) who.workers who.limit)
              → (f ≡ run.Unfinished → who.workers ≡ 1 → IsTooShort small who.limit 0 4294967296)
              → (f ≡ run.Mixed → IsMixedUp small near (map change_of (edits_near frame made)) who.workers who.limit)
              → IfSome rules (λ r. IfSome design (λ d. IfSome edits (λ s. IsFillReason scope r d s crew.workers crew.limit (Run f))))
          run_refused run.Memory left short own = if_all rules design edits (λ r d s at_r at_d at_s. inputs r d s at_r at_d at_s)
          run_refused run.Unfinished left short own = if_all rules design edits (λ r d s at_r at_d at_s. (
            inputs r d s at_r at_d at_s,
            open_in scope view.0 small told frame near (seen d at_d).layers made crew view.1 plan (seen d at_d).within
                (subst (λ (c : Crew). IsLeftOpen small near (map change_of (edits_near frame made)) c.workers c.limit) who_is (left refl))
                (subst (λ (c : Crew). c.workers ≡ 1 → IsTooShort small c.limit 0 4294967296) who_is (short refl)),
          ))
          run_refused run.Mixed left short own = if_all rules design edits (λ r d s at_r at_d at_s. (
            inputs r d s at_r at_d at_s,
            mixed_in scope view.0 small told frame near (seen d at_d).layers made crew view.1 (seen d at_d).within
                (subst (λ (c : Crew). IsMixedUp small near (map change_of (edits_near frame made)) c.workers c.limit) who_is (own refl)),
          ))
