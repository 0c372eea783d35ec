-- What a rule file and a design say together, of all of a chip or of a part.
use Rattle.std.proofs.Common.{◌≡◌, ◌⊎◌, ◌≤◌, inl, inr, ℕ, List, Option, Some, None, Result, Ok, Err, IfOk, IfSome, IsOk, refl, sym, ap, ap₂, subst, ◌∙◌, ◌&&◌, ◌||◌}
use Rattle.fill_base.specs.Squares.{squares}
use Rattle.fill_base.specs.declared.rect.Rect.{Rect}
use Rattle.densfill_io.specs.declared.input.InputError.TheVariants.{TooLong, Device, Memory as NoMemory}
use Rattle.fill_text.specs.Chips.{with_rows}
use Rattle.fill_text.specs.Rules.{Values, windows_of}
use Rattle.fill_text.specs.declared.chip.ChipRows.{ChipRows}
use Rattle.fill_job.specs.Plans.{PointSet}
use Rattle.fill_parts.specs.Cuts.{Part as PartOfChip}
use Rattle.fill_parts.specs.declared.part_rules.ToldRows.{ToldRows}
use Rattle.fill_report.specs.RulesReport.{metal_report}
use Rattle.gds_cells.specs.declared.error.FlattenError.{FlattenError}
use Rattle.densfill_engine.specs.Checks.{IsChecked, IsCheckReason, report_in}
use Rattle.densfill_engine.specs.Designs.{AreCounted, IsCountedNear, IsFaultBy, IsUncounted, size_near}
use Rattle.densfill_engine.specs.Inputs.{answer_of, IsRulesReason}
use Rattle.densfill_engine.specs.Scopes.{size_of, told_in}
use Rattle.densfill_engine.specs.Views.{FitsIn, IsFaultIn, IsPartView, IsView, IsViewOf, Suffices, lines_told}
use Rattle.densfill_engine.specs.declared.refusal.DesignError.{DesignError}
use Rattle.densfill_engine.specs.declared.refusal.DesignError.TheVariants.{Library, Flatten, Crowded}
use Rattle.densfill_engine.specs.declared.refusal.InputFault.{InputFault}
use Rattle.densfill_engine.specs.declared.refusal.InputFault.TheVariants.{Unread, Refused}
use Rattle.densfill_engine.specs.declared.refusal.RunFault.TheVariants as run
use Rattle.densfill_engine.specs.declared.refusal.Refusal.{Refusal}
use Rattle.densfill_engine.specs.declared.refusal.Refusal.TheVariants.{Rules, TooLarge, Design, Script, Part, Run, Out, Report}
use Rattle.densfill_engine.specs.declared.scope.Reach.{Reach}
use Rattle.densfill_engine.specs.declared.scope.Reach.TheVariants.{Windows, Needs}
use Rattle.densfill_engine.specs.declared.scope.Scope.{Scope}
use Rattle.densfill_engine.specs.declared.scope.Scope.TheVariants as asked
use Rattle.densfill_engine.specs.declared.view.Told.{Told}
use Rattle.densfill_engine.specs.declared.view.Told.TheVariants.{Everything, Rows}
use Rattle.densfill_engine.proofs.Drawing.{counted_rows, uncounted_rows}
use Rattle.densfill_engine.proofs.Reasons.{is_ok_of}

-- what is said of the bytes of two inputs holds where both are known
pub if_two : {P : (r d : List ℕ) → Type 0} (rules design : Option (List ℕ)) → ((r d : List ℕ) → rules ≡ Some r → design ≡ Some d → P r d) → IfSome rules (λ r. IfSome design (λ d. P r d))
if_two None design given = tt
if_two (Some r) None given = tt
if_two (Some r) (Some d) given = given r d refl refl

pub of : (P : List ℕ → Type 0) (known : Option (List ℕ)) (bytes : List ℕ) → known ≡ Some bytes → IfSome known P → P bytes
of P known bytes is holds = subst (λ (o : Option (List ℕ)). IfSome o P) is holds

-- what holds of the bytes that were taken holds of all that the reader has, where that is known
pub of_taken : (remaining : Option (List ℕ)) (bytes xs : List ℕ) (P : List ℕ → Type 0) → IfSome remaining (λ b. bytes ≡ b) → xs ≡ bytes → P xs → IfSome remaining P
of_taken None bytes xs P known same h = tt
of_taken (Some b) bytes xs P known same h = subst P (same ∙ known) h

-- ---- what is looked at

-- the rows that are told fit, if these do
pub fits_rows : (values : Values) (rows : ToldRows) → rows.windows.start ≤ rows.windows.end → rows.windows.end ≤ (windows_of values).up.count → FitsIn values (Rows rows)
fits_rows values rows ordered within other is =
    subst (λ (r : ToldRows). (r.windows.start ≤ r.windows.end) × (r.windows.end ≤ (windows_of values).up.count)) (ap rows_in is) (ordered, within)
  where
    rows_in : Told → ToldRows
    rows_in Everything = rows
    rows_in (Rows r) = r

-- its rectangle suffices for the part
suffices : (reach : Reach) (values : Values) (k : PartOfChip) (small : Values) (rows : ToldRows) (frame : Rect) → IsPartView reach values k small rows frame → Suffices reach values k frame
suffices Windows values k small rows frame is = λ metal. sym (is.holds.checks (λ x y. metal x y && squares frame x y)) ∙ (is.frame_is metal ∙ is.holds.checks metal)
suffices Needs values k small rows frame is = (small, is.rules, is.frame_is)

pub size_is : (scope : Scope) (reach : Reach) (values small : Values) (told : Told) (frame : Option Rect) → IsViewOf scope reach values small told frame → size_near frame ≡ size_of scope
size_is asked.Whole reach values small told frame (small_is, told_is, frame_is) = ap size_near frame_is
size_is (asked.Part k) reach values small told frame (rows, rect, told_is, frame_is, is) = ap size_near frame_is

fault_as : (bytes : List ℕ) (R Q : FlattenError → Type 0) → ((e : FlattenError) → R e → Q e) → (f : InputFault DesignError) → IsFaultBy R bytes f → IsFaultBy Q bytes f
fault_as bytes R Q same (Unread Device) h = h
fault_as bytes R Q same (Unread NoMemory) h = h
fault_as bytes R Q same (Unread TooLong) h = h
fault_as bytes R Q same (Refused (Library e)) h = h
fault_as bytes R Q same (Refused (Flatten e)) h = same e h
fault_as bytes R Q same (Refused (Crowded number count)) h = h

-- a fault of a design near its rectangle, where the cause is none of its rows, is one of the chip
pub fault_in : (scope : Scope) (reach : Reach) (refused : Values → Option Rect → FlattenError → Type 0) (bytes : List ℕ) (values small : Values) (told : Told) (frame : Option Rect) (met : InputFault DesignError)
    → IsViewOf scope reach values small told frame → ((rows : ChipRows) (f : Option Rect) (e : FlattenError) → refused (with_rows values rows) f e → refused values f e)
    → IsFaultBy (refused small frame) bytes met → IsFaultIn scope reach (refused values) bytes values (told_in scope met)
fault_in asked.Whole reach refused bytes values small told frame met (small_is, told_is, frame_is) same why =
    subst (λ (f : Option Rect). IsFaultBy (refused values f) bytes met) frame_is (subst (λ (v : Values). IsFaultBy (refused v frame) bytes met) small_is why)
fault_in (asked.Part k) reach refused bytes values small told frame met (rows, rect, told_is, frame_is, is) same why = record {
  frame = rect;
  suffices = suffices reach values k small rows rect is;
  met = met;
  why = fault_as bytes (refused small (Some rect)) (refused values (Some rect)) (λ e h. same is.holds.rows (Some rect) e (subst (λ (v : Values). refused v (Some rect) e) is.holds.alone h)) met
      (subst (λ (f : Option Rect). IsFaultBy (refused small f) bytes met) frame_is why);
  told = refl;
}

-- the lines that are told of what counts near it are those of all that counts
drawn_in : (scope : Scope) (bytes : List ℕ) (values small : Values) (told : Told) (frame : Option Rect) (p : PointSet) → IsViewOf scope Windows values small told frame → IsCountedNear frame bytes small p
    → (metal : PointSet) × (fill : PointSet) × AreCounted (size_of scope) bytes values metal fill × (lines_told told small p ≡ report_in scope values (λ x y. metal x y || fill x y))
drawn_in asked.Whole bytes values small told frame p (small_is, told_is, frame_is) near =
    let all = subst (λ (f : Option Rect). IsCountedNear f bytes values p) frame_is (subst (λ (v : Values). IsCountedNear frame bytes v p) small_is near) in
    (all.metal, all.fill, all.counted, ap₂ (λ (t : Told) (v : Values). lines_told t v p) told_is small_is ∙ ap (λ (m : PointSet). metal_report m values) all.within)
drawn_in (asked.Part k) bytes values small told frame p (rows, rect, told_is, frame_is, is) near =
    let all = counted_rows bytes values is.holds.rows (Some rect) p (subst (λ (v : Values). IsCountedNear (Some rect) bytes v p) is.holds.alone (subst (λ (f : Option Rect). IsCountedNear f bytes small p) frame_is near)) in
    (all.metal, all.fill, all.counted, ap (λ (t : Told). lines_told t small p) told_is ∙ (ap (λ (q : PointSet). lines_told (Rows rows) small q) all.within ∙ (is.frame_is (λ x y. all.metal x y || all.fill x y) ∙ is.holds.checks (λ x y. all.metal x y || all.fill x y))))

pub view_read : (scope : Scope) (reach : Reach) (rules : Option (List ℕ)) (small : Values) (told : Told) (frame : Option Rect) → IsView scope reach rules small told frame → IfSome rules (λ r. IsOk (answer_of (size_of scope) r))
view_read scope reach None small told frame view = tt
view_read scope reach (Some r) small told frame view = is_ok_of _ view.0 view.2

-- ---- both inputs

check_of_rules : (scope : Scope) (r d : List ℕ) (e : Refusal) → IsRulesReason scope r e → IsCheckReason scope r d e
check_of_rules scope r d (Rules fault) why = why
check_of_rules scope r d (TooLarge fault number count) why = why
check_of_rules scope r d (Design fault) why = absurd why
check_of_rules scope r d (Script fault) why = why
check_of_rules scope r d (Part number fault) why = why
check_of_rules scope r d (Run run.Memory) why = absurd why
check_of_rules scope r d (Run run.Unfinished) why = why
check_of_rules scope r d (Run run.Mixed) why = why
check_of_rules scope r d Out why = why
check_of_rules scope r d Report why = absurd why

pub rules_reason : (scope : Scope) (rules design : Option (List ℕ)) (e : Refusal) → IfSome rules (λ r. IsRulesReason scope r e) → IfSome rules (λ r. IfSome design (λ d. IsCheckReason scope r d e))
rules_reason scope rules design e why = if_two rules design (λ r d at_r at_d. check_of_rules scope r d e (of _ rules r at_r why))

module _ (scope : Scope) (rules design : Option (List ℕ)) (small : Values) (told : Told) (frame : Option Rect) (view : IsView scope Windows rules small told frame) where
  pub design_reason : (met : InputFault DesignError) → IfSome design (λ bytes. IsFaultBy (IsUncounted frame bytes small) bytes met) → (e : Refusal) → e ≡ Design (told_in scope met)
      → IfSome rules (λ r. IfSome design (λ d. IsCheckReason scope r d e))
  design_reason met why e is = if_two rules design (λ r d at_r at_d. subst (λ x. IsCheckReason scope r d x) (sym is) (
    view.0,
    of _ rules r at_r view.2,
    fault_in scope Windows (λ v f. IsUncounted f d v) d view.0 small told frame met view.1 (λ rows f e h. uncounted_rows d view.0 rows f e h) (of _ design d at_d why),
  ))

  module _ (p : PointSet) (taken : IfSome design (λ bytes. IsCountedNear frame bytes small p)) where
    checked : (r d : List ℕ) → rules ≡ Some r → design ≡ Some d → IsChecked scope r d (lines_told told small p)
    checked r d at_r at_d =
        let (metal, fill, counted, same) = drawn_in scope d view.0 small told frame p view.1 (of _ design d at_d taken) in
        record { values = view.0; accepted = of _ rules r at_r view.2; metal = metal; fill = fill; counted = counted; report = same }

    pub check_written : (P : List ℕ → Type 0) → P (lines_told told small p) → IfSome rules (λ r. IfSome design (λ d. (text : List ℕ) × IsChecked scope r d text × P text))
    check_written P holds = if_two rules design (λ r d at_r at_d. (lines_told told small p, checked r d at_r at_d, holds))

    pub check_reason : (e : Refusal) → ((e ≡ Report) ⊎ (e ≡ Run run.Memory)) → IfSome rules (λ r. IfSome design (λ d. IsCheckReason scope r d e))
    check_reason e (inl is) = if_two rules design (λ r d at_r at_d. subst (λ x. IsCheckReason scope r d x) (sym is) (lines_told told small p, checked r d at_r at_d))
    check_reason e (inr is) = if_two rules design (λ r d at_r at_d. subst (λ x. IsCheckReason scope r d x) (sym is) (lines_told told small p, checked r d at_r at_d))

-- the error that a `?` passes on is the one that was met
pub as_error : {T E : Type 0} (r : Result T E) (x y z : E) → r ≡ Err x → x ≡ y → r ≡ Err z → y ≡ z
as_error r x y z is same told = cc

-- what three clauses say of a value together
pub all_ok : {A E : Type 0} (result : Result A E) {P Q R S : A → Type 0} → ((x : A) → P x → Q x → R x → S x) → IfOk result P → IfOk result Q → IfOk result R → IfOk result S
all_ok (Ok x) f p q r = f x p q r
all_ok (Err e) f p q r = p
