-- What two inputs say together, once it is known what each says.
use Rattle.std.proofs.Common.{◌≡◌, ◌⊎◌, inl, inr, ◌≤◌, ◌^◌, ℕ, Bool, true, false, ◌&&◌, nat_lt, arith, length, List, [], ◌∷◌, ◌++◌, Option, Some, None, Result, Ok, Err, IfSome, IsOk, IsOkAnd, refl, ap, subst, sym, ◌∙◌}
use Rattle.std.specs.Prelude.{bytes_eq, if◌then◌else◌, int_lt}
use Rattle.std.proofs.lemmas.Bool.Decides.{nat_tests}
use Rattle.densfill_io.specs.declared.input.InputError.TheVariants.{TooLong}
use Rattle.fill_text.specs.Chips.{chip_faults, chip_of}
use Rattle.fill_text.specs.Grids.{is_axis}
use Rattle.fill_text.specs.Rasters.{keeps_pitch}
use Rattle.fill_text.specs.RectTests.{is_rect}
use Rattle.fill_text.specs.Refusals.{fault_if, fault_unless, first_some, refused_or}
use Rattle.fill_text.specs.Rows.{rows_of}
use Rattle.fill_text.specs.Rules.{Values, entry_faults, frame_of, joint_faults, raster_of, rule_faults, rules_of, value_of, values_for, whole_windows}
use Rattle.fill_text.specs.declared.keys.Key.TheVariants.{Number, Text}
use Rattle.fill_text.specs.declared.keys.NumberKey.TheVariants as number
use Rattle.fill_text.specs.declared.keys.TextKey.TheVariants as text
use Rattle.fill_text.specs.declared.rule_error.RuleError.{RuleError}
use Rattle.fill_text.specs.declared.rule_error.RuleError.TheVariants.{BadPitch, BadRect, BadRule, BadWindows, TooManyPlaces}
use Rattle.fill_text.specs.Script.{Change}
use Rattle.fill_text.specs.declared.script.ScriptError.{ScriptError}
use Rattle.fill_text.specs.declared.script.ScriptError.TheVariants as script
use Rattle.fill_report.specs.RulesReport.{metal_report}
use Rattle.densfill_engine.specs.Metal.{is_metal}
use Rattle.densfill_engine.specs.Inputs.{IsFaultOf, chip_answer, rules_answer, script_answer, told_by}
use Rattle.densfill_engine.specs.Rects.{IsReason, report_answer}
use Rattle.densfill_engine.specs.declared.refusal.InputFault.{InputFault}
use Rattle.densfill_engine.specs.declared.refusal.InputFault.TheVariants.{Refused, Unread}
use Rattle.densfill_engine.specs.declared.refusal.RunFault.TheVariants as run
use Rattle.densfill_engine.specs.declared.refusal.Refusal.{Refusal}
use Rattle.densfill_engine.specs.declared.refusal.Refusal.TheVariants.{Script, Run, Report}

both_read : (rules edits : List ℕ) (values : Values) (changes : List Change) → rules_answer rules ≡ Ok values → script_answer edits ≡ Ok changes
    → report_answer rules edits ≡ Ok (metal_report (is_metal changes) values)
unfolding report_answer
both_read rules edits values changes read edited = rw (read, edited) refl

-- an answer with a value is none of a refusal
pub is_ok_of : {A E : Type 0} (r : Result A E) (x : A) → r ≡ Ok x → IsOk r
is_ok_of r x e = rw e refl

-- the script gave no edits
pub script_reason : (rules edits : Option (List ℕ)) (values : Values) (f : InputFault ScriptError) → IfSome rules (λ text. rules_answer text ≡ Ok values)
    → IfSome edits (λ text. IsFaultOf script.Memory (script_answer text) f) → IfSome rules (λ r. IfSome edits (λ s. IsReason r s (Script f)))
script_reason None edits values f read why = tt
script_reason (Some r) None values f read why = tt
script_reason (Some r) (Some s) values f read why = (is_ok_of _ values read, why)

-- both gave what they say, and so the report is that of the rules and the edits
pub report_is : (rules edits : Option (List ℕ)) (values : Values) (changes : List Change) (text : List ℕ) (P : List ℕ → Type 0)
    → IfSome rules (λ t. rules_answer t ≡ Ok values) → IfSome edits (λ t. script_answer t ≡ Ok changes) → text ≡ metal_report (is_metal changes) values → P text
    → IfSome rules (λ r. IfSome edits (λ s. IsOkAnd (report_answer r s) P))
report_is None edits values changes text P read edited same holds = tt
report_is (Some r) None values changes text P read edited same holds = tt
report_is (Some r) (Some s) values changes text P read edited same holds = rw (both_read r s values changes read edited) (subst P same holds)

-- memory ran out, or the writer failed, once both inputs were read
pub answered : (rules edits : Option (List ℕ)) (values : Values) (changes : List Change) → IfSome rules (λ t. rules_answer t ≡ Ok values) → IfSome edits (λ t. script_answer t ≡ Ok changes)
    → IfSome rules (λ r. IfSome edits (λ s. IsOk (report_answer r s)))
answered None edits values changes read edited = tt
answered (Some r) None values changes read edited = tt
answered (Some r) (Some s) values changes read edited = is_ok_of _ _ (both_read r s values changes read edited)

-- the report was not written, or there was no memory for it
pub output_reason : (rules edits : Option (List ℕ)) (values : Values) (changes : List Change) (e : Refusal) → IfSome rules (λ t. rules_answer t ≡ Ok values)
    → IfSome edits (λ t. script_answer t ≡ Ok changes) → ((e ≡ Report) ⊎ (e ≡ Run run.Memory)) → IfSome rules (λ r. IfSome edits (λ s. IsReason r s e))
output_reason rules edits values changes e read edited (inl is) =
    subst (λ x. IfSome rules (λ r. IfSome edits (λ s. IsReason r s x))) (sym is) (answered rules edits values changes read edited)
output_reason rules edits values changes e read edited (inr is) =
    subst (λ x. IfSome rules (λ r. IfSome edits (λ s. IsReason r s x))) (sym is) (answered rules edits values changes read edited)

-- the rules were given
pub rules_are : (rules : Option (List ℕ)) (values : Values) → IfSome rules (λ text. rules_answer text ≡ Ok values) → IfSome rules (λ r. IsOk (rules_answer r))
rules_are None values read = tt
rules_are (Some r) values read = is_ok_of _ values read

-- the bytes that were taken are within the limit, and give the rules
pub rules_taken : (remaining : Option (List ℕ)) (bytes : List ℕ) (values : Values) (n : ℕ) → IfSome remaining (λ xs. bytes ≡ xs) → n ≡ length bytes → n ≤ 2147483648 → rules_of bytes ≡ Ok values
    → IfSome remaining (λ text. rules_answer text ≡ Ok values)
rules_taken None bytes values n same len short given = tt
rules_taken (Some xs) bytes values n same len short given = rw (← same, short_enough (length bytes) (rw len at short), given) refl
  where
    short_enough : (m : ℕ) → m ≤ 2147483648 → nat_lt (2 ^ 31) m ≡ false
    short_enough m short = grind (arith, nat_tests)

-- so of a chip of any size
pub chip_taken : (remaining : Option (List ℕ)) (bytes : List ℕ) (values : Values) (n : ℕ) → IfSome remaining (λ xs. bytes ≡ xs) → n ≡ length bytes → n ≤ 2147483648 → chip_of bytes ≡ Ok values
    → IfSome remaining (λ text. chip_answer text ≡ Ok values)
chip_taken None bytes values n same len short given = tt
chip_taken (Some xs) bytes values n same len short given = rw (← same, short_enough (length bytes) (rw len at short), given) refl
  where
    short_enough : (m : ℕ) → m ≤ 2147483648 → nat_lt (2 ^ 31) m ≡ false
    short_enough m short = grind (arith, nat_tests)

-- a rule file that a run of the whole takes says of a chip of any size the same
none_of_more : {E : Type 0} (before after fewer : List (Option E)) → (first_some after ≡ None → first_some fewer ≡ None) → first_some (before ++ after) ≡ None → first_some (before ++ fewer) ≡ None
none_of_more [] after fewer same none = same none
none_of_more (None ∷ before) after fewer same none = none_of_more before after fewer same none
none_of_more (Some e ∷ before) after fewer same none = cc none

no_fault : {A E : Type 0} (f : Option E) (x y : A) → refused_or f x ≡ Ok y → f ≡ None
no_fault None x y e = refl
no_fault (Some f) x y e = cc e

fewer_faults : (values : Values) → first_some (joint_faults values) ≡ None → first_some (chip_faults values) ≡ None
fewer_faults values none = by
    (int_lt (value_of values number.Max) (value_of values number.Min)) (bytes_eq values.fill_top values.fill_cell) (is_rect (frame_of values.numbers))
    (is_axis (whole_windows values.numbers).across && is_axis (whole_windows values.numbers).up) _ (keeps_pitch (raster_of values.numbers) (value_of values number.FillSpacing)) _ none
  where
    by : (m t r a n p f : Bool)
        → first_some (fault_if m (BadRule (Number number.Max)) ∷ fault_if t (BadRule (Text text.FillTop)) ∷ fault_unless r BadRect ∷ fault_unless (a && n) BadWindows ∷ fault_unless p BadPitch ∷ fault_unless f TooManyPlaces ∷ []) ≡ None
        → first_some (fault_if m (BadRule (Number number.Max)) ∷ fault_if t (BadRule (Text text.FillTop)) ∷ fault_unless r BadRect ∷ fault_unless a BadWindows ∷ fault_unless p BadPitch ∷ []) ≡ None
    by true t r a n p f h = cc h
    by false true r a n p f h = cc h
    by false false false a n p f h = cc h
    by false false true false n p f h = cc h
    by false false true true n true f h = refl
    by false false true true false false f h = cc h
    by false false true true true false f h = cc h

pub rules_of_chip : (file : List ℕ) (values : Values) → rules_of file ≡ Ok values → chip_of file ≡ Ok values
unfolding rules_of chip_of
rules_of_chip file values given =
    let rows = rows_of file in
    let none = no_fault (first_some (rule_faults rows)) (values_for rows) values given in
    let fewer = none_of_more (entry_faults rows) (joint_faults (values_for rows)) (chip_faults (values_for rows)) (fewer_faults (values_for rows)) none in
    ap (λ (f : Option RuleError). refused_or f (values_for rows)) (fewer ∙ sym none) ∙ given

pub rules_chip : (text : List ℕ) (values : Values) → rules_answer text ≡ Ok values → chip_answer text ≡ Ok values
rules_chip text values e = by (nat_lt (2 ^ 31) (length text)) (rules_of text) (rules_of_chip text values) e
  where
    value : Result Values (InputFault RuleError) → Values
    value (Ok v) = v
    value (Err f) = values

    by : (long : Bool) (r : Result Values RuleError) → (r ≡ Ok values → chip_of text ≡ Ok values) → (if long then Err (Unread TooLong) else told_by Refused r) ≡ Ok values
        → (if long then Err (Unread TooLong) else told_by Refused (chip_of text)) ≡ Ok values
    by true r h e = cc e
    by false (Ok v) h e = ap (told_by Refused) (h (ap Ok (ap value e)))
    by false (Err x) h e = cc e
