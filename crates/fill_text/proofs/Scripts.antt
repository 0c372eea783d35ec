-- What reading one record of a script says of the whole.
use Rattle.std.proofs.Common.{◌≡◌, ◌∙◌, ℕ, ℤ, ◌+◌, ◌==◌, ◌≤◌, ◌<◌, Bool, true, false, List, [], ◌∷◌, length, get_or, map, Option, Some, None, Result, Ok, Err, refl, sym, arith}
use Rattle.std.specs.Prelude.{is_some, nat_lt, ok_or, pos, unwrap_or, if◌then◌else◌}
use Rattle.std.proofs.lemmas.Bool.Decides.{nat_tests}
use Rattle.fill_base.specs.Sequence.{◌>>=◌}
use Rattle.fill_base.specs.Sides.{Sides, sides}
use Rattle.fill_text.specs.RectTests.{is_rect, rect_with}
use Rattle.fill_text.specs.Refusals.{each_fault, fault_unless, first_some, refused_or}
use Rattle.fill_text.specs.Rows.{rows_of}
use Rattle.fill_text.specs.Script.{Change, change_fault, change_faults, change_in, edits_of, kind_of, number_at}
use Rattle.fill_text.specs.declared.script.Kind.{Kind}
use Rattle.fill_text.specs.declared.script.Kind.TheVariants as kind
use Rattle.fill_text.specs.declared.script.ScriptError.{ScriptError}
use Rattle.fill_text.specs.declared.script.ScriptError.TheVariants.{BadNumber, BadRow, TooManyLines}
use Rattle.fill_text.specs.steps.Changes.{change_at}

-- the change of a record, or the first of its faults
change_given : (line : ℕ) (fields : List (List ℕ)) → change_at line fields ≡ refused_or (first_some (change_faults line fields)) (change_in fields)
unfolding change_at rect_with
change_given line fields = by (length fields == 5) (kind_of (get_or fields 0 [])) (number_at fields 1) (number_at fields 2) (number_at fields 3) (number_at fields 4)
  where
    rect : (k : Kind) (c : Sides) (b : Bool)
        → ((ok_or (if b then Some c else None) (BadRow line)) >>= λ c. let change : Result Change ScriptError = Ok (record { kind = k; rect = c }) in change)
        ≡ refused_or (first_some (fault_unless b (BadRow line) ∷ [])) (record { kind = k; rect = c })
    rect k c true = refl
    rect k c false = refl

    by : (five : Bool) (k : Option Kind) (x1 y1 x2 y2 : Option ℤ)
        → (if five then (ok_or k (BadRow line) >>= λ k. ok_or x1 (BadNumber line) >>= λ x1. ok_or y1 (BadNumber line) >>= λ y1. ok_or x2 (BadNumber line) >>= λ x2. ok_or y2 (BadNumber line) >>= λ y2.
        let c : Sides = sides x1 y1 x2 y2 in ok_or (if is_rect c then Some c else None) (BadRow line) >>= λ c. let change : Result Change ScriptError = Ok (record { kind = k; rect = c }) in change) else Err (BadRow line))
        ≡ (let c : Sides = sides (unwrap_or x1 (pos 0)) (unwrap_or y1 (pos 0)) (unwrap_or x2 (pos 0)) (unwrap_or y2 (pos 0)) in
        refused_or (first_some (fault_unless five (BadRow line) ∷ fault_unless (is_some k) (BadRow line) ∷ fault_unless (is_some x1) (BadNumber line) ∷ fault_unless (is_some y1) (BadNumber line) ∷ fault_unless (is_some x2) (BadNumber line) ∷ fault_unless (is_some y2) (BadNumber line) ∷ fault_unless (is_rect c) (BadRow line) ∷ []))
        (record { kind = unwrap_or k kind.Add; rect = c }))
    by false k x1 y1 x2 y2 = refl
    by true None x1 y1 x2 y2 = refl
    by true (Some k) None y1 x2 y2 = refl
    by true (Some k) (Some a) None x2 y2 = refl
    by true (Some k) (Some a) (Some b) None y2 = refl
    by true (Some k) (Some a) (Some b) (Some c) None = refl
    by true (Some k) (Some a) (Some b) (Some c) (Some d) = let r : Sides = sides a b c d in rect k r (is_rect r)

early : (before : List (List (List ℕ))) (line : ℕ) → length before ≡ line → line < 100000 → nat_lt (length before) 100000 ≡ true
early before line count few = grind (arith, nat_tests)

-- what a change read and a refusal say of the first fault of its record
pub change_good : (before : List (List (List ℕ))) (fields : List (List ℕ)) (line : ℕ) (change : Change) → length before ≡ line → line < 100000
    → change_at (line + 1) fields ≡ Ok change → (change_fault before fields ≡ None) × (change ≡ change_in fields)
change_good before fields line change count few e =
    let given = by (first_some (change_faults (line + 1) fields)) (sym (change_given (line + 1) fields) ∙ e) in
    (rw (early before line count few, count) given.0, given.1)
  where
    by : (o : Option ScriptError) → refused_or o (change_in fields) ≡ Ok change → (o ≡ None) × (change ≡ change_in fields)
    by None e = (refl, cc)
    by (Some f) e = cc e

pub change_bad : (before : List (List (List ℕ))) (fields : List (List ℕ)) (line : ℕ) (e : ScriptError) → length before ≡ line → line < 100000
    → change_at (line + 1) fields ≡ Err e → change_fault before fields ≡ Some e
change_bad before fields line why count few e =
    let given = by (first_some (change_faults (line + 1) fields)) (sym (change_given (line + 1) fields) ∙ e) in
    rw (early before line count few, count) given
  where
    by : (o : Option ScriptError) → refused_or o (change_in fields) ≡ Err why → o ≡ Some why
    by None e = cc e
    by (Some f) e = cc

pub too_late : (before : List (List (List ℕ))) (fields : List (List ℕ)) (line : ℕ) → length before ≡ line → 100000 ≤ line → change_fault before fields ≡ Some TooManyLines
too_late before fields line count many = let late : nat_lt (length before) 100000 ≡ false = grind (arith, nat_tests) in rw late refl

-- the script with a record at fault, and with none
pub script_refused : (text : List ℕ) (e : ScriptError) → first_some (each_fault change_fault [] (rows_of text)) ≡ Some e → edits_of text ≡ Err e
unfolding edits_of
script_refused text e first = rw first refl

pub script_given : (text : List ℕ) → first_some (each_fault change_fault [] (rows_of text)) ≡ None → edits_of text ≡ Ok (map change_in (rows_of text))
unfolding edits_of
script_given text sound = rw sound refl
