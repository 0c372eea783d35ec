-- Each record of an accepted script is one change.
use Rattle.std.proofs.Common.{◌≡◌, ◌∙◌, ◌+◌, ◌==◌, ℕ, ℤ, pos, Bool, true, false, List, [], ◌∷◌, ◌++◌, length, get_or, map, Option, Some, None, ap, refl, arith}
use Rattle.std.specs.Prelude.{bytes_eq, codes, is_some, nat_lt, unwrap_or, if◌then◌else◌}
use Rattle.std.specs.List.{AllZip}
use Rattle.std.proofs.lemmas.Bool.Decides.{nat_tests}
use Rattle.std.proofs.lemmas.Slice.Eq.{bytes_eq-Decides}
use Rattle.fill_text.specs.Laws.{EachRecordIsAChange, WritesChange, kind_word}
use Rattle.fill_text.specs.Refusals.{each_fault, first_some}
use Rattle.fill_text.specs.Rows.{rows_of}
use Rattle.fill_text.specs.Script.{change_fault, change_faults, change_in, edits_of, kind_of}
use Rattle.fill_text.specs.declared.script.Kind.{Kind}
use Rattle.fill_text.specs.declared.script.Kind.TheVariants as kind
use Rattle.fill_text.specs.declared.script.ScriptError.{ScriptError}
use Rattle.fill_text.specs.declared.script.ScriptError.TheVariants.{TooManyLines}
use Rattle.fill_text.proofs.FirstFaults.{first_none, none_at, not_refused, unless_holds}

length_is : (n m : ℕ) → (n == m) ≡ true → n ≡ m
length_is n m test = grind (arith, nat_tests)

five_fields : (fields : List (List ℕ)) → length fields ≡ 5
    → fields ≡ get_or fields 0 [] ∷ get_or fields 1 [] ∷ get_or fields 2 [] ∷ get_or fields 3 [] ∷ get_or fields 4 [] ∷ []
five_fields [] e = absurd (omega arith)
five_fields (a ∷ []) e = absurd (omega arith)
five_fields (a ∷ b ∷ []) e = absurd (omega arith)
five_fields (a ∷ b ∷ c ∷ []) e = absurd (omega arith)
five_fields (a ∷ b ∷ c ∷ d ∷ []) e = absurd (omega arith)
five_fields (a ∷ b ∷ c ∷ d ∷ f ∷ []) e = refl
five_fields (a ∷ b ∷ c ∷ d ∷ f ∷ g ∷ more) e = absurd (omega arith)

kind_written : (word : List ℕ) → is_some (kind_of word) ≡ true → word ≡ kind_word (unwrap_or (kind_of word) kind.Add)
kind_written word e = by (bytes_eq word (codes "add")) refl (bytes_eq word (codes "cut")) refl (bytes_eq word (codes "keep")) refl e
  where
    by : (a : Bool) → bytes_eq word (codes "add") ≡ a → (b : Bool) → bytes_eq word (codes "cut") ≡ b → (k : Bool) → bytes_eq word (codes "keep") ≡ k
        → (let kind : Option Kind = if a then Some kind.Add else (if b then Some kind.Cut else (if k then Some kind.Keep else None)) in is_some kind ≡ true)
        → word ≡ kind_word (unwrap_or (if a then Some kind.Add else (if b then Some kind.Cut else (if k then Some kind.Keep else None))) kind.Add)
    by true ea b eb k ek e = (bytes_eq-Decides word (codes "add")).0 ea
    by false ea true eb k ek e = (bytes_eq-Decides word (codes "cut")).0 eb
    by false ea false eb true ek e = (bytes_eq-Decides word (codes "keep")).0 ek
    by false ea false eb false ek e = cc e

there : (o : Option ℤ) → is_some o ≡ true → o ≡ Some (unwrap_or o (pos 0))
there None e = cc e
there (Some n) e = refl

-- a record that breaks no rule writes its change
change_written : (line : ℕ) (fields : List (List ℕ)) → first_some (change_faults line fields) ≡ None → WritesChange fields (change_in fields)
change_written line fields sound =
    let faults = change_faults line fields in
    let five = length_is (length fields) 5 (unless_holds _ _ (none_at faults 0 sound)) in
    let named = kind_written (get_or fields 0 []) (unless_holds _ _ (none_at faults 1 sound)) in (
      get_or fields 1 [],
      get_or fields 2 [],
      get_or fields 3 [],
      get_or fields 4 [],
      five_fields fields five ∙ ap (λ (w : List ℕ). w ∷ get_or fields 1 [] ∷ get_or fields 2 [] ∷ get_or fields 3 [] ∷ get_or fields 4 [] ∷ []) named,
      there _ (unless_holds _ _ (none_at faults 2 sound)),
      there _ (unless_holds _ _ (none_at faults 3 sound)),
      there _ (unless_holds _ _ (none_at faults 4 sound)),
      there _ (unless_holds _ _ (none_at faults 5 sound)),
    )

in_time : (b : Bool) (o : Option ScriptError) → (if b then o else Some TooManyLines) ≡ None → o ≡ None
in_time true o e = e
in_time false o e = cc e

changes_written : (before rest : List (List (List ℕ))) → first_some (each_fault change_fault before rest) ≡ None → AllZip WritesChange rest (map change_in rest)
changes_written before [] sound = tt
changes_written before (fields ∷ rest) sound =
    let (this, later) = first_none (change_fault before fields) (each_fault change_fault (before ++ fields ∷ []) rest) sound in
    (change_written (length before + 1) fields (in_time (nat_lt (length before) 100000) _ this), changes_written (before ++ fields ∷ []) rest later)

pub each_record : EachRecordIsAChange
unfolding edits_of
each_record file changes e =
    let (sound, same) = not_refused (first_some (each_fault change_fault [] (rows_of file))) (map change_in (rows_of file)) changes e in
    rw (← same) (changes_written [] (rows_of file) sound)
