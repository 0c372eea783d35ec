-- Each value of an accepted rule file stands in a record of its key.
use Rattle.std.proofs.Common.{◌≡◌, ◌∙◌, ℕ, suc, ℤ, pos, Bool, true, false, List, [], ◌∷◌, get_or, length, Option, Some, None, option_map, ap, sym, refl, arith}
use Rattle.std.specs.Prelude.{Any, find, is_some, nat_lt, unwrap_or, if◌then◌else◌}
use Rattle.std.proofs.lemmas.Bool.Decides.{nat_tests}
use Rattle.fill_text.specs.Keys.{key_name}
use Rattle.fill_text.specs.Laws.{AreWrittenOrLeftOut, EachNumberIsWritten, EachTextIsWritten, KeepIsWritten, WritesNumber, WritesOptional, WritesText}
use Rattle.fill_text.specs.Numbers.{number_of}
use Rattle.fill_text.specs.Refusals.{each_fault, first_some}
use Rattle.fill_text.specs.Rows.{rows_of}
use Rattle.fill_text.specs.Rules.{Values, number_fault, number_for, optional_fault, optional_for, pair, pair_faults, record_fault, text_for, text_of, value_of, values_for, word_for, words_for}
use Rattle.fill_text.specs.declared.keys.AlsoKey.TheVariants as also
use Rattle.fill_text.specs.declared.keys.Key.TheVariants.{Number, Text, Optional, Also}
use Rattle.fill_text.specs.declared.keys.OptionalKey.{OptionalKey}
use Rattle.fill_text.specs.declared.keys.OptionalKey.TheVariants.{KeepLayer, KeepDatatype}
use Rattle.fill_text.specs.declared.keys.TextKey.{TextKey}
use Rattle.fill_text.specs.declared.keys.TextKey.TheVariants as text
use Rattle.fill_text.proofs.Holding.{none_there}
use Rattle.fill_text.proofs.Standing.{accepted, stands, value_listed}

found_any : {X : Type 0} (P : X → Type 0) (p : X → Bool) (xs : List X) (x : X) → find p xs ≡ Some x → P x → Any P xs
found_any P p [] x e h = cc e
found_any P p (y ∷ xs) x e h = by (p y) e (λ later. found_any P p xs x later h)
  where
    by : (b : Bool) → (if b then Some y else find p xs) ≡ Some x → (find p xs ≡ Some x → Any P xs) → Any P (y ∷ xs)
    by true e later = let same : y ≡ x = cc e in (0, y, omega arith, refl, rw same h)
    by false e later = let (k, z, below, at, q) = later e in (suc k, z, omega arith, at, q)

pub each_number : EachNumberIsWritten
each_number file values e key =
    let is = accepted file values e in
    let (fields, found, written, line, fits) = stands (rows_of file) (Number key) is.sound (is.all (Number key) tt) in
    let word : word_for (Number key) (rows_of file) ≡ Some (get_or fields 1 []) = ap (option_map (λ (r : List (List ℕ)). get_or r 1 [])) found in
    let value : number_for (rows_of file) key ≡ value_of values key = sym (value_listed (number_for (rows_of file)) key) ∙ ap (λ (v : Values). value_of v key) is.same in
    found_any (WritesNumber key (value_of values key)) _ (rows_of file) fields found
    (get_or fields 1 [], written, rw (← value, word) (by line (get_or fields 1 []) (number_of (get_or fields 1 [])) fits))
  where
    by : (line : ℕ) (word : List ℕ) (o : Option ℤ) → number_fault line key o ≡ None → o ≡ Some (unwrap_or o (pos 0))
    by line word None fits = cc fits
    by line word (Some n) fits = refl

text_listed : (rows : List (List (List ℕ))) (key : TextKey) → text_of (values_for rows) key ≡ text_for rows key
text_listed rows text.Top = refl
text_listed rows text.FillLib = refl
text_listed rows text.FillCell = refl
text_listed rows text.FillTop = refl

pub each_text : EachTextIsWritten
each_text file values e key =
    let is = accepted file values e in
    let (fields, found, written, line, fits) = stands (rows_of file) (Text key) is.sound (is.all (Text key) tt) in
    let word : word_for (Text key) (rows_of file) ≡ Some (get_or fields 1 []) = ap (option_map (λ (r : List (List ℕ)). get_or r 1 [])) found in
    let value : get_or fields 1 [] ≡ text_of values key = ap (λ (o : Option (List ℕ)). unwrap_or o []) (sym word) ∙ sym (text_listed (rows_of file) key) ∙ ap (λ (v : Values). text_of v key) is.same in
    found_any (WritesText key (text_of values key)) _ (rows_of file) fields found (written ∙ ap (λ (w : List ℕ). key_name (Text key) ∷ w ∷ []) value)

-- the number of an optional key that stands
optional_written : (rows : List (List (List ℕ))) (key : OptionalKey) → first_some (each_fault record_fault [] rows) ≡ None → is_some (word_for (Optional key) rows) ≡ true
    → (n : ℤ) × (optional_for rows key ≡ Some n) × Any (WritesOptional key n) rows
optional_written rows key sound there =
    let (fields, found, written, line, fits) = stands rows (Optional key) sound there in
    let word : word_for (Optional key) rows ≡ Some (get_or fields 1 []) = ap (option_map (λ (r : List (List ℕ)). get_or r 1 [])) found in
    let (n, reads) = by line (number_of (get_or fields 1 [])) fits in
    (n, rw word reads, found_any (WritesOptional key n) _ rows fields found (get_or fields 1 [], written, reads))
  where
    by : (line : ℕ) (o : Option ℤ) → optional_fault line key o ≡ None → (n : ℤ) × (o ≡ Some n)
    by line None fits = cc fits
    by line (Some n) fits = (n, refl)

no_words : (words : List (List ℕ)) → nat_lt 0 (length words) ≡ false → words ≡ []
no_words [] e = refl
no_words (w ∷ words) e = absurd (some (length words) e)
  where
    some : (n : ℕ) → nat_lt 0 (suc n) ≡ false → ⊥
    some n e = grind (arith, nat_tests)

pub keep_written : KeepIsWritten
keep_written file values e =
    let is = accepted file values e in
    rw (← ap (λ (v : Values). v.keep) is.same) (by (is_some (word_for (Optional KeepLayer) (rows_of file))) refl (is_some (word_for (Optional KeepDatatype) (rows_of file))) refl (nat_lt 0 (length (words_for (Also also.Keep) (rows_of file)))) refl is.paired is.sound)
  where
    by : (a : Bool) → is_some (word_for (Optional KeepLayer) (rows_of file)) ≡ a → (b : Bool) → is_some (word_for (Optional KeepDatatype) (rows_of file)) ≡ b
        → (c : Bool) → nat_lt 0 (length (words_for (Also also.Keep) (rows_of file))) ≡ c → first_some (pair_faults a b c) ≡ None → first_some (each_fault record_fault [] (rows_of file)) ≡ None
        → AreWrittenOrLeftOut (pair (optional_for (rows_of file) KeepLayer) (optional_for (rows_of file) KeepDatatype)) (rows_of file)
    by true ea true eb c ec paired sound =
        let (m, reads_m, any_m) = optional_written (rows_of file) KeepLayer sound ea in
        let (n, reads_n, any_n) = optional_written (rows_of file) KeepDatatype sound eb in
        rw (reads_m, reads_n) (any_m, any_n)
    by true ea false eb c ec paired sound = cc paired
    by false ea true eb c ec paired sound = cc paired
    by false ea false eb true ec paired sound = cc paired
    by false ea false eb false ec paired sound =
        let none_a = none_there (word_for (Optional KeepLayer) (rows_of file)) ea in
        let none_b = none_there (word_for (Optional KeepDatatype) (rows_of file)) eb in
        let left_out : optional_for (rows_of file) KeepLayer ≡ None = rw none_a refl in
        rw left_out (none_a, none_b, no_words (words_for (Also also.Keep) (rows_of file)) ec)
