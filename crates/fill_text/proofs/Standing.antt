-- In a rule file that is accepted each key stands in a record that breaks no rule.
use Rattle.std.proofs.Common.{◌≡◌, ◌∙◌, ◌+◌, ◌==◌, ℕ, ℤ, pos, Bool, true, false, List, [], ◌∷◌, ◌++◌, length, get_or, map, Option, Some, None, option_map, Ok, ap, subst, sym, refl, arith}
use Rattle.std.specs.Prelude.{⊤, bytes_eq, find, is_some, if◌then◌else◌}
use Rattle.std.proofs.lemmas.Bool.Decides.{nat_tests}
use Rattle.std.proofs.lemmas.List.{get_or-map}
use Rattle.std.proofs.lemmas.Slice.Eq.{bytes_eq-Decides}
use Rattle.fill_text.specs.Keys.{all_number_keys, all_text_keys, key_name, key_named, number_rule, required_keys}
use Rattle.fill_text.specs.Refusals.{each_fault, first_some}
use Rattle.fill_text.specs.Rows.{rows_of}
use Rattle.fill_text.specs.Rules.{Values, is_full, joint_faults, keep_faults, key_faults, keyed_fault, layers_for, layers_of, missing, number_in, record_fault, rule_faults, rules_of, value_fault, values_for, word_for}
use Rattle.fill_text.specs.declared.keys.AlsoKey.{AlsoKey}
use Rattle.fill_text.specs.declared.keys.AlsoKey.TheVariants as also
use Rattle.fill_text.specs.declared.keys.Key.{Key}
use Rattle.fill_text.specs.declared.keys.Key.TheVariants.{Number, Text, Optional, Also, Padding}
use Rattle.fill_text.specs.declared.keys.NumberKey.{NumberKey}
use Rattle.fill_text.specs.declared.keys.NumberKey.TheVariants.{FrameX1}
use Rattle.fill_text.specs.declared.keys.TextKey.TheVariants as text
use Rattle.fill_text.specs.declared.rule_error.RuleError.{RuleError}
use Rattle.fill_text.specs.declared.rule_error.RuleError.TheVariants.{BadRow}
use Rattle.fill_text.proofs.FirstFaults.{found_sound, none_at, none_in_both, not_refused, unless_holds}
use Rattle.fill_text.proofs.KeyNames.{each_named, index_below, key_at}
use Rattle.fill_text.proofs.Names.{found_passes}

length_is : (n m : ℕ) → (n == m) ≡ true → n ≡ m
length_is n m test = grind (arith, nat_tests)

pub two_fields : (fields : List (List ℕ)) → length fields ≡ 2 → fields ≡ get_or fields 0 [] ∷ get_or fields 1 [] ∷ []
two_fields [] e = absurd (omega arith)
two_fields (a ∷ []) e = absurd (omega arith)
two_fields (a ∷ b ∷ []) e = refl
two_fields (a ∷ b ∷ c ∷ more) e = absurd (omega arith)

-- what a record that breaks no rule is: two fields, of a key that could stand once more, with a value of it
pub sound_record : (before : List (List (List ℕ))) (fields : List (List ℕ)) → record_fault before fields ≡ None
    → (key : Key) × (key_named (get_or fields 0 []) ≡ Some key) × (length fields ≡ 2) × (is_full key before ≡ false) × (value_fault (length before + 1) key (get_or fields 1 []) ≡ None)
sound_record before fields sound = by (length fields == 2) refl (key_named (get_or fields 0 [])) refl sound
  where
    fresh : (key : Key) → key_named (get_or fields 0 []) ≡ Some key → length fields ≡ 2 → (b : Bool) → is_full key before ≡ b
        → (if b then Some (BadRow (length before + 1)) else value_fault (length before + 1) key (get_or fields 1 [])) ≡ None
        → (key : Key) × (key_named (get_or fields 0 []) ≡ Some key) × (length fields ≡ 2) × (is_full key before ≡ false) × (value_fault (length before + 1) key (get_or fields 1 []) ≡ None)
    fresh key named two true stands e = cc e
    fresh key named two false stands e = (key, named, two, stands, e)

    by : (b : Bool) → (length fields == 2) ≡ b → (o : Option Key) → key_named (get_or fields 0 []) ≡ o
        → (if b then keyed_fault (length before + 1) before o (get_or fields 1 []) else Some (BadRow (length before + 1))) ≡ None
        → (key : Key) × (key_named (get_or fields 0 []) ≡ Some key) × (length fields ≡ 2) × (is_full key before ≡ false) × (value_fault (length before + 1) key (get_or fields 1 []) ≡ None)
    by true two (Some key) named e = fresh key named (length_is (length fields) 2 two) (is_full key before) refl e
    by true two None named e = cc e
    by false two o named e = cc e

-- the key may not be left out
abbrev pub IsRequired : Key → Type 0
IsRequired (Number key) = ⊤
IsRequired (Text key) = ⊤
IsRequired (Optional key) = ⊥
IsRequired (Also key) = ⊥
IsRequired Padding = ⊥

number_there : (f : NumberKey → Option RuleError) → first_some (map f all_number_keys) ≡ None → (key : NumberKey) → f key ≡ None
number_there f none key =
    sym (ap f (key_at key)) ∙ sym (get_or-map f all_number_keys (number_rule key).index FrameX1 None (index_below key)) ∙ none_at (map f all_number_keys) (number_rule key).index none

key_there : (f : Key → Option RuleError) → first_some (map f required_keys) ≡ None → (key : Key) → IsRequired key → f key ≡ None
key_there f none (Number key) is = number_there (λ k. f (Number k)) (none_in_both (map (λ k. f (Number k)) all_number_keys) (map (λ k. f (Text k)) all_text_keys) none).0 key
key_there f none (Text text.Top) is = none_at (map f required_keys) 28 none
key_there f none (Text text.FillLib) is = none_at (map f required_keys) 29 none
key_there f none (Text text.FillCell) is = none_at (map f required_keys) 30 none
key_there f none (Text text.FillTop) is = none_at (map f required_keys) 31 none
key_there f none (Optional key) is = absurd is
key_there f none (Also key) is = absurd is
key_there f none Padding is = absurd is

pub value_listed : (f : NumberKey → ℤ) (key : NumberKey) → number_in (map f all_number_keys) key ≡ f key
value_listed f key = get_or-map f all_number_keys (number_rule key).index FrameX1 (pos 0) (index_below key) ∙ ap f (key_at key)

pub layers_listed : (rows : List (List (List ℕ))) (key : AlsoKey) → layers_of (values_for rows) key ≡ layers_for rows key
layers_listed rows also.Metal = refl
layers_listed rows also.Fill = refl
layers_listed rows also.Keep = refl

-- an accepted file: no record breaks a rule, no key is missing, the values are those of the records, and they fit one another
pub record Accepted (file : List ℕ) (values : Values) : Type 0 where
  pub sound : first_some (each_fault record_fault [] (rows_of file)) ≡ None
  pub all : (key : Key) → IsRequired key → is_some (word_for key (rows_of file)) ≡ true
  pub paired : first_some (keep_faults (rows_of file)) ≡ None
  pub same : values_for (rows_of file) ≡ values
  pub joint : first_some (joint_faults values) ≡ None

pub accepted : (file : List ℕ) (values : Values) → rules_of file ≡ Ok values → Accepted file values
unfolding rules_of
accepted file values e =
    let rows = rows_of file in
    let (none, same) = not_refused (first_some (rule_faults rows)) (values_for rows) values e in
    let (front, joint) = none_in_both (each_fault record_fault [] rows ++ key_faults rows) (joint_faults (values_for rows)) none in
    let (sound, keys) = none_in_both (each_fault record_fault [] rows) (key_faults rows) front in
    let (all, paired) = none_in_both (map (missing rows) required_keys) (keep_faults rows) keys in
    record { sound = sound; all = λ key is. unless_holds _ _ (key_there (missing rows) all key is); paired = paired; same = same; joint = subst (λ (v : Values). first_some (joint_faults v) ≡ None) same joint }

-- the record of a key
pub stands : (rows : List (List (List ℕ))) (key : Key) → first_some (each_fault record_fault [] rows) ≡ None → is_some (word_for key rows) ≡ true
    → (fields : List (List ℕ)) × (find (λ r. bytes_eq (get_or r 0 []) (key_name key)) rows ≡ Some fields)
    × (fields ≡ key_name key ∷ get_or fields 1 [] ∷ []) × (line : ℕ) × (value_fault line key (get_or fields 1 []) ≡ None)
stands rows key sound there = by (find (λ r. bytes_eq (get_or r 0 []) (key_name key)) rows) refl there
  where
    by : (o : Option (List (List ℕ))) → find (λ r. bytes_eq (get_or r 0 []) (key_name key)) rows ≡ o → is_some (option_map (λ (r : List (List ℕ)). get_or r 1 []) o) ≡ true
        → (fields : List (List ℕ)) × (find (λ r. bytes_eq (get_or r 0 []) (key_name key)) rows ≡ Some fields)
        × (fields ≡ key_name key ∷ get_or fields 1 [] ∷ []) × (line : ℕ) × (value_fault line key (get_or fields 1 []) ≡ None)
    by None found e = cc e
    by (Some fields) found e =
        let name : get_or fields 0 [] ≡ key_name key = (bytes_eq-Decides (get_or fields 0 []) (key_name key)).0 (found_passes (λ r. bytes_eq (get_or r 0 []) (key_name key)) rows fields found) in
        let (earlier, good) = found_sound record_fault (λ r. bytes_eq (get_or r 0 []) (key_name key)) [] rows fields sound found in
        let (k, named, two, fresh, fits) = sound_record earlier fields good in
        let one : Some k ≡ Some key = sym named ∙ ap key_named name ∙ each_named key in
        let same : k ≡ key = cc one in
        (fields, found, two_fields fields two ∙ ap (λ (w : List ℕ). w ∷ get_or fields 1 [] ∷ []) name, length earlier + 1, rw same at fits)
