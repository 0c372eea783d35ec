-- The name of each key names that key, and no other.
use Rattle.std.proofs.Common.{◌≡◌, ◌∙◌, ℕ, List, [], ◌∷◌, Bool, true, false, Option, Some, None, ap, sym, refl}
use Rattle.std.specs.Prelude.{bytes_eq, find, if◌then◌else◌}
use Rattle.std.proofs.lemmas.Slice.Eq.{bytes_eq-Decides}
use Rattle.fill_text.specs.Keys.{all_also_keys, all_number_keys, all_optional_keys, all_text_keys, also_name, either_key, key_name, key_named, number_rule, optional_name, text_name}
use Rattle.fill_text.specs.declared.keys.AlsoKey.{AlsoKey}
use Rattle.fill_text.specs.declared.keys.Key.{Key}
use Rattle.fill_text.specs.declared.keys.Key.TheVariants.{Number, Text, Optional, Also, Padding}
use Rattle.fill_text.specs.declared.keys.NumberKey.{NumberKey}
use Rattle.fill_text.specs.declared.keys.OptionalKey.{OptionalKey}
use Rattle.fill_text.specs.declared.keys.TextKey.{TextKey}
use Rattle.fill_text.proofs.KeyNames.{each_named}

some_same : {X : Type 0} (x y : X) → Some x ≡ Some y → x ≡ y
some_same x y e = cc e

-- what `find` finds passes the test
pub found_passes : {X : Type 0} (p : X → Bool) (xs : List X) (x : X) → find p xs ≡ Some x → p x ≡ true
found_passes p [] x e = cc e
found_passes p (y ∷ xs) x e = by (p y) refl e (found_passes p xs x)
  where
    by : (b : Bool) → p y ≡ b → (if b then Some y else find p xs) ≡ Some x → (find p xs ≡ Some x → p x ≡ true) → p x ≡ true
    by true t e later = let same : y ≡ x = cc e in rw (← same) t
    by false t e later = later e

pub named_by : (word : List ℕ) (key : Key) → key_named word ≡ Some key → word ≡ key_name key
named_by word key e = by (find (λ k. bytes_eq word (number_rule k).name) all_number_keys) refl (find (λ k. bytes_eq word (text_name k)) all_text_keys) refl (find (λ k. bytes_eq word (optional_name k)) all_optional_keys) refl (find (λ k. bytes_eq word (also_name k)) all_also_keys) refl (bytes_eq word (key_name Padding)) refl e
  where
    by : (n : Option NumberKey) → find (λ k. bytes_eq word (number_rule k).name) all_number_keys ≡ n
        → (t : Option TextKey) → find (λ k. bytes_eq word (text_name k)) all_text_keys ≡ t
        → (o : Option OptionalKey) → find (λ k. bytes_eq word (optional_name k)) all_optional_keys ≡ o
        → (a : Option AlsoKey) → find (λ k. bytes_eq word (also_name k)) all_also_keys ≡ a
        → (b : Bool) → bytes_eq word (key_name Padding) ≡ b → either_key n t o a b ≡ Some key → word ≡ key_name key
    by (Some k) en t et o eo a ea b eb e =
        let same : Number k ≡ key = cc e in
        rw (← same) ((bytes_eq-Decides word (number_rule k).name).0 (found_passes (λ k. bytes_eq word (number_rule k).name) all_number_keys k en))
    by None en (Some k) et o eo a ea b eb e =
        let same : Text k ≡ key = cc e in
        rw (← same) ((bytes_eq-Decides word (text_name k)).0 (found_passes (λ k. bytes_eq word (text_name k)) all_text_keys k et))
    by None en None et (Some k) eo a ea b eb e =
        let same : Optional k ≡ key = cc e in
        rw (← same) ((bytes_eq-Decides word (optional_name k)).0 (found_passes (λ k. bytes_eq word (optional_name k)) all_optional_keys k eo))
    by None en None et None eo (Some k) ea b eb e =
        let same : Also k ≡ key = cc e in
        rw (← same) ((bytes_eq-Decides word (also_name k)).0 (found_passes (λ k. bytes_eq word (also_name k)) all_also_keys k ea))
    by None en None et None eo None ea true eb e =
        let same : Padding ≡ key = cc e in
        rw (← same) ((bytes_eq-Decides word (key_name Padding)).0 eb)
    by None en None et None eo None ea false eb e = cc e

pub its_name : (word : List ℕ) (key : Key) → key_named word ≡ Some key → bytes_eq word (key_name key) ≡ true
its_name word key named = (bytes_eq-Decides word (key_name key)).1 (named_by word key named)

pub same_key : (word : List ℕ) (key other : Key) → key_named word ≡ Some key → bytes_eq word (key_name other) ≡ true → other ≡ key
same_key word key other named test =
    let name : word ≡ key_name other = (bytes_eq-Decides word (key_name other)).0 test in
    some_same other key (sym (each_named other) ∙ ap key_named (sym name) ∙ named)

pub another_name : (word : List ℕ) (key other : Key) → key_named word ≡ Some key → (other ≡ key → ⊥) → bytes_eq word (key_name other) ≡ false
another_name word key other named differs = by (bytes_eq word (key_name other)) (same_key word key other named)
  where
    by : (b : Bool) → (b ≡ true → other ≡ key) → b ≡ false
    by true same = absurd (differs (same refl))
    by false same = refl
