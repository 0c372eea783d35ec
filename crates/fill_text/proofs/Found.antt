-- One number more of those that were found, or the first that is missing.
use Rattle.std.proofs.Common.{◌≡◌, ◌∙◌, ℕ, ◌+◌, ◌<◌, ◌≤◌, List, [], ◌∷◌, ◌++◌, ℤ, Option, Some, None, suc, Result, Ok, Err, length, get_or, take, drop, set, append_assoc, ap, refl, sym, add-one}
use Rattle.std.proofs.Math.Seq.{drop-cons, take-suc-set}
use Rattle.std.proofs.lemmas.List.{append-nil, drop_all, take_all}
use Rattle.fill_text.specs.steps.Entries.{all_numbers, with_front}
use Rattle.fill_text.specs.declared.keys.Key.TheVariants.{Number}
use Rattle.fill_text.specs.declared.keys.NumberKey.{NumberKey}
use Rattle.fill_text.specs.declared.keys.NumberKey.TheVariants.{FrameX1}
use Rattle.fill_text.specs.declared.rule_error.RuleError.{RuleError}
use Rattle.fill_text.specs.declared.rule_error.RuleError.TheVariants.{BadRule}

front_further : (front : List ℤ) (n : ℤ) (rest : Result (List ℤ) RuleError) → with_front front (with_front (n ∷ []) rest) ≡ with_front (front ++ n ∷ []) rest
front_further front n (Ok more) = ap Ok (sym (append_assoc front (n ∷ []) more))
front_further front n (Err e) = refl

pub one_number_more : (whole : Result (List ℤ) RuleError) (keys : List NumberKey) (numbers : List (Option ℤ)) (values : List ℤ) (i : ℕ) (n : ℤ)
    → whole ≡ with_front (take i values) (all_numbers (drop i keys) (drop i numbers))
    → i < length keys → i < length numbers → i < length values → get_or numbers i None ≡ Some n
    → whole ≡ with_front (take (i + 1) (set values i n)) (all_numbers (drop (i + 1) keys) (drop (i + 1) numbers))
unfolding all_numbers
one_number_more whole keys numbers values i n e in_keys in_numbers in_values this =
    e ∙ rw (drop-cons keys i FrameX1, drop-cons numbers i None, this, add-one, take-suc-set values i n in_values) (front_further (take i values) n (all_numbers (drop (suc i) keys) (drop (suc i) numbers)))

none_of : (o : Option ℤ) → ((n : ℤ) → o ≡ Some n → ⊥) → o ≡ None
none_of None never = refl
none_of (Some n) never = absurd (never n refl)

pub number_missing : (whole : Result (List ℤ) RuleError) (keys : List NumberKey) (numbers : List (Option ℤ)) (values : List ℤ) (i : ℕ)
    → whole ≡ with_front (take i values) (all_numbers (drop i keys) (drop i numbers))
    → i < length keys → i < length numbers → ((n : ℤ) → get_or numbers i None ≡ Some n → ⊥) → whole ≡ Err (BadRule (Number (get_or keys i FrameX1)))
unfolding all_numbers
number_missing whole keys numbers values i e in_keys in_numbers never =
    let this = none_of (get_or numbers i None) never in
    e ∙ rw (drop-cons keys i FrameX1, drop-cons numbers i None, this) refl

pub all_found : (whole : Result (List ℤ) RuleError) (keys : List NumberKey) (numbers : List (Option ℤ)) (values : List ℤ) (i : ℕ)
    → whole ≡ with_front (take i values) (all_numbers (drop i keys) (drop i numbers))
    → length keys ≤ i → length values ≤ i → whole ≡ Ok values
unfolding all_numbers
all_found whole keys numbers values i e last full =
    e ∙ rw (drop_all i keys last, take_all i values full) (ap Ok (append-nil values))
