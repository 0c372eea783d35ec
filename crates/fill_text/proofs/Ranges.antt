-- Each number that a rule file gives is in its key's range.
use Rattle.std.proofs.Common.{◌≡◌, ◌⊎◌, ◌<◌, ◌≤ℤ◌, ℕ, zero, suc, ℤ, pos, true, ◌&&◌, List, [], ◌∷◌, length, get_or, set, Option, Some, None, Result, Ok, Err, ap, refl, inl, inr, arith}
use Rattle.std.proofs.lemmas.List.{get_or-replicate}
use Rattle.std.specs.Prelude.{int_le}
use Rattle.std.proofs.lemmas.Int.{ints}
use Rattle.fill_text.specs.Keys.{IsWithin, all_number_keys, number_rule}
use Rattle.fill_text.specs.Rules.{is_in_range, number_in}
use Rattle.fill_text.specs.steps.Entries.{AreRanged, all_numbers, nothing_found, number_found, with_front}
use Rattle.fill_text.specs.declared.keys.NumberKey.{NumberKey}
use Rattle.fill_text.specs.declared.rule_error.RuleError.{RuleError}
use Rattle.fill_text.proofs.KeyNames.{index_below, same_index}

pub in_range_facts : (key : NumberKey) (n : ℤ) → is_in_range key n ≡ true → ((number_rule key).low ≤ℤ n) × (n ≤ℤ (number_rule key).high)
in_range_facts key n test = between (number_rule key).low (number_rule key).high test
  where
    between : (low high : ℤ) → int_le low n && int_le n high ≡ true → (low ≤ℤ n) × (n ≤ℤ high)
    between low high test = (grind (arith, ints), grind (arith, ints))

pub nothing_here : (key : NumberKey) → number_found nothing_found.numbers key ≡ None
nothing_here key = get_or-replicate 28 (number_rule key).index None None (index_below key)

-- a write changes the number at its index alone
get_or_set : {A : Type 0} (numbers : List A) (i j : ℕ) (n other : A)
    → (get_or (set numbers i n) j other ≡ get_or numbers j other) ⊎ ((j ≡ i) × (get_or (set numbers i n) j other ≡ n))
get_or_set [] i j n other = inl refl
get_or_set (m ∷ numbers) zero zero n other = inr (refl, refl)
get_or_set (m ∷ numbers) zero (suc j) n other = inl refl
get_or_set (m ∷ numbers) (suc i) zero n other = inl refl
get_or_set (m ∷ numbers) (suc i) (suc j) n other = elim (get_or_set numbers i j n other) [ inl same ↦ inl same | inr (e, this) ↦ inr (ap suc e, this) ]

pub set_ranged : (numbers : List (Option ℤ)) (key : NumberKey) (n : ℤ) → AreRanged numbers → ((number_rule key).low ≤ℤ n) × (n ≤ℤ (number_rule key).high)
    → AreRanged (set numbers (number_rule key).index (Some n))
set_ranged numbers key n ranged within other = elim (get_or_set numbers (number_rule key).index (number_rule other).index (Some n) None) [
  | inl same ↦ rw same (ranged other)
  | inr (e, this) ↦ rw (this, same_index other key e) within
]

pub set_within : (numbers : List ℤ) (key : NumberKey) (n : ℤ) → ((key : NumberKey) → IsWithin key (number_in numbers key)) → IsWithin key n
    → (other : NumberKey) → IsWithin other (number_in (set numbers (number_rule key).index n) other)
set_within numbers key n ranged within other = elim (get_or_set numbers (number_rule key).index (number_rule other).index n (pos 0)) [
  | inl same ↦ rw same (ranged other)
  | inr (e, this) ↦ rw (this, same_index other key e) within
]

front_ok : (n : ℤ) (rest : Result (List ℤ) RuleError) (values : List ℤ) → with_front (n ∷ []) rest ≡ Ok values
    → (more : List ℤ) × (rest ≡ Ok more) × (n ∷ more ≡ values)
front_ok n (Ok more) values e = (more, refl, cc e)
front_ok n (Err why) values e = cc e

-- the numbers of the keys are those that were found
pub number_kept : (keys : List NumberKey) (numbers : List (Option ℤ)) (values : List ℤ) → all_numbers keys numbers ≡ Ok values
    → (i : ℕ) → i < length keys → get_or numbers i None ≡ Some (get_or values i (pos 0))
unfolding all_numbers
number_kept [] numbers values e i below = absurd (omega arith)
number_kept (key ∷ keys) [] values e i below = cc e
number_kept (key ∷ keys) (None ∷ numbers) values e i below = cc e
number_kept (key ∷ keys) (Some n ∷ numbers) values e zero below =
    let (more, rest, same) = front_ok n (all_numbers keys numbers) values e in
    rw (← same) refl
number_kept (key ∷ keys) (Some n ∷ numbers) values e (suc i) below =
    let (more, rest, same) = front_ok n (all_numbers keys numbers) values e in
    rw (← same) (number_kept keys numbers more rest i (omega arith))

pub values_ranged : (numbers : List (Option ℤ)) (values : List ℤ) → AreRanged numbers → all_numbers all_number_keys numbers ≡ Ok values → (key : NumberKey)
    → ((number_rule key).low ≤ℤ number_in values key) × (number_in values key ≤ℤ (number_rule key).high)
values_ranged numbers values ranged e key =
    let kept : number_found numbers key ≡ Some (number_in values key) = number_kept all_number_keys numbers values e (number_rule key).index (index_below key) in
    rw kept at (ranged key)
