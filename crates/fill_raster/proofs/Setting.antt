-- One bit of a list of words, set.
use Rattle.std.proofs.Common.{◌≡◌, ℕ, ◌*◌, ◌/◌, ◌%◌, ◌^◌, ◌<◌, arith, ◌∙◌, sym, refl, inl, inr, Bool, true, false, ◌||◌, ◌==◌, List, length, get_or, set, bit_or, w64}
use Rattle.std.proofs.lemmas.Bool.{cases_eq, eq-eqb, ne_eqb}
use Rattle.std.proofs.lemmas.List.{get_or-set_same, get_or-set_other}
use Rattle.std.proofs.lemmas.Nat.{div_below, mod_below, div-add-mod'}
use Rattle.std.proofs.lemmas.Nat.Bits.{bit_at_set_same, bit_at_set_other}
use Rattle.fill_raster.specs.Bits.{has_bit}

or_true : (b : Bool) → b || true ≡ true
or_true true = refl
or_true false = refl

or_false : (b : Bool) → b || false ≡ b
or_false true = refl
or_false false = refl

-- the list with bit k set
abbrev pub with_bit : List ℕ → ℕ → List ℕ
with_bit words k = set words (k / 64) (bit_or (get_or words (k / 64) 0) (1 * 2 ^ (k % 64) % 18446744073709551616))

pub bit_set : (words : List ℕ) (k n : ℕ) → k < 64 * length words → has_bit (with_bit words k) n ≡ has_bit words n || (n == k)
bit_set words k n lt = elim (cases_eq n k) [
  | inl same ↦
      let within : k / 64 < length words = div_below k 64 (length words) (omega arith) (omega (arith, lt)) in
      let word = get_or words (k / 64) 0 in
      rw (same, get_or-set_same words (k / 64) (bit_or word (1 * 2 ^ (k % 64) % 18446744073709551616)) 0 within, bit_at_set_same w64 word (k % 64) (mod_below k 64 (omega arith)), eq-eqb k k refl, or_true (has_bit words k)) refl
  | inr other ↦ rw (ne_eqb n k other, or_false (has_bit words n)) (elim (cases_eq (n / 64) (k / 64)) [
    | inl row ↦
        let within : k / 64 < length words = div_below k 64 (length words) (omega arith) (omega (arith, lt)) in
        let word = get_or words (k / 64) 0 in
        rw (row, get_or-set_same words (k / 64) (bit_or word (1 * 2 ^ (k % 64) % 18446744073709551616)) 0 within, bit_at_set_other w64 word (k % 64) (mod_below k 64 (omega arith)) (n % 64) (λ e. other (whole n k row e))) refl
    | inr row ↦ rw (get_or-set_other words (k / 64) (n / 64) (bit_or (get_or words (k / 64) 0) (1 * 2 ^ (k % 64) % 18446744073709551616)) 0 row) refl
  ])
]
  where
    whole : (n k : ℕ) → n / 64 ≡ k / 64 → n % 64 ≡ k % 64 → n ≡ k
    whole n k q r = sym (div-add-mod' n 64) ∙ (rw (q, r) (div-add-mod' k 64))
