-- One bit of a list of words, and one mark, taken off.
use Rattle.std.proofs.Common.{◌≡◌, ℕ, ◌+◌, ◌-◌, ◌*◌, ◌/◌, ◌%◌, ◌^◌, ◌≤◌, ◌<◌, ℤ, arith, ◌∙◌, sym, refl, inl, inr, Bool, true, false, not, ◌&&◌, ◌||◌, ◌==◌, List, length, get_or, set, bit_and, w64}
use Rattle.std.specs.Ordering.{int_eq}
use Rattle.std.proofs.lemmas.Bool.{cases_Bool, cases_eq, eq-eqb, ne_eqb, eqb-true}
use Rattle.std.proofs.lemmas.List.{get_or-set_same, get_or-set_other}
use Rattle.std.proofs.lemmas.Nat.{div_below, mod_below, div-add-mod'}
use Rattle.std.proofs.lemmas.Nat.Bits.{bit_at_clear_same, bit_at_clear_other}
use Rattle.fill_raster.specs.Bits.{has_bit}
use Rattle.fill_raster.specs.Marks.{in_block, is_marked, count_marked, index_in, AreMarks}
use Rattle.fill_raster.specs.declared.block.Block.{Block}
use Rattle.fill_raster.proofs.Marking.{InBlock, place_in, int_both, marked_more}
use Rattle.fill_raster.proofs.Points.{area_more, and_no, or_no}

and_yes : (b : Bool) → b && true ≡ b
and_yes true = refl
and_yes false = refl

-- the list with bit k taken off
abbrev pub without_bit : List ℕ → ℕ → List ℕ
without_bit words k = set words (k / 64) (bit_and (get_or words (k / 64) 0) (18446744073709551615 - 1 * 2 ^ (k % 64) % 18446744073709551616))

pub bit_cleared : (words : List ℕ) (k n : ℕ) → k < 64 * length words → has_bit (without_bit words k) n ≡ has_bit words n && not (n == k)
bit_cleared words k n lt = elim (cases_eq n k) [
  | inl same ↦
      let within : k / 64 < length words = div_below k 64 (length words) (omega arith) (omega (arith, lt)) in
      let word = get_or words (k / 64) 0 in
      rw (same, get_or-set_same words (k / 64) (bit_and word (18446744073709551615 - 1 * 2 ^ (k % 64) % 18446744073709551616)) 0 within, bit_at_clear_same w64 word (k % 64) (mod_below k 64 (omega arith)), eq-eqb k k refl, and_no (has_bit words k)) refl
  | inr other ↦ rw (ne_eqb n k other, and_yes (has_bit words n)) (elim (cases_eq (n / 64) (k / 64)) [
    | inl row ↦
        let within : k / 64 < length words = div_below k 64 (length words) (omega arith) (omega (arith, lt)) in
        let word = get_or words (k / 64) 0 in
        rw (
          row,
          get_or-set_same words (k / 64) (bit_and word (18446744073709551615 - 1 * 2 ^ (k % 64) % 18446744073709551616)) 0 within,
          bit_at_clear_other w64 word (k % 64) (mod_below k 64 (omega arith)) (n % 64) (mod_below n 64 (omega arith)) (λ e. other (whole n k row e)),
        ) refl
    | inr row ↦ rw (get_or-set_other words (k / 64) (n / 64) (bit_and (get_or words (k / 64) 0) (18446744073709551615 - 1 * 2 ^ (k % 64) % 18446744073709551616)) 0 row) refl
  ])
]
  where
    whole : (n k : ℕ) → n / 64 ≡ k / 64 → n % 64 ≡ k % 64 → n ≡ k
    whole n k q r = sym (div-add-mod' n 64) ∙ (rw (q, r) (div-add-mod' k 64))

-- ---- marks

-- with the bit set again, the list has the bits that it had
bits_again : (words new : List ℕ) (k : ℕ) → ((n : ℕ) → has_bit new n ≡ has_bit words n && not (n == k)) → has_bit words k ≡ true → (n : ℕ) → has_bit words n ≡ has_bit new n || (n == k)
bits_again words new k bits on n = elim (cases_Bool (n == k)) [
  | inl same ↦ rw (eqb-true n k same, eq-eqb k k refl, or_yes (has_bit new k)) on
  | inr other ↦ rw (bits n, other, and_yes (has_bit words n)) (sym (or_no (has_bit words n)))
]
  where
    or_yes : (b : Bool) → b || true ≡ true
    or_yes true = refl
    or_yes false = refl

pub marks_less : (b : Block) (words new : List ℕ) (count : ℕ) (i j : ℤ) (k : ℕ) → AreMarks (record { block = b; bits = words }) count → in_block b i j ≡ true → k ≡ index_in b i j
    → ((n : ℕ) → has_bit new n ≡ has_bit words n && not (n == k)) → length new ≡ length words → has_bit words k ≡ true → (1 ≤ count) × AreMarks (record { block = b; bits = new }) (count - 1)
marks_less b words new count i j k are inside k_is bits len on =
    let at : InBlock b i j = place_in b i j inside in
    let off : has_bit new k ≡ false = rw (bits k, on, eq-eqb k k refl) refl in
    let more = area_more (is_marked (record { block = b; bits = new })) (is_marked (record { block = b; bits = words })) b.left b.bottom b.right b.top i j at.left at.right at.bottom at.top
    (marked_more b new words i j k inside k_is (bits_again words new k bits on)) (rw (inside, ← k_is) off) in (
      some count (count_marked (record { block = b; bits = new })) (are.counted ∙ more),
      record { block = are.block; room = rw len are.room; counted = less count (count_marked (record { block = b; bits = new })) (are.counted ∙ more) },
    )
  where
    some : (c m : ℕ) → c ≡ m + 1 → 1 ≤ c
    some c m e = omega (arith, e)

    less : (c m : ℕ) → c ≡ m + 1 → c - 1 ≡ m
    less c m e = omega (arith, e)

-- a mark less
pub marked_less : (b : Block) (words new : List ℕ) (i j : ℤ) (k : ℕ) → in_block b i j ≡ true → k ≡ index_in b i j → ((n : ℕ) → has_bit new n ≡ has_bit words n && not (n == k)) → has_bit words k ≡ true
    → (x y : ℤ) → is_marked (record { block = b; bits = new }) x y ≡ is_marked (record { block = b; bits = words }) x y && not (int_eq x i && int_eq y j)
marked_less b words new i j k inside k_is bits on x y = elim (cases_Bool (int_eq x i && int_eq y j)) [
  | inl here ↦ let p = int_both x y i j here in rw (here, p.0, p.1, inside, ← k_is, bits k, on, eq-eqb k k refl) refl
  | inr other ↦ rw other (elsewhere (is_marked (record { block = b; bits = new }) x y) (is_marked (record { block = b; bits = words }) x y) (rw other at (marked_more b new words i j k inside k_is (bits_again words new k bits on) x y)))
]
  where
    elsewhere : (p q : Bool) → q ≡ p || false → p ≡ q && true
    elsewhere p q e = rw (and_yes q) (sym (or_no p) ∙ sym e)

-- a place without a mark
pub marked_still : (b : Block) (words : List ℕ) (i j : ℤ) (k : ℕ) → in_block b i j ≡ true → k ≡ index_in b i j → has_bit words k ≡ false
    → (x y : ℤ) → is_marked (record { block = b; bits = words }) x y ≡ is_marked (record { block = b; bits = words }) x y && not (int_eq x i && int_eq y j)
marked_still b words i j k inside k_is off x y = elim (cases_Bool (int_eq x i && int_eq y j)) [
  | inl here ↦ let p = int_both x y i j here in rw (here, p.0, p.1, inside, ← k_is, off) refl
  | inr other ↦ rw other (sym (and_yes (is_marked (record { block = b; bits = words }) x y)))
]
