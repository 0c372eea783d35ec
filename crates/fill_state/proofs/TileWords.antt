-- Tiles as bits in words of 64.
use Rattle.std.proofs.Common.{◌≡◌, refl, sym, ap, ◌∙◌, ℕ, zero, suc, ◌+◌, ◌-◌, ◌*◌, ◌/◌, ◌%◌, ◌^◌, ◌≤◌, ◌<◌, arith, inl, inr, List, length, replicate, get_or, bit_and, bit_or, slice_set, Bool, true, false, ◌&&◌, ◌||◌, ◌==◌}
use Rattle.std.specs.Prelude.{find, nat_lt, IsTrue, ◌↔◌}
use Rattle.std.specs.Int.{bit_at}
use Rattle.std.specs.List.{range_with_len}
use Rattle.std.proofs.lemmas.Bool.{and_from, and_parts, cases_lt, eq-eqb, eqb-true}
use Rattle.std.proofs.lemmas.List.{get_or_default, get_or_past, get_or-replicate, length-replicate}
use Rattle.std.proofs.lemmas.List.FromFn.{get_or-map-range_with_len, length-map-range_with_len}
use Rattle.std.proofs.lemmas.Nat.{div-add-mod', div_below, mod_below}
use Rattle.std.proofs.lemmas.Nat.Bits.{bit_at-zero, bit_at_ones, same_from_bits_below, shr_and_one}
use Rattle.fill_raster.proofs.Setting.{bit_set, with_bit}
use Rattle.fill_raster.specs.Bits.{has_bit}
use Rattle.fill_state.specs.Tiles.{bits_of, is_in}
use Rattle.fill_state.specs.steps.Words.{IsFullFrom}
use Rattle.fill_state.proofs.OpenTiles.{passed}

lt_yes : (a b : ℕ) → a < b → nat_lt a b ≡ true
lt_yes a b h = grind (arith, h)

lt_no : (a b : ℕ) → b ≤ a → nat_lt a b ≡ false
lt_no a b h = grind (arith, h)

-- ---- one tile

pub bits_len : (count : ℕ) (words : List ℕ) → length (bits_of count words) ≡ count
bits_len count words = length-map-range_with_len (has_bit words) 0 count

pub in_bits : (count : ℕ) (words : List ℕ) (t : ℕ) → is_in (bits_of count words) t ≡ nat_lt t count && has_bit words t
in_bits count words t = elim (cases_lt t count) [
  | inl below ↦ get_or-map-range_with_len (has_bit words) 0 count t t false below (from_zero t) ∙ rw (lt_yes t count below) refl
  | inr above ↦ get_or_past (bits_of count words) t false (rw (bits_len count words) above) ∙ rw (lt_no t count above) refl
]
  where
    from_zero : (t : ℕ) → 0 + t ≡ t
    from_zero t = omega arith

pub word_below : (t count n : ℕ) → t < count → count ≤ 64 * n → t / 64 < n
word_below t count n lt room = div_below t 64 n (omega arith) (omega (arith, lt, room))

-- a tile's bit, as it is read
pub tile_read : (count : ℕ) (words : List ℕ) (set : List Bool) (t word : ℕ) → bits_of count words ≡ set → t < count → count ≤ 64 * length words → word ≡ get_or words (t / 64) word → (bit_and (word / 2 ^ (t % 64)) 1 == 1) ≡ is_in set t
tile_read count words set t word same lt room is =
    ap (λ b. b == 1) (shr_and_one word (t % 64) ∙ ap (λ w. bit_at w (t % 64)) (is ∙ get_or_default words (t / 64) word 0 (word_below t count (length words) lt room)))
    ∙ (sym (in_bits count words t ∙ rw (lt_yes t count lt) refl) ∙ ap (λ s. is_in s t) same)

pub tile_past : (count : ℕ) (words : List ℕ) (set : List Bool) (t : ℕ) → bits_of count words ≡ set → count ≤ t → nat_lt t count ≡ is_in set t
tile_past count words set t same le = lt_no t count le ∙ (sym (in_bits count words t ∙ rw (lt_no t count le) refl) ∙ ap (λ s. is_in s t) same)

-- ---- no tile, and one more

pub none_in : (count n : ℕ) (words : List ℕ) → words ≡ replicate n 0 → (t : ℕ) → is_in (bits_of count words) t ≡ false
none_in count n words is t = in_bits count words t ∙ rw is (none t)
  where
    no_bit : (t : ℕ) → has_bit (replicate n zero) t ≡ false
    no_bit t = elim (cases_lt (t / 64) n) [
      | inl below ↦ rw (get_or-replicate n (t / 64) zero 0 below, bit_at-zero (t % 64)) refl
      | inr above ↦ rw (get_or_past (replicate n zero) (t / 64) 0 (rw (length-replicate n zero) above), bit_at-zero (t % 64)) refl
    ]

    none : (t : ℕ) → nat_lt t count && has_bit (replicate n zero) t ≡ false
    none t = rw (no_bit t) (no_more (nat_lt t count))
      where
        no_more : (b : Bool) → b && false ≡ false
        no_more true = refl
        no_more false = refl

pub one_in : (count : ℕ) (words : List ℕ) (tile : ℕ) → tile < count → count ≤ 64 * length words → (t : ℕ) → is_in (bits_of count (with_bit words tile)) t ≡ is_in (bits_of count words) t || (t == tile)
one_in count words tile lt room t =
    in_bits count (with_bit words tile) t ∙ (ap (λ b. nat_lt t count && b) (bit_set words tile t (below tile count (length words) lt room))
    ∙ (also (nat_lt t count) (has_bit words t) (t == tile) (λ e. lt_yes t count (at (eqb-true t tile e))) ∙ ap (λ b. b || (t == tile)) (sym (in_bits count words t))))
  where
    below : (tile count n : ℕ) → tile < count → count ≤ 64 * n → tile < 64 * n
    below tile count n lt room = omega (arith, lt, room)

    at : t ≡ tile → t < count
    at e = rw e lt

    also : (n h e : Bool) → (e ≡ true → n ≡ true) → n && (h || e) ≡ (n && h) || e
    also true h e is = refl
    also false h true is = is refl
    also false h false is = refl

pub tile_below : (count : ℕ) (words : List ℕ) (set : List Bool) (tile : ℕ) → bits_of count words ≡ set → tile < length set → tile < count
tile_below count words set tile same lt = rw (← same, bits_len count words) at lt

pub tile_put : (count : ℕ) (words : List ℕ) (set : List Bool) (tile word : ℕ) → bits_of count words ≡ set → tile < length set → count ≤ 64 * length words → word ≡ get_or words (tile / 64) word
    → (t : ℕ) → is_in (bits_of count (slice_set words (tile / 64) (bit_or word (1 * 2 ^ (tile % 64) % 18446744073709551616)))) t ≡ is_in set t || (t == tile)
tile_put count words set tile word same lt room is t =
    let below : tile < count = tile_below count words set tile same lt in
    let word_is : word ≡ get_or words (tile / 64) 0 = is ∙ get_or_default words (tile / 64) word 0 (word_below tile count (length words) below room) in
    rw (word_is, ← same) (one_in count words tile below room t)

-- ---- a word of tiles

full_bits : (word t : ℕ) → word ≡ 18446744073709551615 → (bit_at word (t % 64) == 1) ≡ true
full_bits word t is = rw (is, bit_at_ones 64 (t % 64) (mod_below t 64 (omega arith))) refl

same_word : (tile t : ℕ) → tile % 64 ≡ 0 → tile ≤ t → t < tile + 64 → t / 64 ≡ tile / 64
same_word tile t first low high =
    let d = div-add-mod' tile 64 in let e = div-add-mod' t 64 in let r : t % 64 < 64 = mod_below t 64 (omega arith) in
    omega (arith, first, low, high, d, e, r)

pub full_from : (count : ℕ) (words : List ℕ) (tile : ℕ) → tile % 64 ≡ 0 → tile / 64 < count / 64 → get_or words (tile / 64) 0 ≡ 18446744073709551615 → IsFullFrom (bits_of count words) tile
full_from count words tile first below is = record {
  first = first;
  room = rw (bits_len count words) room;
  full = λ t low high. in_bits count words t ∙ rw (lt_yes t count (within t high), same_word tile t first low high) (full_bits (get_or words (tile / 64) 0) t is);
}
  where
    room : tile + 64 ≤ count
    room = omega (arith, first, below)

    within : (t : ℕ) → t < tile + 64 → t < count
    within t high = let r = room in omega (arith, r, high)

pub full_word : (count : ℕ) (words : List ℕ) (tile : ℕ) → get_or words (tile / 64) 0 < 2 ^ 64 → IsFullFrom (bits_of count words) tile → (tile / 64 < count / 64) × (get_or words (tile / 64) 0 ≡ 18446744073709551615)
full_word count words tile small is = (room is.first (rw (bits_len count words) at is.room), same_from_bits_below 64 (get_or words (tile / 64) 0) 18446744073709551615 small (omega arith) bit)
  where
    room : tile % 64 ≡ 0 → tile + 64 ≤ count → tile / 64 < count / 64
    room first le = omega (arith, first, le)

    both_true : (a b : Bool) → a && b ≡ true → b ≡ true
    both_true true b h = h
    both_true false b h = absurd (let f : false ≡ true = h in cc)

    bit : (i : ℕ) → i < 64 → bit_at (get_or words (tile / 64) 0) i ≡ bit_at 18446744073709551615 i
    bit i lt =
        let t = tile + i in
        let on = both_true (nat_lt t count) (has_bit words t) (sym (in_bits count words t) ∙ is.full t (omega arith) (omega (arith, lt))) in
        let word : t / 64 ≡ tile / 64 = same_word tile t is.first (omega arith) (omega (arith, lt)) in
        let place : t % 64 ≡ i = let d = div-add-mod' tile 64 in let e = div-add-mod' t 64 in let f = is.first in omega (arith, d, e, f, word, lt) in
        eqb-true _ _ (rw (word, place) at on) ∙ sym (bit_at_ones 64 i lt)

-- whether a word is full, as it is tested
begins : (tile count : ℕ) → (tile % 64 == 0) && nat_lt (tile / 64) (count / 64) ≡ true → (tile % 64 ≡ 0) × (tile / 64 < count / 64)
begins tile count h = let p = and_parts (tile % 64 == 0) (nat_lt (tile / 64) (count / 64)) h in (eqb-true (tile % 64) 0 p.0, yes_lt (tile / 64) (count / 64) p.1)
  where
    yes_lt : (a b : ℕ) → nat_lt a b ≡ true → a < b
    yes_lt a b h = grind (arith, h)

pub word_tested : (count : ℕ) (words : List ℕ) (set : List Bool) (tile word : ℕ) → bits_of count words ≡ set → count ≤ 64 * length words → (tile % 64 == 0) && nat_lt (tile / 64) (count / 64) ≡ true → word ≡ get_or words (tile / 64) word → word < 2 ^ 64
    → IsTrue (word == 18446744073709551615) ↔ IsFullFrom set tile
word_tested count words set tile word same room test is small =
    let at = begins tile count test in
    let below : tile / 64 < length words = within at.1 in
    let word_is : word ≡ get_or words (tile / 64) 0 = is ∙ get_or_default words (tile / 64) word 0 below in
    rw (← same) (
      (λ h. full_from count words tile at.0 at.1 (sym word_is ∙ eqb-true word 18446744073709551615 h)),
      (λ full. eq-eqb word 18446744073709551615 (word_is ∙ (full_word count words tile (rw word_is at small) full).1)),
    )
  where
    within : tile / 64 < count / 64 → tile / 64 < length words
    within lt = omega (arith, lt, room)

pub word_passed : (count : ℕ) (words : List ℕ) (set : List Bool) (tile : ℕ) → bits_of count words ≡ set → (tile % 64 == 0) && nat_lt (tile / 64) (count / 64) ≡ false → IsTrue ((tile % 64 == 0) && nat_lt (tile / 64) (count / 64)) ↔ IsFullFrom set tile
word_passed count words set tile same test = (
  (λ h. absurd (let f : true ≡ false = sym h ∙ test in cc)),
  (λ full. and_from _ _ (eq-eqb (tile % 64) 0 full.first) (lt_yes (tile / 64) (count / 64) (room full.first (rw (← same, bits_len count words) at full.room)))),
)
  where
    room : tile % 64 ≡ 0 → tile + 64 ≤ count → tile / 64 < count / 64
    room first le = omega (arith, first, le)

-- ---- the search passes by many

past_all : (p : ℕ → Bool) (i past : ℕ) → past ≤ i → find p (range_with_len i (past - i)) ≡ find p (range_with_len (i + 1) (past - (i + 1)))
past_all p i past le =
    let a : past - i ≡ 0 = omega (arith, le) in let b : past - (i + 1) ≡ 0 = omega (arith, le) in
    rw (a, b) refl

pub passed_many : (p : ℕ → Bool) (i n past : ℕ) → ((t : ℕ) → i ≤ t → t < i + n → p t ≡ false) → find p (range_with_len i (past - i)) ≡ find p (range_with_len (i + n) (past - (i + n)))
passed_many p i zero past none = let e : i + zero ≡ i = omega arith in rw e refl
passed_many p i (suc n) past none =
    let e : i + suc n ≡ (i + n) + 1 = omega arith in
    rw e (passed_many p i n past (λ t low high. none t low (omega (arith, high))) ∙ step (none (i + n) (omega arith) (omega arith)))
  where
    step : p (i + n) ≡ false → find p (range_with_len (i + n) (past - (i + n))) ≡ find p (range_with_len ((i + n) + 1) (past - ((i + n) + 1)))
    step off = elim (cases_lt (i + n) past) [
      | inl lt ↦ passed p (i + n) past lt off
      | inr le ↦ past_all p (i + n) past le
    ]
