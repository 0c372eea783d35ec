-- Neighbouring numbers that move alike, and the windows of a row that they are of.
use Rattle.std.proofs.Common.{◌≡◌, refl, sym, subst, ◌∙◌, ℕ, ◌+◌, ◌-◌, ◌*◌, ◌≤◌, ◌<◌, ℤ, pos, inl, inr, arith, List, length, set, get_or, Bool, true, false, ◌&&◌, ◌==◌}
use Rattle.std.specs.Prelude.{nat_lt}
use Rattle.std.proofs.lemmas.Bool.{and_parts, cases_Bool, eqb-true}
use Rattle.std.proofs.lemmas.Bool.Decides.{nat_tests}
use Rattle.std.proofs.lemmas.Int.{ints}
use Rattle.std.proofs.lemmas.List.{get_or-set_same, get_or-set_other, length-set}
use Rattle.std.proofs.lemmas.Nat.{mul-le}
use Rattle.fill_area.specs.Density.{IsArea, window_area}
use Rattle.fill_area.specs.Grid.{Grid, IsGrid}
use Rattle.fill_sums.specs.declared.moving.Way.{Way}
use Rattle.fill_sums.specs.Numbers.{in_range, moved}
use Rattle.fill_sums.specs.steps.Moving.{CanMove, IsMovedAt, IsRangeMoved}
use Rattle.fill_sums.proofs.Windowed.{is_area, range_is, range_none, size_most}

-- ---- one number after another

pub range_unmoved : (from : ℕ) (way : Way) (area : ℕ) (numbers : List ℤ) → IsRangeMoved from from way area numbers numbers
range_unmoved from way area numbers = record { count = refl; each = λ k. rw (range_none from k) refl }

-- a number that is ahead is as it was
pub ahead_next : (k j : ℕ) (old mid : List ℤ) (value : ℤ) → k + 1 ≤ j → ((i : ℕ) → k ≤ i → get_or mid i (pos 0) ≡ get_or old i (pos 0)) → get_or (set mid k value) j (pos 0) ≡ get_or old j (pos 0)
ahead_next k j old mid value le so = get_or-set_other mid k j value (pos 0) (λ e. apart k j le e) ∙ so j (less k j le)
  where
    apart : (k j : ℕ) → k + 1 ≤ j → j ≡ k → ⊥
    apart k j h e = omega arith

    less : (k j : ℕ) → k + 1 ≤ j → k ≤ j
    less k j h = omega arith

range_still : (from k j : ℕ) → (j == k) ≡ false → in_range from (k + 1) j ≡ in_range from k j
range_still from k j other = grind (arith, nat_tests)

is_one : (j k : ℕ) → j ≡ k → (j == k) ≡ true
is_one j k e = grind (arith, nat_tests)

pub range_next : (from k : ℕ) (way : Way) (area : ℕ) (old mid : List ℤ) (value : ℤ) → from ≤ k → k < length old → IsRangeMoved from k way area old mid → value ≡ moved way (get_or old k (pos 0)) area
    → IsRangeMoved from (k + 1) way area old (set mid k value)
range_next from k way area old mid value le there so value_is = record {
  count = length-set mid k value ∙ so.count;
  each = λ j. elim (cases_Bool (j == k)) [
    | inl here ↦ rw (eqb-true _ _ here, range_is from (k + 1) k le (next k)) (get_or-set_same mid k value (pos 0) (rw so.count there) ∙ value_is)
    | inr other ↦ rw (range_still from k j other) (get_or-set_other mid k j value (pos 0) (λ e.
        let no : true ≡ false = sym (is_one j k e) ∙ other in cc) ∙ so.each j)
  ];
}
  where
    next : (n : ℕ) → n < n + 1
    next n = omega arith

-- ---- the windows of a row

-- the indices of some windows of row `b` are those from the first one's on and before the last one's
in_row : (n from to b c d : ℕ) → c < n → to ≤ n → in_range (b * n + from) (b * n + to) (d * n + c) ≡ in_range from to c && (d == b)
in_row n from to b c d inside le = elim (cases_Bool (d == b)) [
  | inl here ↦ rw (here, eqb-true _ _ here) (shifted (b * n) from to c ∙ and_yes (in_range from to c))
  | inr other ↦ rw other (elim (cases_Bool (nat_lt d b)) [
    | inl below ↦ before (b * n) from to (d * n + c) (lower n c d b inside (is_below d b below)) ∙ sym (and_no (in_range from to c))
    | inr above ↦ after (b * n) from to (d * n + c) (upper n to c d b le (is_above d b other above)) ∙ sym (and_no (in_range from to c))
  ])
]
  where
    shifted : (m from to c : ℕ) → in_range (m + from) (m + to) (m + c) ≡ in_range from to c
    shifted m from to c = grind (arith, nat_tests)

    before : (m from to k : ℕ) → k < m → in_range (m + from) (m + to) k ≡ false
    before m from to k h = grind (arith, nat_tests)

    after : (m from to k : ℕ) → m + to ≤ k → in_range (m + from) (m + to) k ≡ false
    after m from to k h = grind (arith, nat_tests)

    and_yes : (b : Bool) → b ≡ b && true
    and_yes true = refl
    and_yes false = refl

    and_no : (b : Bool) → b && false ≡ false
    and_no true = refl
    and_no false = refl

    is_below : (d b : ℕ) → nat_lt d b ≡ true → d + 1 ≤ b
    is_below d b h = grind (arith, nat_tests)

    is_above : (d b : ℕ) → (d == b) ≡ false → nat_lt d b ≡ false → b + 1 ≤ d
    is_above d b h k = grind (arith, nat_tests)

    same : (n : ℕ) → n ≤ n
    same n = omega arith

    lower : (n c d b : ℕ) → c < n → d + 1 ≤ b → d * n + c < b * n
    lower n c d b h k = omega (arith, mul-le (d + 1) n b n k (same n), h)

    upper : (n to c d b : ℕ) → to ≤ n → b + 1 ≤ d → b * n + to ≤ d * n + c
    upper n to c d b h k = omega (arith, mul-le (b + 1) n d n k (same n), h)

pub moved_in_row : (way : Way) (p : ℤ → ℤ → Bool) (g : Grid) (old new : List ℤ) (from to b area : ℕ) → to ≤ g.across.count → ((a : ℕ) → in_range from to a ≡ true → window_area p g a b ≡ area)
    → IsRangeMoved (b * g.across.count + from) (b * g.across.count + to) way area old new → IsMovedAt (λ c d. in_range from to c && (d == b)) way p g old new
moved_in_row way p g old new from to b area le alike so = record {
  count = so.count;
  each = λ c d at. so.each (d * g.across.count + c) ∙ rw (in_row g.across.count from to b c d at.0 le) (elim (cases_Bool (in_range from to c && (d == b))) [
    | inl here ↦
        let parts = and_parts (in_range from to c) (d == b) here in
        let row : d ≡ b = eqb-true _ _ parts.1 in
        rw (here, row, alike c parts.0) refl
    | inr other ↦ rw other refl
  ]);
}

-- the numbers of such windows are areas
pub areas_in_row : (way : Way) (p : ℤ → ℤ → Bool) (g : Grid) (numbers : List ℤ) (from to b k : ℕ) → IsGrid g → ((a : ℕ) → in_range from to a ≡ true → CanMove way p g numbers a b)
    → in_range (b * g.across.count + from) (b * g.across.count + to) k ≡ true → IsArea (get_or numbers k (pos 0))
areas_in_row way p g numbers from to b k grid moves h =
    let can = moves (k - b * g.across.count) (column (b * g.across.count) from to k h) in
    subst (λ (j : ℕ). IsArea (get_or numbers j (pos 0))) (index (b * g.across.count) from to k h) (is_area _ _ (size_most g grid) can.least can.most)
  where
    column : (m from to k : ℕ) → in_range (m + from) (m + to) k ≡ true → in_range from to (k - m) ≡ true
    column m from to k h = grind (arith, nat_tests)

    index : (m from to k : ℕ) → in_range (m + from) (m + to) k ≡ true → m + (k - m) ≡ k
    index m from to k h = grind (arith, nat_tests)

-- one area in all of them
pub one_area : (x y : ℕ) (area : ℤ) → area ≡ pos x → area ≡ pos y → x ≡ y
one_area x y area h k = omega (arith, ints)
