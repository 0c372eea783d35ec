-- Numbers of which more and more have moved.
use Rattle.std.proofs.Common.{◌%◌, ◌/◌, ◌^◌, ◌≡◌, refl, sym, ap, ◌∙◌, ℕ, ◌+◌, ◌*◌, ◌≤◌, ◌<◌, ℤ, pos, ◌≤ℤ◌, inl, inr, arith, List, length, set, Bool, true, false, ◌&&◌, ◌||◌, ◌==◌, w64, FitsSigned}
use Rattle.std.proofs.lemmas.Bool.{and_parts, cases_Bool, eqb-true}
use Rattle.std.proofs.lemmas.Bool.Decides.{nat_tests}
use Rattle.std.proofs.lemmas.Int.{ints}
use Rattle.std.proofs.lemmas.List.{get_or-set_same, get_or-set_other, length-set}
use Rattle.std.proofs.lemmas.Nat.{mul-add-lt, div-mul-add, mod-mul-add}
use Rattle.fill_base.proofs.Signed.{read, read_is}
use Rattle.fill_area.specs.Density.{IsArea, window_area}
use Rattle.fill_area.specs.Grid.{Grid, IsGrid}
use Rattle.fill_area.specs.Sharing.{IsWindow}
use Rattle.fill_area.proofs.Axes.{size_area}
use Rattle.fill_sums.specs.declared.moving.Way.{Way}
use Rattle.fill_sums.specs.declared.moving.Way.TheVariants.{Up, Down}
use Rattle.fill_sums.specs.Numbers.{in_range, moved, number_at, window_size}
use Rattle.fill_sums.specs.steps.Moving.{CanMove, IsMovedAt}

-- ---- places of windows

-- two windows at one place of the list are one
pub record IsSameWindow (a b c d : ℕ) : Type 0 where
  pub column : a ≡ c
  pub row : b ≡ d

pub same_window : (n a b c d : ℕ) → a < n → c < n → b * n + a ≡ d * n + c → IsSameWindow a b c d
same_window n a b c d al cl e = record {
  column = sym (mod-mul-add b n a al) ∙ (ap (λ k. k % n) e ∙ mod-mul-add d n c cl);
  row = sym (div-mul-add b n a al) ∙ (ap (λ k. k / n) e ∙ div-mul-add d n c cl);
}

pub place_in : (g : Grid) (numbers : List ℤ) (a b : ℕ) → IsWindow g a b → length numbers ≡ g.across.count * g.up.count → b * g.across.count + a < length numbers
place_in g numbers a b is count = rw count (mul-add-lt b g.across.count a g.up.count is.1 is.0)

-- ---- one number

-- the numbers before and after are areas
pub size_most : (g : Grid) → IsGrid g → IsArea (window_size g)
size_most g is = size_area g.across.length g.up.length is.across.length_is is.up.length_is

pub is_area : (n size : ℤ) → IsArea size → pos 0 ≤ℤ n → n ≤ℤ size → IsArea n
is_area n size is low high = record { least = low; most = le_le n size _ high is.most }
  where
    le_le : (a b c : ℤ) → a ≤ℤ b → b ≤ℤ c → a ≤ℤ c
    le_le a b c h k = omega (arith, ints)

pub area_fits : (n : ℤ) → IsArea n → FitsSigned w64 n
area_fits n is = let low : pos 0 ≤ℤ n = is.least in let high : n ≤ℤ pos (2 ^ 40) = is.most in omega (arith, ints)

pub read_area : (n : ℤ) → IsArea n → IsArea (read n)
read_area n is = rw (read_is n (area_fits n is)) is

-- what comes or goes is no more than the window
pub can_area : (way : Way) (p : ℤ → ℤ → Bool) (g : Grid) (numbers : List ℤ) (a b : ℕ) → IsGrid g → CanMove way p g numbers a b → IsArea (pos (window_area p g a b))
can_area way p g numbers a b grid can = is_area _ _ (size_most g grid) (none (window_area p g a b)) (part way (number_at g numbers a b) (window_area p g a b) (window_size g) can.least can.most can.stays_least can.stays_most)
  where
    none : (n : ℕ) → pos 0 ≤ℤ pos n
    none n = omega (arith, ints)

    part : (way : Way) (n : ℤ) (area : ℕ) (size : ℤ) → pos 0 ≤ℤ n → n ≤ℤ size → pos 0 ≤ℤ moved way n area → moved way n area ≤ℤ size → pos area ≤ℤ size
    part Up n area size low high least most = omega (arith, ints)
    part Down n area size low high least most = omega (arith, ints)

-- ---- what has moved

pub moved_none : (done : ℕ → ℕ → Bool) (way : Way) (p : ℤ → ℤ → Bool) (g : Grid) (numbers : List ℤ) → ((a b : ℕ) → done a b ≡ false) → IsMovedAt done way p g numbers numbers
moved_none done way p g numbers none = record { count = refl; each = λ a b is. rw (none a b) refl }

-- some windows after others
pub moved_then : (d e f : ℕ → ℕ → Bool) (way : Way) (p : ℤ → ℤ → Bool) (g : Grid) (old mid new : List ℤ) → IsMovedAt d way p g old mid → IsMovedAt e way p g mid new
    → ((a b : ℕ) → f a b ≡ d a b || e a b) → ((a b : ℕ) → e a b ≡ true → d a b ≡ false) → IsMovedAt f way p g old new
moved_then d e f way p g old mid new first second both apart = record {
  count = second.count ∙ first.count;
  each = λ a b is. elim (cases_Bool (e a b)) [
    | inl now ↦
        let before : number_at g mid a b ≡ number_at g old a b = first.each a b is ∙ rw (apart a b now) refl in
        second.each a b is ∙ rw (now, before, both a b, apart a b now, now) refl
    | inr other ↦ second.each a b is ∙ rw (other, both a b, or_no (d a b) (e a b) other) (first.each a b is)
  ];
}
  where
    or_no : (x y : Bool) → y ≡ false → x || y ≡ x
    or_no true y h = refl
    or_no false y h = h

-- what may still move
pub still_moves : (done : ℕ → ℕ → Bool) (way : Way) (p : ℤ → ℤ → Bool) (g : Grid) (old new : List ℤ) (a b : ℕ) → IsWindow g a b → IsMovedAt done way p g old new → done a b ≡ false → CanMove way p g old a b → CanMove way p g new a b
still_moves done way p g old new a b is at out can =
    let same : number_at g new a b ≡ number_at g old a b = at.each a b is ∙ rw out refl in
    record { least = rw same can.least; most = rw same can.most; stays_least = rw same can.stays_least; stays_most = rw same can.stays_most }

-- one number is written
pub moved_one : (way : Way) (p : ℤ → ℤ → Bool) (g : Grid) (old : List ℤ) (value : ℤ) (a b : ℕ) → IsWindow g a b → length old ≡ g.across.count * g.up.count
    → value ≡ moved way (number_at g old a b) (window_area p g a b) → IsMovedAt (λ c d. (c == a) && (d == b)) way p g old (set old (b * g.across.count + a) value)
moved_one way p g old value a b is count value_is = record {
  count = length-set old (b * g.across.count + a) value;
  each = λ c d at. elim (cases_Bool ((c == a) && (d == b))) [
    | inl here ↦
        let parts = and_parts (c == a) (d == b) here in
        let column : c ≡ a = eqb-true _ _ parts.0 in let row : d ≡ b = eqb-true _ _ parts.1 in
        rw (here, column, row) (get_or-set_same old (b * g.across.count + a) value (pos 0) (place_in g old a b is count) ∙ value_is)
    | inr other ↦ rw other (get_or-set_other old (b * g.across.count + a) (d * g.across.count + c) value (pos 0) (λ e.
        let same = same_window g.across.count c d a b at.0 is.0 e in
        let yes : (c == a) && (d == b) ≡ true = both c d a b same.column same.row in
        let no : true ≡ false = sym yes ∙ other in cc))
  ];
}
  where
    both : (c d a b : ℕ) → c ≡ a → d ≡ b → (c == a) && (d == b) ≡ true
    both c d a b h k = grind (arith, nat_tests)

-- ---- ranges

pub range_none : (low k : ℕ) → in_range low low k ≡ false
range_none low k = grind (arith, nat_tests)

pub range_more : (low high k : ℕ) → low ≤ high → in_range low (high + 1) k ≡ in_range low high k || (k == high)
range_more low high k le = grind (arith, nat_tests)

pub range_past : (low high k : ℕ) → k ≡ high → in_range low high k ≡ false
range_past low high k e = grind (arith, nat_tests)

pub range_in : (low high k : ℕ) → in_range low high k ≡ true → (low ≤ k) × (k < high)
range_in low high k h = grind (arith, nat_tests)

pub range_is : (low high k : ℕ) → low ≤ k → k < high → in_range low high k ≡ true
range_is low high k h l = grind (arith, nat_tests)

pub row_more : (left right a c d b : ℕ) → left ≤ a → in_range left (a + 1) c && (d == b) ≡ (in_range left a c && (d == b)) || ((c == a) && (d == b))
row_more left right a c d b le = rw (range_more left a c le) (or_and (in_range left a c) (c == a) (d == b))
  where
    or_and : (x y z : Bool) → (x || y) && z ≡ (x && z) || (y && z)
    or_and true true true = refl
    or_and true true false = refl
    or_and true false true = refl
    or_and true false false = refl
    or_and false y z = refl

pub rows_more : (left right bottom b c d : ℕ) → bottom ≤ b → in_range left right c && in_range bottom (b + 1) d ≡ (in_range left right c && in_range bottom b d) || (in_range left right c && (d == b))
rows_more left right bottom b c d le = rw (range_more bottom b d le) (and_or (in_range left right c) (in_range bottom b d) (d == b))
  where
    and_or : (x y z : Bool) → x && (y || z) ≡ (x && y) || (x && z)
    and_or true y z = refl
    and_or false y z = refl

-- ---- what the loops pass

pub moved_same : (d e : ℕ → ℕ → Bool) (way : Way) (p : ℤ → ℤ → Bool) (g : Grid) (old new : List ℤ) → ((a b : ℕ) → e a b ≡ d a b) → IsMovedAt d way p g old new → IsMovedAt e way p g old new
moved_same d e way p g old new same is = record { count = is.count; each = λ a b window. is.each a b window ∙ rw (same a b) refl }

pub none_first : (low k : ℕ) (b : Bool) → in_range low low k && b ≡ false
none_first low k b = rw (range_none low k) refl

and_no : (b : Bool) → b && false ≡ false
and_no true = refl
and_no false = refl

pub none_first_row : (low k : ℕ) (b : Bool) → b && in_range low low k ≡ false
none_first_row low k b = rw (range_none low k) (and_no b)

pub row_out : (low a b c : ℕ) → in_range low a a && (b == c) ≡ false
row_out low a b c = rw (range_past low a a refl) refl

pub rows_out : (low b : ℕ) (x : Bool) → x && in_range low b b ≡ false
rows_out low b x = rw (range_past low b b refl) (and_no x)

pub one_is_next : (left a b d e : ℕ) → (d == a) && (e == b) ≡ true → in_range left a d && (e == b) ≡ false
one_is_next left a b d e h = rw (range_past left a d (eqb-true _ _ (and_parts (d == a) (e == b) h).0)) refl

pub row_is_next : (left right bottom b d e : ℕ) → in_range left right d && (e == b) ≡ true → in_range left right d && in_range bottom b e ≡ false
row_is_next left right bottom b d e h = rw (range_past bottom b e (eqb-true _ _ (and_parts (in_range left right d) (e == b) h).1)) (and_no (in_range left right d))

same_end : (high a : ℕ) → a ≤ high → high ≤ a → a ≡ high
same_end high a le ge = omega (arith, le, ge)

pub range_ends : (low a high k : ℕ) (b : Bool) → a ≤ high → high ≤ a → in_range low high k && b ≡ in_range low a k && b
range_ends low a high k b le ge = rw (same_end high a le ge) refl

pub range_ends_row : (low a high k : ℕ) (b : Bool) → a ≤ high → high ≤ a → b && in_range low high k ≡ b && in_range low a k
range_ends_row low a high k b le ge = rw (same_end high a le ge) refl

-- ---- neighbouring ranges

range_joins : (low mid high k : ℕ) → low ≤ mid → mid ≤ high → in_range low high k ≡ in_range low mid k || in_range mid high k
range_joins low mid high k h l = grind (arith, nat_tests)

range_apart : (low mid high k : ℕ) → in_range mid high k ≡ true → in_range low mid k ≡ false
range_apart low mid high k h = grind (arith, nat_tests)

pub row_joins : (low mid high c d b : ℕ) → low ≤ mid → mid ≤ high → in_range low high c && (d == b) ≡ (in_range low mid c && (d == b)) || (in_range mid high c && (d == b))
row_joins low mid high c d b h l = rw (range_joins low mid high c h l) (or_and (in_range low mid c) (in_range mid high c) (d == b))
  where
    or_and : (x y z : Bool) → (x || y) && z ≡ (x && z) || (y && z)
    or_and true true true = refl
    or_and true true false = refl
    or_and true false true = refl
    or_and true false false = refl
    or_and false y z = refl

pub row_apart : (low mid high c d b : ℕ) → in_range mid high c && (d == b) ≡ true → in_range low mid c && (d == b) ≡ false
row_apart low mid high c d b h = rw (range_apart low mid high c (and_parts (in_range mid high c) (d == b) h).0) refl

-- the windows of a range and of the next one have moved
pub moved_both : (low mid high b : ℕ) (way : Way) (p : ℤ → ℤ → Bool) (g : Grid) (old new last : List ℤ) → low ≤ mid → mid ≤ high
    → IsMovedAt (λ c d. in_range low mid c && (d == b)) way p g old new → IsMovedAt (λ c d. in_range mid high c && (d == b)) way p g new last
    → IsMovedAt (λ c d. in_range low high c && (d == b)) way p g old last
moved_both low mid high b way p g old new last h l first second =
    moved_then (λ c d. in_range low mid c && (d == b)) (λ c d. in_range mid high c && (d == b)) (λ c d. in_range low high c && (d == b)) way p g old new last first second
    (λ c d. row_joins low mid high c d b h l) (λ c d e. row_apart low mid high c d b e)
