-- Lengths of columns, added to the numbers of a list one after another.
use Rattle.std.proofs.Common.{◌≡◌, ℕ, ◌+◌, ◌*◌, ◌^◌, ◌≤◌, ◌<◌, ℤ, pos, negsuc, ◌+ℤ◌, ◌-ℤ◌, ◌*ℤ◌, ◌≤ℤ◌, List, length, get_or, set, refl, arith, ap, ◌∙◌, w64, FitsSigned, below_more, get_or-set_same, get_or-set_other, length-set}
use Rattle.std.proofs.lemmas.Int.{ints}
use Rattle.std.proofs.lemmas.List.{get_or_default}
use Rattle.fill_base.proofs.Signed.{read, read_is, product_small, pos_fits}
use Rattle.fill_spans.specs.declared.walk.Walk.{Walk}
use Rattle.fill_spans.specs.CountingWalk.{length_at}
use Rattle.fill_spans.specs.EvenColumns.{column_left, AreSums}
use Rattle.fill_spans.proofs.ColumnEnds.{IsWithin, ends}
use Rattle.fill_spans.proofs.ColumnWalks.{column_count, column_short, WalksOn, WalksTo, walks_on, difference}

-- the columns before `a` are added, and the others are still to come
pub record AreAdded (es : List ℤ) (first step width height : ℤ) (old new : List ℤ) (a : ℕ) : Type 0 where
  pub count : length new ≡ length old
  pub done : (k : ℕ) → k < a → (d : ℤ) → k < length old → get_or new k d ≡ get_or old k d +ℤ (height *ℤ pos (column_count es first step width k))
  pub rest : (k : ℕ) (d : ℤ) → a ≤ k → get_or new k d ≡ get_or old k d

pub none_added : (es : List ℤ) (first step width height : ℤ) (sums : List ℤ) → AreAdded es first step width height sums sums 0
none_added es first step width height sums = record {
  count = refl;
  done = λ k lt d within. absurd (omega arith);
  rest = λ k d le. refl;
}

pub one_added : (es : List ℤ) (first step width height : ℤ) (old new : List ℤ) (a : ℕ) (v : ℤ) → a < length old
    → v ≡ get_or old a (pos 0) +ℤ (height *ℤ pos (column_count es first step width a))
    → AreAdded es first step width height old new a → AreAdded es first step width height old (set new a v) (a + 1)
one_added es first step width height old new a v within v_is added =
    let within' : a < length new = rw added.count within in
    record {
      count = length-set new a v ∙ added.count;
      done = below_more _ _
          (λ k lt d inner. let other : k ≡ a → ⊥ = omega arith in get_or-set_other new a k v d other ∙ added.done k lt d inner)
          (λ d inner. get_or-set_same new a v d within' ∙ (v_is ∙ ap (λ z. z +ℤ (height *ℤ pos (column_count es first step width a))) (get_or_default old a (pos 0) d within)));
      rest = λ k d le. let other : k ≡ a → ⊥ = omega arith in get_or-set_other new a k v d other ∙ added.rest k d (omega arith);
    }

-- a sum with another product, as the code adds it
pub record Addition (sum height : ℤ) (n : ℕ) (length : ℤ) : Type 0 where
  pub product_fits : FitsSigned w64 (height *ℤ read length)
  pub sum_fits : FitsSigned w64 (read sum +ℤ read (height *ℤ read length))
  pub is : read (read sum +ℤ read (height *ℤ read length)) ≡ sum +ℤ (height *ℤ pos n)

pub addition : (sum height : ℤ) (n : ℕ) (length : ℤ) → (pos 0 ≤ℤ sum) × (sum ≤ℤ pos (2 ^ 61)) → pos 0 ≤ℤ height → height ≤ℤ pos (2 ^ 31) → n ≤ 2 ^ 31 → length ≡ pos n → Addition sum height n length
addition sum (pos h) n length range least high short is =
    let small : h * n ≤ 2 ^ 62 = product_small h n (high_ℕ h high) short in
    let length_is : read length ≡ pos n = ap read is ∙ read_is (pos n) (pos_fits n (omega (arith, short))) in
    let sum_is : read sum ≡ sum = read_is sum (sum_fits sum range.0 range.1) in
    let product : FitsSigned w64 (pos h *ℤ pos n) = pos_fits (h * n) (omega (arith, small)) in
    let whole : FitsSigned w64 (sum +ℤ (pos h *ℤ pos n)) = whole_fits sum (h * n) range.0 range.1 small in
    record {
      product_fits = rw length_is product;
      sum_fits = rw (length_is, sum_is, read_is _ product) whole;
      is = rw (length_is, sum_is, read_is _ product) (read_is _ whole);
    }
  where
    high_ℕ : (h : ℕ) → pos h ≤ℤ pos (2 ^ 31) → h ≤ 2 ^ 31
    high_ℕ h k = omega (arith, ints)

    sum_fits : (s : ℤ) → pos 0 ≤ℤ s → s ≤ℤ pos (2 ^ 61) → FitsSigned w64 s
    sum_fits s h k = omega (arith, ints)

    whole_fits : (s : ℤ) (m : ℕ) → pos 0 ≤ℤ s → s ≤ℤ pos (2 ^ 61) → m ≤ 2 ^ 62 → FitsSigned w64 (s +ℤ pos m)
    whole_fits s m h k l = omega (arith, ints)
addition sum (negsuc h) n length range least high short is = absurd (omega (arith, ints))

-- a number whose column is still to come is small
pub sum_small : (es : List ℤ) (first step width height : ℤ) (old new : List ℤ) (a : ℕ) → AreSums old → AreAdded es first step width height old new a → a < length old
    → (pos 0 ≤ℤ get_or new a (pos 0)) × (get_or new a (pos 0) ≤ℤ pos (2 ^ 61))
sum_small es first step width height old new a small added within = let least : a ≤ a = omega arith in rw (added.rest a (pos 0) least) (small a (pos 0) within)

pub column_addition : (es : List ℤ) (first step width height : ℤ) (old new : List ℤ) (a : ℕ) (counted : ℤ) → IsWithin first step width a → AreSums old → AreAdded es first step width height old new a → a < length old
    → pos 0 ≤ℤ height → height ≤ℤ pos (2 ^ 31) → counted ≡ pos (column_count es first step width a) → Addition (get_or new a (pos 0)) height (column_count es first step width a) counted
column_addition es first step width height old new a counted within small added lt least most is =
    addition _ _ _ _ (sum_small es first step width height old new a small added lt) least most (column_short es first step width a within) is

-- one column more, as the code adds it
pub record Column (es : List ℤ) (first step width height : ℤ) (old new : List ℤ) (a : ℕ) (behind ahead : Walk) (count_ahead count_behind : ℤ) : Type 0 where
  pub difference_fits : FitsSigned w64 (read count_ahead -ℤ read count_behind)
  pub addition : Addition (get_or new a (pos 0)) height (column_count es first step width a) (read count_ahead -ℤ read count_behind)
  pub walks : WalksOn es first step width behind ahead (a + 1)
  pub added : AreAdded es first step width height old (set new a (read (read (get_or new a (pos 0)) +ℤ read (height *ℤ read (read count_ahead -ℤ read count_behind))))) (a + 1)

pub column_more : (es : List ℤ) (first step width height : ℤ) (old new : List ℤ) (a : ℕ) (left count_ahead count_behind : ℤ) (behind ahead : Walk) → IsWithin first step width a
    → left ≡ column_left first step a → AreSums old → AreAdded es first step width height old new a → a < length old → pos 0 ≤ℤ height → height ≤ℤ pos (2 ^ 31)
    → WalksTo es first (read left) (read (read left +ℤ width)) behind ahead → count_ahead ≡ length_at ahead (read (read left +ℤ width)) → count_behind ≡ length_at behind (read left)
    → Column es first step width height old new a behind ahead count_ahead count_behind
column_more es first step width height old new a left count_ahead count_behind behind ahead within left_is small added lt least most w ahead_is behind_is =
    let e = ends first step width a left within left_is in
    let counts = difference es first step width a (read left) (read (read left +ℤ width)) behind ahead count_ahead count_behind within e.left_is e.right_is w ahead_is behind_is in
    let sum = column_addition es first step width height old new a (read count_ahead -ℤ read count_behind) within small added lt least most counts.is in
    let here : a ≤ a = omega arith in
    record {
      difference_fits = counts.fits;
      addition = sum;
      walks = walks_on es first step width behind ahead a within.rising (rw (e.right_is, e.left_is) at w);
      added = one_added es first step width height old new a _ lt (sum.is ∙ ap (λ z. z +ℤ (height *ℤ pos (column_count es first step width a))) (added.rest a (pos 0) here)) added;
    }
