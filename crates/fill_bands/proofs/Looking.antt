-- Looking up a line among bands, and the bands of one rectangle.
use Rattle.std.proofs.Common.{◌≡◌, ℕ, zero, suc, ◌≤◌, ◌<◌, ℤ, ◌≤ℤ◌, ◌<ℤ◌, List, [], ◌∷◌, length, take, refl, arith, ap, ◌∙◌, sym, true, false}
use Rattle.std.specs.Prelude.{int_le}
use Rattle.std.specs.List.Sorted.{IsPartitionedBy, IsPartitionPoint}
use Rattle.std.proofs.lemmas.Int.{ints}
use Rattle.fill_base.proofs.Signed.{lt_le, le_trans}
use Rattle.fill_spans.specs.Spans.{floor, ceiling}
use Rattle.fill_bands.specs.Bands.{Band, row_from, last_row, bottom_or, AreBands, IsBanded}
use Rattle.fill_bands.specs.steps.FirstAbove.{IsFirstAbove}
use Rattle.fill_bands.proofs.Stack.{bottom_at, bottom_within}

le_here : (e y : ℤ) → e ≤ℤ y → int_le e y ≡ true
le_here e y h = grind (arith, ints)

here_le : (e y : ℤ) → int_le e y ≡ true → e ≤ℤ y
here_le e y h = grind (arith, ints)

not_here_lt : (e y : ℤ) → int_le e y ≡ false → y <ℤ e
not_here_lt e y h = grind (arith, ints)

-- bottoms rise from place to place
pub bottoms_rise : (lo hi : ℤ) (d : List ℤ) (bs : List Band) (i j : ℕ) → AreBands lo d bs hi → i ≤ j → j < length bs → bottom_or hi bs i ≤ℤ bottom_or hi bs j
bottoms_rise lo hi d [] i j h le lt = absurd (omega arith)
bottoms_rise lo hi d (b ∷ bs) zero zero h le lt = omega (arith, ints)
bottoms_rise lo hi d (b ∷ bs) zero (suc j) h le lt = lt_le b.0 _ (bottom_within b.0 hi b.1 bs j (omega arith) h.1.1.1).0
bottoms_rise lo hi d (b ∷ bs) (suc i) zero h le lt = absurd (omega arith)
bottoms_rise lo hi d (b ∷ bs) (suc i) (suc j) h le lt = bottoms_rise b.0 hi b.1 bs i j h.1.1.1 (omega arith) (omega arith)

-- the bands up to the line `y` come before those above it
pub parted : (bs : List Band) (y : ℤ) → IsBanded bs → IsPartitionedBy (λ b. int_le b.0 y) bs
parted bs y region i j d le lt at =
    let rises : bottom_or ceiling bs i ≤ℤ bottom_or ceiling bs j = bottoms_rise floor ceiling [] bs i j region.bands le lt in
    let at' : int_le (bottom_or ceiling bs j) y ≡ true = ap (λ z. int_le z y) (bottom_at ceiling bs j d lt) ∙ at in
    ap (λ z. int_le z y) (sym (bottom_at ceiling bs i d (omega arith))) ∙ le_here _ y (le_trans _ _ y rises (here_le _ y at'))

pub is_first_above : (bs : List Band) (y : ℤ) (n : ℕ) (z : Band) → n ≤ length bs → IsPartitionPoint (λ b. int_le b.0 y ≡ true) (λ b. int_le b.0 y ≡ false) bs n → IsFirstAbove bs y n
is_first_above bs y n z within point = record {
  within = within;
  before = λ k lt. rw (bottom_at ceiling bs k z (omega arith)) (here_le _ y (point.0 k z (omega arith) lt));
  after = λ lt. rw (bottom_at ceiling bs n z lt) (not_here_lt _ y (point.1 n z (omega arith) lt));
}

-- the row of a line is that of the last band up to it
pub row_of_place : (lo hi y : ℤ) (d : List ℤ) (bs : List Band) (n : ℕ) → AreBands lo d bs hi → n ≤ length bs
    → ((k : ℕ) → k < n → bottom_or hi bs k ≤ℤ y) → (n < length bs → y <ℤ bottom_or hi bs n) → row_from d bs y ≡ last_row d (take n bs)
row_of_place lo hi y d [] zero h within before after = refl
row_of_place lo hi y d [] (suc n) h within before after = absurd (omega arith)
row_of_place lo hi y d (b ∷ bs) zero h within before after =
    let lt : y <ℤ b.0 = after (omega arith) in
    let out : int_le b.0 y ≡ false = grind (arith, ints) in
    rw out refl
row_of_place lo hi y d (b ∷ bs) (suc n) h within before after =
    rw (le_here b.0 y (before 0 (omega arith)))
    (row_of_place b.0 hi y b.1 bs n h.1.1.1 (omega arith) (λ k lt. before (suc k) (omega arith)) (λ lt. after (omega arith)))

pub row_at : (bs : List Band) (y : ℤ) (n : ℕ) → IsBanded bs → IsFirstAbove bs y n → row_from [] bs y ≡ last_row [] (take n bs)
row_at bs y n region place = row_of_place floor ceiling y [] bs n region.bands place.within place.before place.after
