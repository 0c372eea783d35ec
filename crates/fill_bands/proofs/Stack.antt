-- Bands, one above the other.
use Rattle.std.proofs.Common.{◌≡◌, ℕ, zero, suc, ◌+◌, ◌-◌, ◌≤◌, ◌<◌, ℤ, pos, ◌+ℤ◌, ◌≤ℤ◌, ◌<ℤ◌, List, [], ◌∷◌, ◌++◌, length, take, get_or, refl, arith, ap, sym, Bool, true, false, cond}
use Rattle.std.specs.Prelude.{int_le}
use Rattle.std.proofs.lemmas.Int.{ints}
use Rattle.fill_base.proofs.Signed.{lt_le}
use Rattle.fill_spans.specs.Spans.{IsCanonical}
use Rattle.fill_bands.specs.Bands.{Band, row_from, last_row, bottom_or, AreBands}

lt_trans : (a b c : ℤ) → a <ℤ b → b <ℤ c → a <ℤ c
lt_trans a b c h k = omega (arith, ints)

lt_le_trans : (a b c : ℤ) → a <ℤ b → b ≤ℤ c → a <ℤ c
lt_le_trans a b c h k = omega (arith, ints)

pub bands_lt : (lo hi : ℤ) (d : List ℤ) (bs : List Band) → AreBands lo d bs hi → lo <ℤ hi
bands_lt lo hi d [] h = h
bands_lt lo hi d (b ∷ bs) h = lt_trans lo b.0 hi h.0 (bands_lt b.0 hi b.1 bs h.1.1.1)

pub bands_raise : (lo hi top : ℤ) (d : List ℤ) (bs : List Band) → AreBands lo d bs hi → hi ≤ℤ top → AreBands lo d bs top
bands_raise lo hi top d [] h up = lt_le_trans lo hi top h up
bands_raise lo hi top d (b ∷ bs) h up = (h.0, (h.1.0, (h.1.1.0, bands_raise b.0 hi top b.1 bs h.1.1.1 up)))

pub bands_push : (lo p q : ℤ) (d row : List ℤ) (bs : List Band) → AreBands lo d bs p → IsCanonical row → (last_row d bs ≡ row → ⊥) → p <ℤ q
    → AreBands lo d (bs ++ (p, row) ∷ []) q
bands_push lo p q d row [] h canonical other lt = (h, (canonical, ((λ e. other (sym e)), lt)))
bands_push lo p q d row (b ∷ bs) h canonical other lt = (h.0, (h.1.0, (h.1.1.0, bands_push b.0 p q b.1 row bs h.1.1.1 canonical other lt)))

pub bands_take : (lo hi : ℤ) (d : List ℤ) (bs : List Band) (i : ℕ) → AreBands lo d bs hi → AreBands lo d (take i bs) (bottom_or hi bs i)
bands_take lo hi d [] zero h = h
bands_take lo hi d [] (suc i) h = h
bands_take lo hi d (b ∷ bs) zero h = h.0
bands_take lo hi d (b ∷ bs) (suc i) h = (h.0, (h.1.0, (h.1.1.0, bands_take b.0 hi b.1 bs i h.1.1.1)))

pub bottom_next : (lo hi : ℤ) (d : List ℤ) (bs : List Band) (i : ℕ) → i < length bs → AreBands lo d bs hi → bottom_or hi bs i <ℤ bottom_or hi bs (i + 1)
bottom_next lo hi d [] i lt h = absurd (omega arith)
bottom_next lo hi d (b ∷ []) zero lt h = h.1.1.1
bottom_next lo hi d (b ∷ e ∷ bs) zero lt h = h.1.1.1.0
bottom_next lo hi d (b ∷ bs) (suc i) lt h = rw (suc_plus i) (bottom_next b.0 hi b.1 bs i (omega arith) h.1.1.1)
  where
    suc_plus : (i : ℕ) → suc i + 1 ≡ suc (i + 1)
    suc_plus i = omega arith

pub bottom_within : (lo hi : ℤ) (d : List ℤ) (bs : List Band) (i : ℕ) → i < length bs → AreBands lo d bs hi → (lo <ℤ bottom_or hi bs i) × (bottom_or hi bs i <ℤ hi)
bottom_within lo hi d [] i lt h = absurd (omega arith)
bottom_within lo hi d (b ∷ bs) zero lt h = (h.0, bands_lt b.0 hi b.1 bs h.1.1.1)
bottom_within lo hi d (b ∷ bs) (suc i) lt h = let r = bottom_within b.0 hi b.1 bs i (omega arith) h.1.1.1 in (lt_trans lo b.0 _ h.0 r.0, r.1)

-- the next bottom, also past the last one, is above the lower end and at most the upper one
pub bottom_range : (lo hi : ℤ) (d : List ℤ) (bs : List Band) (i : ℕ) → AreBands lo d bs hi → (lo <ℤ bottom_or hi bs i) × (bottom_or hi bs i ≤ℤ hi)
bottom_range lo hi d [] i h = (h, omega (arith, ints))
bottom_range lo hi d (b ∷ bs) zero h = (h.0, lt_le b.0 hi (bands_lt b.0 hi b.1 bs h.1.1.1))
bottom_range lo hi d (b ∷ bs) (suc i) h = let r = bottom_range b.0 hi b.1 bs i h.1.1.1 in (lt_trans lo b.0 _ h.0 r.0, r.1)

pub bottom_past : (hi : ℤ) (bs : List Band) (i : ℕ) → length bs ≤ i → bottom_or hi bs i ≡ hi
bottom_past hi [] i le = refl
bottom_past hi (b ∷ bs) zero le = absurd (omega arith)
bottom_past hi (b ∷ bs) (suc i) le = bottom_past hi bs i (omega arith)

-- below the first band there is the row below
pub row_below : (lo hi y : ℤ) (d : List ℤ) (bs : List Band) → AreBands lo d bs hi → y ≤ℤ lo → row_from d bs y ≡ d
row_below lo hi y d [] h le = refl
row_below lo hi y d (b ∷ bs) h le =
    let above : int_le b.0 y ≡ false = let lt : lo <ℤ b.0 = h.0 in grind (arith, ints) in
    rw above refl

-- past every bottom, the last row counts
pub row_past : (lo hi y : ℤ) (d : List ℤ) (bs : List Band) → AreBands lo d bs hi → hi ≤ℤ (y +ℤ pos 1) → row_from d bs y ≡ last_row d bs
row_past lo hi y d [] h le = refl
row_past lo hi y d (b ∷ bs) h le =
    let at : int_le b.0 y ≡ true = let lt : b.0 <ℤ hi = bands_lt b.0 hi b.1 bs h.1.1.1 in grind (arith, ints) in
    rw at (row_past b.0 hi y b.1 bs h.1.1.1 le)

-- a band more changes nothing below it
pub row_push_below : (p y : ℤ) (d row : List ℤ) (bs : List Band) → y <ℤ p → row_from d (bs ++ (p, row) ∷ []) y ≡ row_from d bs y
row_push_below p y d row [] lt = let above : int_le p y ≡ false = grind (arith, ints) in rw above refl
row_push_below p y d row (b ∷ bs) lt = ap (λ r. cond (int_le b.0 y) r d) (row_push_below p y b.1 row bs lt)

pub last_row_push : (p : ℤ) (d row : List ℤ) (bs : List Band) → last_row d (bs ++ (p, row) ∷ []) ≡ row
last_row_push p d row [] = refl
last_row_push p d row (b ∷ bs) = last_row_push p b.1 row bs

pub row_canonical : (lo hi y : ℤ) (d : List ℤ) (bs : List Band) → IsCanonical d → AreBands lo d bs hi → IsCanonical (row_from d bs y)
row_canonical lo hi y d [] canonical h = canonical
row_canonical lo hi y d (b ∷ bs) canonical h = chosen (int_le b.0 y) (row_from b.1 bs y) d (row_canonical b.0 hi y b.1 bs h.1.0 h.1.1.1) canonical
  where
    chosen : (t : Bool) (r s : List ℤ) → IsCanonical r → IsCanonical s → IsCanonical (cond t r s)
    chosen true r s h k = h
    chosen false r s h k = k

pub last_canonical : (lo hi : ℤ) (d : List ℤ) (bs : List Band) → IsCanonical d → AreBands lo d bs hi → IsCanonical (last_row d bs)
last_canonical lo hi d [] canonical h = canonical
last_canonical lo hi d (b ∷ bs) canonical h = last_canonical b.0 hi b.1 bs h.1.0 h.1.1.1

-- the parts of the band at a place within the list
pub bottom_at : (top : ℤ) (bs : List Band) (k : ℕ) (z : Band) → k < length bs → bottom_or top bs k ≡ (get_or bs k z).0
bottom_at top [] k z lt = absurd (omega arith)
bottom_at top (b ∷ bs) zero z lt = refl
bottom_at top (b ∷ bs) (suc k) z lt = bottom_at top bs k z (omega arith)

pub last_taken : (d : List ℤ) (bs : List Band) (k : ℕ) (z : Band) → k < length bs → last_row d (take (suc k) bs) ≡ (get_or bs k z).1
last_taken d [] k z lt = absurd (omega arith)
last_taken d (b ∷ bs) zero z lt = refl
last_taken d (b ∷ bs) (suc k) z lt = last_taken b.1 bs k z (omega arith)

pub last_before : (d : List ℤ) (bs : List Band) (k : ℕ) (z : Band) → 0 < k → k ≤ length bs → last_row d (take k bs) ≡ (get_or bs (k - 1) z).1
last_before d bs zero z some le = absurd (omega arith)
last_before d bs (suc k) z some le = let e : suc k - 1 ≡ k = omega arith in rw e (last_taken d bs k z (omega arith))
