-- So many steps from a number, read back from their bits.
use Rattle.std.proofs.Common.{◌≡◌, ℕ, ◌*◌, ◌/◌, ◌^◌, ◌≤◌, ◌<◌, ℤ, pos, ◌+ℤ◌, ◌*ℤ◌, arith, ◌∙◌, refl, w64, FitsSigned}
use Rattle.std.specs.Prelude.{unsigned_abs}
use Rattle.std.proofs.lemmas.Int.{ints, unsigned_abs-mul, fits_signed_from_abs}
use Rattle.std.proofs.Math.Nat.{mul-le-mul, mul_comm, div-lt_iff_lt-mul}
use Rattle.fill_base.proofs.Signed.{read, read_is}
use Rattle.gds_cells.specs.Links.{stepped}

-- some steps, as they are and as the code has them
record Leg (n : ℕ) (s made : ℤ) : Type 0 where
  is : made ≡ pos n *ℤ s
  short : unsigned_abs made ≤ 4294967296

leg : (n : ℕ) (s a : ℤ) → n < 2 ^ 32 → FitsSigned w64 s → a ≡ pos n → n * unsigned_abs s ≤ 4294967296 → Leg n s (read (read a *ℤ read s))
leg n s a few fits is short =
    let size : unsigned_abs (pos n *ℤ s) ≤ 4294967296 = rw (unsigned_abs-mul (pos n) s) short in
    let small : FitsSigned w64 (pos n *ℤ s) = fits_signed_from_abs w64 (pos n *ℤ s) (omega arith) in
    let count : read a ≡ pos n = rw is (omega (arith, ints)) in
    let e : read (read a *ℤ read s) ≡ pos n *ℤ s = rw (count, read_is s fits) (read_is (pos n *ℤ s) small) in
    record { is = e; short = rw e size }

sum_is : (f v w : ℤ) → unsigned_abs f ≤ 2147483648 → unsigned_abs v ≤ 4294967296 → unsigned_abs w ≤ 4294967296
    → read (read (read f +ℤ v) +ℤ w) ≡ (f +ℤ v) +ℤ w
sum_is f v w hf hv hw = omega (arith, ints)

sum_fits : (f v w : ℤ) → unsigned_abs f ≤ 2147483648 → unsigned_abs v ≤ 4294967296 → unsigned_abs w ≤ 4294967296
    → FitsSigned w64 (read (read f +ℤ v) +ℤ w)
sum_fits f v w hf hv hw = omega (arith, ints)

sum_near : (f v w : ℤ) → unsigned_abs f ≤ 2147483648 → unsigned_abs v ≤ 4294967296 → unsigned_abs w ≤ 4294967296
    → unsigned_abs ((f +ℤ v) +ℤ w) ≤ 68719476736
sum_near f v w hf hv hw = omega (arith, ints)

pub record Stepped (first : ℤ) (column : ℕ) (column_step : ℤ) (row : ℕ) (row_step : ℤ) (made fitting : ℤ) : Type 0 where
  pub is : made ≡ stepped first column column_step row row_step
  pub near : unsigned_abs made ≤ 68719476736
  pub fits : FitsSigned w64 fitting

pub stepped_is : (f s t a b : ℤ) (c r : ℕ) → c < 2 ^ 32 → r < 2 ^ 32 → FitsSigned w64 s → FitsSigned w64 t → a ≡ pos c → b ≡ pos r
    → unsigned_abs f ≤ 2147483648 → c * unsigned_abs s ≤ 4294967296 → r * unsigned_abs t ≤ 4294967296
    → Stepped f c s r t (read (read (read f +ℤ read (read a *ℤ read s)) +ℤ read (read b *ℤ read t))) (read (read f +ℤ read (read a *ℤ read s)) +ℤ read (read b *ℤ read t))
stepped_is f s t a b c r fc fr fs ft isa isb hf hs ht =
    let v = leg c s a fc fs isa hs in
    let w = leg r t b fr ft isb ht in
    let e = sum_is f _ _ hf v.short w.short in
    record {
      is = e ∙ rw (v.is, w.is) refl;
      near = rw e (sum_near f _ _ hf v.short w.short);
      fits = sum_fits f _ _ hf v.short w.short;
    }

-- fewer steps than all go no further
pub few_steps : (k n : ℕ) (s : ℤ) → k < n → n * unsigned_abs s ≤ 4294967296 → k * unsigned_abs (read s) ≤ 4294967296
few_steps k n s lt le =
    let more : k ≤ n = omega arith in
    let same : unsigned_abs s ≤ unsigned_abs s = omega arith in
    let some : 1 ≤ n = omega arith in
    let one : 1 * unsigned_abs s ≤ n * unsigned_abs s = mul-le-mul some same in
    let all : k * unsigned_abs s ≤ n * unsigned_abs s = mul-le-mul more same in
    let small : unsigned_abs s ≤ 4294967296 = omega arith in
    let e : read s ≡ s = read_is s (fits_signed_from_abs w64 s (omega arith)) in
    rw e (omega arith)

-- the row of one of all places
pub row_below : (k columns rows : ℕ) → 0 < columns → k < columns * rows → k / columns < rows
row_below k columns rows some lt = (div-lt_iff_lt-mul some).1 (rw (mul_comm rows columns) lt)
