-- Division by a natural number, rounded down.
use Rattle.std.proofs.Common.{◌≡◌, refl, ap, sym, ◌∙◌, ℕ, zero, suc, ◌*◌, ◌/◌, ◌≤◌, ◌<◌, ℤ, pos, negsuc, neg_ℤ, ◌+ℤ◌, ◌*ℤ◌, ◌≤ℤ◌, ◌<ℤ◌, arith}
use Rattle.std.specs.Int.{int_div_euclid}
use Rattle.std.proofs.lemmas.Int.{ints}
use Rattle.std.proofs.lemmas.Nat.{le-div, div_below}
use Rattle.std.proofs.Math.IntN.{*ℤ_comm, *ℤ-negsuc, zero-*ℤ, neg_ℤ-neg_ℤ, +ℤ_one, suc_ℤ-*ℤ}
use Rattle.std.proofs.Math.Nat.{div-le_self, div-lt_iff_lt-mul, div-mul-le_self, mul-le-mul}

-- what is at most the quotient, is so many times the divisor at most the number
pub quotient_within : (n z : ℤ) (s : ℕ) → 0 < s → n ≤ℤ int_div_euclid z (pos s) → (n *ℤ pos s) ≤ℤ z
quotient_within (pos a) (pos b) s some h =
    let le : a ≤ b / s = omega (arith, ints, h) in
    let times : a * s ≤ b / s * s = mul-le-mul le (same s) in
    let under = div-mul-le_self b s in omega (arith, ints)
  where
    same : (s : ℕ) → s ≤ s
    same s = omega arith
quotient_within (pos a) (negsuc b) s some h = absurd (let k : pos a ≤ℤ negsuc (b / s) = h in omega (arith, ints))
quotient_within (negsuc a) (pos b) s some h = below (suc a * s) b
  where
    below : (m b : ℕ) → neg_ℤ (pos m) ≤ℤ pos b
    below m b = omega (arith, ints)
quotient_within (negsuc a) (negsuc b) s some h =
    let le : b / s < suc a = let k : negsuc a ≤ℤ negsuc (b / s) = h in omega (arith, ints) in
    above (suc a * s) b ((div-lt_iff_lt-mul some).0 le)
  where
    above : (m b : ℕ) → b < m → neg_ℤ (pos m) ≤ℤ negsuc b
    above m b lt = omega (arith, ints)

-- and where so many times the divisor is at most the number, it is at most the quotient
pub within_quotient : (n z : ℤ) (s : ℕ) → 0 < s → (n *ℤ pos s) ≤ℤ z → n ≤ℤ int_div_euclid z (pos s)
within_quotient (pos a) (pos b) s some h = let le : a * s ≤ b = omega (arith, ints, h) in let q = le-div a b s some le in omega (arith, ints)
within_quotient (pos a) (negsuc b) s some h = absurd (let k : pos (a * s) ≤ℤ negsuc b = h in omega (arith, ints))
within_quotient (negsuc a) (pos b) s some h = omega (arith, ints)
within_quotient (negsuc a) (negsuc b) s some h =
    let lt : b < suc a * s = below (suc a * s) b h in let q = div_below b s (suc a) some lt in omega (arith, ints)
  where
    below : (m b : ℕ) → neg_ℤ (pos m) ≤ℤ negsuc b → b < m
    below m b h = omega (arith, ints)

-- the same of a divisor that is a signed number
pub floor_within : (n z s : ℤ) → pos 1 ≤ℤ s → n ≤ℤ int_div_euclid z s → (n *ℤ s) ≤ℤ z
floor_within n z (pos s) one h = quotient_within n z s (omega (arith, ints)) h
floor_within n z (negsuc s) one h = absurd (omega (arith, ints))

pub within_floor : (n z s : ℤ) → pos 1 ≤ℤ s → (n *ℤ s) ≤ℤ z → n ≤ℤ int_div_euclid z s
within_floor n z (pos s) one h = within_quotient n z s (omega (arith, ints)) h
within_floor n z (negsuc s) one h = absurd (omega (arith, ints))

-- a quotient is no further from 0 than the number, or it is -1
pub floor_bounds : (lo hi z s : ℤ) → pos 1 ≤ℤ s → lo ≤ℤ pos 0 → lo ≤ℤ z → z ≤ℤ hi → pos 0 ≤ℤ hi → (lo ≤ℤ int_div_euclid z s) × (int_div_euclid z s ≤ℤ hi)
floor_bounds lo hi (pos z) (pos s) one low above below high = let q = div-le_self z s in (omega (arith, ints), omega (arith, ints))
floor_bounds lo hi (negsuc z) (pos s) one low above below high = let q = div-le_self z s in (omega (arith, ints), omega (arith, ints))
floor_bounds lo hi z (negsuc s) one low above below high = absurd (omega (arith, ints))

-- products of signed numbers
negsuc_product : (n : ℕ) (s : ℤ) → negsuc n *ℤ s ≡ neg_ℤ (pos (suc n) *ℤ s)
negsuc_product n s = *ℤ_comm (negsuc n) s ∙ (*ℤ-negsuc s n ∙ ap neg_ℤ (*ℤ_comm s (pos (suc n))))

pub neg_product : (n s : ℤ) → neg_ℤ n *ℤ s ≡ neg_ℤ (n *ℤ s)
neg_product (pos zero) s = rw (zero-*ℤ s) refl
neg_product (pos (suc n)) s = negsuc_product n s
neg_product (negsuc n) s = sym (ap neg_ℤ (negsuc_product n s) ∙ neg_ℤ-neg_ℤ (pos (suc n) *ℤ s))

pub one_more : (n s : ℤ) → (n +ℤ pos 1) *ℤ s ≡ (n *ℤ s) +ℤ s
one_more n s = ap (λ m. m *ℤ s) (+ℤ_one n) ∙ suc_ℤ-*ℤ n s

-- a greater factor makes no smaller product
pub product_le : (m n s : ℤ) → pos 1 ≤ℤ s → m ≤ℤ n → (m *ℤ s) ≤ℤ (n *ℤ s)
product_le m n s one le = let q = within_floor n (n *ℤ s) s one (omega (arith, ints)) in floor_within m (n *ℤ s) s one (omega (arith, ints))

-- the next multiple is one divisor further
pub product_lt : (m n s : ℤ) → pos 1 ≤ℤ s → m <ℤ n → ((m *ℤ s) +ℤ s) ≤ℤ (n *ℤ s)
product_lt m n s one lt = rw (one_more m s) at (product_le (m +ℤ pos 1) n s one (omega (arith, ints)))

-- so many multiples further is at least so far
pub far : (i s : ℤ) (n : ℕ) → pos 1 ≤ℤ s → ((i *ℤ s) +ℤ pos n) ≤ℤ ((i +ℤ pos n) *ℤ s)
far i s zero one = let e : i +ℤ pos 0 ≡ i = omega (arith, ints) in rw e (omega (arith, ints))
far i s (suc n) one =
    let e : i +ℤ pos (suc n) ≡ (i +ℤ pos n) +ℤ pos 1 = omega (arith, ints) in
    rw (e, one_more (i +ℤ pos n) s) (step (i *ℤ s) ((i +ℤ pos n) *ℤ s) s n one (far i s n one))
  where
    step : (m k s : ℤ) (n : ℕ) → pos 1 ≤ℤ s → (m +ℤ pos n) ≤ℤ k → (m +ℤ pos (suc n)) ≤ℤ (k +ℤ s)
    step m k s n one h = omega (arith, ints)
