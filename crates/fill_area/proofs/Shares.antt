-- Shares of a window's area, compared without division.
use Rattle.std.proofs.Common.{◌≡◌, ◌*◌, ◌^◌, ◌≤◌, ℤ, pos, negsuc, ◌*ℤ◌, ◌≤ℤ◌, ◌<ℤ◌, arith, ap, ◌∙◌, true, w64, FitsSigned, ◌↔◌}
use Rattle.std.specs.Prelude.{int_lt, IsTrue}
use Rattle.std.proofs.lemmas.Int.{ints}
use Rattle.std.proofs.Math.Nat.{mul-le-mul}
use Rattle.fill_base.proofs.Signed.{read, read_is, pos_fits, is_lt}
use Rattle.fill_area.specs.Density.{IsBelow, IsAbove, IsArea, IsShare}

lt_is : (a b : ℤ) → a <ℤ b → int_lt a b ≡ true
lt_is a b h = grind (arith, ints)

pub area_read : (n : ℤ) → IsArea n → read n ≡ n
area_read n is = let least : pos 0 ≤ℤ n = is.least in let most : n ≤ℤ pos (2 ^ 40) = is.most in read_is n (omega (arith, ints))

share_read : (n : ℤ) → IsShare n → read n ≡ n
share_read n is = let least : pos 0 ≤ℤ n = is.least in let most : n ≤ℤ pos 1000000 = is.most in read_is n (omega (arith, ints))

-- a total of squares in parts of a million fits
total_fits : (n : ℤ) → IsArea n → FitsSigned w64 (n *ℤ pos 1000000)
total_fits (pos n) is = let most : pos n ≤ℤ pos (2 ^ 40) = is.most in pos_fits (n * 1000000) (omega (arith, ints))
total_fits (negsuc n) is = absurd (let least : pos 0 ≤ℤ negsuc n = is.least in omega (arith, ints))

-- a share of an area fits
share_fits : (s n : ℤ) → IsShare s → IsArea n → FitsSigned w64 (s *ℤ n)
share_fits (pos s) (pos n) small is =
    let a : s ≤ 1000000 = let most : pos s ≤ℤ pos 1000000 = small.most in omega (arith, ints) in
    let b : n ≤ 2 ^ 40 = let most : pos n ≤ℤ pos (2 ^ 40) = is.most in omega (arith, ints) in
    let product : s * n ≤ 1000000 * 2 ^ 40 = mul-le-mul a b in pos_fits (s * n) (omega (arith, product))
share_fits (pos s) (negsuc n) small is = absurd (let least : pos 0 ≤ℤ negsuc n = is.least in omega (arith, ints))
share_fits (negsuc s) n small is = absurd (let least : pos 0 ≤ℤ negsuc s = small.least in omega (arith, ints))

-- both sides of a comparison, as the code multiplies them
total_is : (n : ℤ) → IsArea n → read (read n *ℤ pos 1000000) ≡ n *ℤ pos 1000000
total_is n is = ap (λ z. read (z *ℤ pos 1000000)) (area_read n is) ∙ read_is _ (total_fits n is)

share_is : (s n : ℤ) → IsShare s → IsArea n → read (read s *ℤ read n) ≡ s *ℤ n
share_is s n small is = ap (λ z. read (z *ℤ read n)) (share_read s small) ∙ (ap (λ z. read (s *ℤ z)) (area_read n is) ∙ read_is _ (share_fits s n small is))

pub low_test : (total least area : ℤ) → IsArea total → IsShare least → IsArea area
    → IsTrue (int_lt (read (read total *ℤ pos 1000000)) (read (read least *ℤ read area))) ↔ IsBelow total least area
low_test total least area t s a = rw (total_is total t, share_is least area s a) ((λ h. is_lt _ _ h), (λ h. lt_is _ _ h))

pub high_test : (total most area : ℤ) → IsArea total → IsShare most → IsArea area
    → IsTrue (int_lt (read (read most *ℤ read area)) (read (read total *ℤ pos 1000000))) ↔ IsAbove total most area
high_test total most area t s a = rw (total_is total t, share_is most area s a) ((λ h. is_lt _ _ h), (λ h. lt_is _ _ h))
