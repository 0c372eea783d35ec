-- Signed numbers as the code's values show them: read back from their bits.
use Rattle.std.proofs.Common.{◌≡◌, ℕ, ◌*◌, ◌^◌, ◌≤◌, ◌<◌, ℤ, pos, ◌-ℤ◌, ◌*ℤ◌, ◌≤ℤ◌, ◌<ℤ◌, refl, arith, w32, w64, to_z, of_z, FitsSigned, Bool, true, false, ◌∙◌, ◌↔◌}
use Rattle.std.specs.Prelude.{int_le, int_lt, IsTrue}
use Rattle.std.specs.Int.{int_max, int_min}
use Rattle.std.proofs.lemmas.Int.{ints, clamps, by_lt_z, to_z-of_z}
use Rattle.std.proofs.Math.Nat.{mul-le-mul}
use Rattle.fill_base.specs.Coordinates.{lowest, highest}
use Rattle.fill_base.specs.Counts.{span_len}

-- a number of 64 bits, read back from its bits
abbrev pub read : ℤ → ℤ
read z = to_z w64 (of_z w64 z)

-- a number of 32 bits, read back from its bits
abbrev pub read32 : ℤ → ℤ
read32 z = to_z w32 (of_z w32 z)

pub read_is : (z : ℤ) → FitsSigned w64 z → read z ≡ z
read_is z fits = to_z-of_z w64 z fits

pub read32_is : (z : ℤ) → FitsSigned w32 z → read32 z ≡ z
read32_is z fits = to_z-of_z w32 z fits

-- a coordinate fits 64 bits, and 32
pub coordinate_fits : (z : ℤ) → lowest ≤ℤ z → z ≤ℤ highest → FitsSigned w64 z
coordinate_fits z low high = omega (arith, ints, clamps)

pub coordinate_fits32 : (z : ℤ) → lowest ≤ℤ z → z ≤ℤ highest → FitsSigned w32 z
coordinate_fits32 z low high = omega (arith, ints, clamps)

-- the length of a side is the difference of its ends
pub side_is : (a b : ℤ) → lowest ≤ℤ a → a ≤ℤ b → b ≤ℤ highest → read (b -ℤ a) ≡ pos (span_len a b)
side_is a b low wide high = omega (arith, ints, clamps)

pub side_short : (a b : ℤ) → lowest ≤ℤ a → a ≤ℤ b → b ≤ℤ highest → span_len a b ≤ 2 ^ 31
side_short a b low wide high = omega (arith, ints, clamps)

pub pos_fits : (n : ℕ) → n < 2 ^ 63 → FitsSigned w64 (pos n)
pos_fits n small = omega (arith, ints, clamps)

pub not_le : (a b : ℤ) → int_le b a ≡ false → a <ℤ b
not_le a b above = grind (arith, ints)

pub not_under : (a b : ℤ) → int_le b a ≡ true → a <ℤ b → ⊥
not_under a b above under = grind (arith, ints)

-- a width times a height, of sides of at most 2^31
pub product_small : (m n : ℕ) → m ≤ 2 ^ 31 → n ≤ 2 ^ 31 → m * n ≤ 2 ^ 62
product_small m n short low = let h : m * n ≤ 2 ^ 31 * 2 ^ 31 = mul-le-mul short low in omega (arith, h)

pub area_fits : (a b c d : ℤ) → lowest ≤ℤ a → a ≤ℤ b → b ≤ℤ highest → lowest ≤ℤ c → c ≤ℤ d → d ≤ℤ highest
    → FitsSigned w64 (read (b -ℤ a) *ℤ read (d -ℤ c))
area_fits a b c d l1 w1 h1 l2 w2 h2 =
    let small = product_small (span_len a b) (span_len c d) (side_short a b l1 w1 h1) (side_short c d l2 w2 h2) in
    rw (side_is a b l1 w1 h1, side_is c d l2 w2 h2) (pos_fits (span_len a b * span_len c d) (omega (arith, small)))

pub area_is : (a b c d : ℤ) → lowest ≤ℤ a → a ≤ℤ b → b ≤ℤ highest → lowest ≤ℤ c → c ≤ℤ d → d ≤ℤ highest
    → read (read (b -ℤ a) *ℤ read (d -ℤ c)) ≡ pos (span_len a b * span_len c d)
area_is a b c d l1 w1 h1 l2 w2 h2 =
    read_is _ (area_fits a b c d l1 w1 h1 l2 w2 h2) ∙ rw (side_is a b l1 w1 h1, side_is c d l2 w2 h2) refl

pub lt_le : (a b : ℤ) → a <ℤ b → a ≤ℤ b
lt_le a b h = omega (arith, ints, clamps)

pub le_trans : (a b c : ℤ) → a ≤ℤ b → b ≤ℤ c → a ≤ℤ c
le_trans a b c h k = omega (arith, ints, clamps)

pub is_lt : (a b : ℤ) → int_lt a b ≡ true → a <ℤ b
is_lt a b h = grind (arith, ints)

pub not_lt : (a b : ℤ) → int_lt a b ≡ false → b ≤ℤ a
not_lt a b h = grind (arith, ints)

-- what a test of an order answers is the order's own test
pub lt_test : (a b : ℤ) (r : Bool) → (IsTrue r ↔ a <ℤ b) → int_lt a b ≡ r
lt_test a b true h = let lt : a <ℤ b = h.0 refl in grind (arith, ints)
lt_test a b false h = by_lt_z a b (λ lt. let both : false ≡ true = h.1 lt in cc) (λ le. grind (arith, ints))

pub fits_max : (a b : ℤ) → FitsSigned w64 a → FitsSigned w64 b → FitsSigned w64 (int_max a b)
fits_max a b f g = omega (arith, ints, clamps)

pub fits_min : (a b : ℤ) → FitsSigned w64 a → FitsSigned w64 b → FitsSigned w64 (int_min a b)
fits_min a b f g = omega (arith, ints, clamps)
