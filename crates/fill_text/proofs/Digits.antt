-- How large a number of so many digits is.
use Rattle.std.proofs.Common.{ℕ, ◌+◌, ◌*◌, ◌^◌, ◌<◌, ◌≤◌, arith, lit<}
use Rattle.std.proofs.Math.Nat.{pow-le-pow_right}

pub below_power : (n i k : ℕ) → n < 10 ^ i → i ≤ k → n < 10 ^ k
below_power n i k small order = let h : 10 ^ i ≤ 10 ^ k = pow-le-pow_right (lit< tt) order in omega arith

pub digit_fits : (n i d : ℕ) → n < 10 ^ i → i < 18 → d < 10 → 10 * n + d < 10 ^ 18
digit_fits n i d small short digit =
    let h : n < 10 ^ 17 = below_power n i 17 small (omega arith) in
    omega arith
