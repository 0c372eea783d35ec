-- Powers of 16 on both sides of an equation, and which whole numbers a real can be.
use Rattle.std.proofs.Common.{◌≡◌, ℕ, zero, suc, ◌+◌, ◌-◌, ◌*◌, ◌/◌, ◌%◌, ◌^◌, ◌<◌, ◌≤◌, sym, ap, subst, ◌∙◌, arith, inl, inr, lit<}
use Rattle.std.specs.Prelude.{◌⊎◌}
use Rattle.std.proofs.lemmas.Bool.{cases_eq}
use Rattle.std.proofs.lemmas.Nat.{pow-add}
use Rattle.std.proofs.Math.Nat.{mul_assoc, pow-suc, mul-div_cancel, one-le-pow, pow-le-pow_right, one-le-mul, lt-div-mul-add, mod-eq-sub-div-mul, div-mul-le_self, mul-mod_left}

-- a greater power is the smaller one times the rest
split_pow : (b e top : ℕ) → e ≤ top → b ^ top ≡ b ^ (top - e) * b ^ e
split_pow b e top le =
    let sum : top - e + e ≡ top = omega arith in
    subst (λ (k : ℕ). b ^ k ≡ b ^ (top - e) * b ^ e) sum (pow-add b (top - e) e)

cancel : (a b k : ℕ) → 0 < k → a * k ≡ b * k → a ≡ b
cancel a b k pos e = sym (mul-div_cancel a pos) ∙ ap (λ x. x / k) e ∙ mul-div_cancel b pos

pub scaled : (b e top m n : ℕ) → 0 < b → e ≤ top → m * b ^ e ≡ n * b ^ top → m ≡ n * b ^ (top - e)
scaled b e top m n pos le h =
    let regrouped : m * b ^ e ≡ n * b ^ (top - e) * b ^ e = h ∙ ap (λ x. n * x) (split_pow b e top le) ∙ sym (mul_assoc n (b ^ (top - e)) (b ^ e)) in
    cancel m (n * b ^ (top - e)) (b ^ e) (one-le-pow e b pos) regrouped

pub rescaled : (b e top m n : ℕ) → e ≤ top → m ≡ n * b ^ (top - e) → m * b ^ e ≡ n * b ^ top
rescaled b e top m n le h =
    ap (λ x. x * b ^ e) h ∙ mul_assoc n (b ^ (top - e)) (b ^ e) ∙ ap (λ x. n * x) (sym (split_pow b e top le))

-- a smaller exponent leaves too little
pub too_small : (b e top m n : ℕ) → 0 < b → e ≤ top → 0 < m → m < b ^ (top - e) → m * b ^ e ≡ n * b ^ top → ⊥
too_small b e top m zero pos le some lt h = let s = scaled b e top m 0 pos le h in omega arith
too_small b e top m (suc n) pos le some lt h =
    let s = scaled b e top m (suc n) pos le h in
    let unit = b ^ (top - e) in
    let one : b ^ (top - e) ≤ suc n * b ^ (top - e) = grind arith in
    omega arith

-- a greater one leaves a multiple
pub multiple : (b e top m n : ℕ) → 0 < b → top ≤ e → m * b ^ e ≡ n * b ^ top → n ≡ m * b ^ (e - top)
multiple b e top m n pos le h = scaled b top e n m pos le (sym h)

pub small : (k : ℕ) → k ≤ 13 → 16 ^ k < 2 ^ 64
small k le = let p = pow-le-pow_right {n = 16} (lit< tt) {i = k} {j = 13} le in omega arith

-- a multiple of a power of 16 that isn't 0 is a multiple of 16
multiple_of_16 : (m k n : ℕ) → 0 < m → 0 < k → n ≡ m * 16 ^ k → (0 < n) × (n % 16 ≡ 0)
multiple_of_16 m zero n some pos e = absurd (omega arith)
multiple_of_16 m (suc k) n some pos e =
    let unit : 1 ≤ 16 ^ k = one-le-pow k 16 (omega arith) in
    let product : 1 ≤ m * 16 ^ k = one-le-mul {a = m} {b = 16 ^ k} some unit in
    let whole : n ≡ m * 16 ^ k * 16 = e ∙ ap (λ x. m * x) (pow-suc 16 k) ∙ sym (mul_assoc m (16 ^ k) 16) in
    (omega arith, omega arith)

-- outside the exponents 65 to 78 a real is no whole number, or a multiple of 16
pub out_of_range : (m e n : ℕ) → (m ≡ 0 → ⊥) → m < 2 ^ 56 → (e < 65) ⊎ (78 < e) → m * 16 ^ e ≡ n * 16 ^ 78 → (0 < n) × (n % 16 ≡ 0)
out_of_range m e n some fits (inl lt) h =
    let wide = pow-le-pow_right {n = 16} (lit< tt) {i = 14} {j = 78 - e} (omega arith) in
    absurd (too_small 16 e 78 m n (omega arith) (omega arith) (elim (cases_eq m 0) [ inl z ↦ absurd (some z) | inr other ↦ omega arith ]) (omega arith) h)
out_of_range m e n some fits (inr gt) h =
    multiple_of_16 m (e - 78) n (elim (cases_eq m 0) [ inl z ↦ absurd (some z) | inr other ↦ omega arith ]) (omega arith) (multiple 16 e 78 m n (omega arith) (omega arith) h)

-- inside them it is the fraction divided by a power of 16, where that goes
pub divides : (m e u : ℕ) → e ≤ 78 → u ≡ 16 ^ (78 - e) → m % u ≡ 0 → m * 16 ^ e ≡ m / u * 16 ^ 78
divides m e u le is even =
    let unit : 0 < u = rw is (one-le-pow (78 - e) 16 (omega arith)) in
    let parts : m ≡ m / u * u = omega (arith, lt-div-mul-add {a = m} {b = u} unit, mod-eq-sub-div-mul m u, div-mul-le_self m u) in
    rescaled 16 e 78 m (m / u) le (subst (λ (x : ℕ). m ≡ m / u * x) is parts)

pub divided : (m e n u : ℕ) → e ≤ 78 → u ≡ 16 ^ (78 - e) → m * 16 ^ e ≡ n * 16 ^ 78 → m % u ≡ 0
divided m e n u le is h =
    let parts : m ≡ n * u = scaled 16 e 78 m n (omega arith) le h ∙ ap (λ x. n * x) (sym is) in
    ap (λ x. x % u) parts ∙ mul-mod_left n u

-- 16 divides none of 90, 180, 270 and 360
pub no_quarters : (k : ℕ) → k ≤ 4 → 0 < 90 * k → 90 * k % 16 ≡ 0 → ⊥
no_quarters zero le some even = omega arith
no_quarters (suc zero) le some even = omega arith
no_quarters (suc (suc zero)) le some even = omega arith
no_quarters (suc (suc (suc zero))) le some even = omega arith
no_quarters (suc (suc (suc (suc zero)))) le some even = omega arith
no_quarters (suc (suc (suc (suc (suc k))))) le some even = omega arith
