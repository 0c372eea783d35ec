-- Sums and counts over whole numbers in a row.
use Rattle.std.proofs.Common.{◌≡◌, ℕ, zero, suc, ◌+◌, ◌*◌, ◌≤◌, ◌<◌, ℤ, pos, ◌+ℤ◌, ◌≤ℤ◌, ◌<ℤ◌, refl, arith, ap, ◌∙◌, Bool, true, false, cond, add_assoc}
use Rattle.std.proofs.lemmas.Int.{ints, clamps}
use Rattle.fill_base.specs.Counts.{sum_from, span_len, sum_between, count_between}

pub sum_from-+ : (f : ℤ → ℕ) (lo : ℤ) (m n : ℕ) → sum_from f lo (m + n) ≡ sum_from f lo m + sum_from f (lo +ℤ pos m) n
unfolding sum_from
sum_from-+ f lo m zero = let e : m + zero ≡ m = omega arith in let z : sum_from f lo m ≡ sum_from f lo m + 0 = omega arith in ap (sum_from f lo) e ∙ z
sum_from-+ f lo m (suc n) =
    let e : m + suc n ≡ suc (m + n) = omega arith in
    let at : lo +ℤ pos (m + n) ≡ (lo +ℤ pos m) +ℤ pos n = omega (arith, ints, clamps) in
    ap (sum_from f lo) e ∙ (ap (λ s. s + f (lo +ℤ pos (m + n))) (sum_from-+ f lo m n) ∙ (add_assoc (sum_from f lo m) (sum_from f (lo +ℤ pos m) n) (f (lo +ℤ pos (m + n))) ∙ ap (λ z. sum_from f lo m + (sum_from f (lo +ℤ pos m) n + f z)) at))

-- a sum splits at a number within it
pub sum_between_split : (f : ℤ → ℕ) (lo m hi : ℤ) → lo ≤ℤ m → m ≤ℤ hi → sum_between f lo hi ≡ sum_between f lo m + sum_between f m hi
sum_between_split f lo m hi low high =
    let whole : span_len lo hi ≡ span_len lo m + span_len m hi = omega (arith, ints, clamps) in
    let at : lo +ℤ pos (span_len lo m) ≡ m = omega (arith, ints, clamps) in
    ap (sum_from f lo) whole ∙ (sum_from-+ f lo (span_len lo m) (span_len m hi) ∙ ap (λ z. sum_from f lo (span_len lo m) + sum_from f z (span_len m hi)) at)

pub sum_from_same : (f g : ℤ → ℕ) (lo : ℤ) (n : ℕ) → ((k : ℕ) → k < n → f (lo +ℤ pos k) ≡ g (lo +ℤ pos k)) → sum_from f lo n ≡ sum_from g lo n
unfolding sum_from
sum_from_same f g lo zero each = refl
sum_from_same f g lo (suc n) each =
    ap (λ s. s + f (lo +ℤ pos n)) (sum_from_same f g lo n (λ k lt. each k (omega arith))) ∙ ap (λ s. sum_from g lo n + s) (each n (omega arith))

pub sum_between_same : (f g : ℤ → ℕ) (lo hi : ℤ) → lo ≤ℤ hi → ((x : ℤ) → lo ≤ℤ x → x <ℤ hi → f x ≡ g x) → sum_between f lo hi ≡ sum_between g lo hi
sum_between_same f g lo hi ordered each = sum_from_same f g lo (span_len lo hi) (λ k lt. each (lo +ℤ pos k) (omega (arith, ints, clamps)) (omega (arith, ints, clamps)))

pub sum_from_const : (c lo : ℤ) (v n : ℕ) → sum_from (λ x. v) lo n ≡ n * v
unfolding sum_from
sum_from_const c lo v zero = omega arith
sum_from_const c lo v (suc n) = let h = sum_from_const c lo v n in omega (arith, h)

-- a sum of one number again and again is a product
pub sum_between_const : (f : ℤ → ℕ) (lo hi : ℤ) (v : ℕ) → lo ≤ℤ hi → ((x : ℤ) → lo ≤ℤ x → x <ℤ hi → f x ≡ v) → sum_between f lo hi ≡ span_len lo hi * v
sum_between_const f lo hi v ordered each = sum_between_same f (λ x. v) lo hi ordered each ∙ sum_from_const lo lo v (span_len lo hi)

pub sum_from_le : (f g : ℤ → ℕ) (lo : ℤ) (n : ℕ) → ((x : ℤ) → f x ≤ g x) → sum_from f lo n ≤ sum_from g lo n
unfolding sum_from
sum_from_le f g lo zero each = omega arith
sum_from_le f g lo (suc n) each = let h = sum_from_le f g lo n each in let k = each (lo +ℤ pos n) in omega (arith, h, k)

-- a sum of numbers of at most `v` is at most as many times `v`
pub sum_between_le : (f : ℤ → ℕ) (lo hi : ℤ) (v : ℕ) → ((x : ℤ) → f x ≤ v) → sum_between f lo hi ≤ span_len lo hi * v
sum_between_le f lo hi v each = let h = sum_from_le f (λ x. v) lo (span_len lo hi) each in let k = sum_from_const lo lo v (span_len lo hi) in omega (arith, h, k)

pub sum_from_add : (f g h : ℤ → ℕ) (lo : ℤ) (n : ℕ) → ((x : ℤ) → h x ≡ f x + g x) → sum_from h lo n ≡ sum_from f lo n + sum_from g lo n
unfolding sum_from
sum_from_add f g h lo zero each = refl
sum_from_add f g h lo (suc n) each = let r = sum_from_add f g h lo n each in let k = each (lo +ℤ pos n) in omega (arith, r, k)

-- the sum of sums, term by term
pub sum_between_add : (f g h : ℤ → ℕ) (lo hi : ℤ) → ((x : ℤ) → h x ≡ f x + g x) → sum_between h lo hi ≡ sum_between f lo hi + sum_between g lo hi
sum_between_add f g h lo hi each = sum_from_add f g h lo (span_len lo hi) each

bit_small : (b : Bool) → cond b 1 0 ≤ 1
bit_small true = omega arith
bit_small false = omega arith

-- a count is at most the length
pub count_between_le : (p : ℤ → Bool) (lo hi : ℤ) → count_between p lo hi ≤ span_len lo hi
count_between_le p lo hi = let h = sum_between_le (λ x. cond (p x) 1 0) lo hi 1 (λ x. bit_small (p x)) in omega (arith, h)

-- where the test gives one answer throughout, the count is all or nothing
pub count_between_const : (p : ℤ → Bool) (lo hi : ℤ) (b : Bool) → lo ≤ℤ hi → ((x : ℤ) → lo ≤ℤ x → x <ℤ hi → p x ≡ b) → count_between p lo hi ≡ span_len lo hi * cond b 1 0
count_between_const p lo hi b ordered each = sum_between_const (λ x. cond (p x) 1 0) lo hi (cond b 1 0) ordered (λ x l h. ap (λ t. cond t 1 0) (each x l h))

-- tests that agree count the same
pub count_between_same : (p q : ℤ → Bool) (lo hi : ℤ) → lo ≤ℤ hi → ((x : ℤ) → lo ≤ℤ x → x <ℤ hi → p x ≡ q x) → count_between p lo hi ≡ count_between q lo hi
count_between_same p q lo hi ordered each = sum_between_same (λ x. cond (p x) 1 0) (λ x. cond (q x) 1 0) lo hi ordered (λ x l h. ap (λ t. cond t 1 0) (each x l h))
