-- What a chain over numbers collects.
use Rattle.std.proofs.Common.{◌≡◌, ℕ, zero, suc, ◌+◌, ◌*◌, ◌<◌, ◌≤◌, List, [], ◌∷◌, length, get_or, map, Result, Ok, Err, IfOk, IfErr, arith, ap, refl, subst, sym, ◌∙◌}
use Rattle.std.specs.Int.{div_ceil}
use Rattle.std.specs.List.{AllZip, Contains, range_with_len}
use Rattle.std.specs.Result.{MatchResult}
use Rattle.std.proofs.Math.Nat.{mul-le-mul}
use Rattle.std.proofs.lemmas.Grind.{div_ceil_times}

-- each value is that of its number
values_from : {T : Type 0} (E : Type 0) (P : ℕ → T → Type 0) (a n : ℕ) (values : List T) → AllZip (λ k (one : Result T E). IfOk one (P k)) (range_with_len a n) (map Ok values)
    → (length values ≡ n) × ((k : ℕ) (d : T) → k < n → P (a + k) (get_or values k d))
values_from E P a zero [] all = (refl, λ k d lt. absurd (omega (arith, lt)))
values_from E P a zero (v ∷ values) all = absurd all
values_from E P a (suc n) [] all = absurd all
values_from {T = T} E P a (suc n) (v ∷ values) all =
    let rest = values_from E P (a + 1) n values all.1 in
    (ap suc rest.0, at rest.1)
  where
    at : ((k : ℕ) (d : T) → k < n → P ((a + 1) + k) (get_or values k d)) → (k : ℕ) (d : T) → k < suc n → P (a + k) (get_or (v ∷ values) k d)
    at others zero d lt = let here : a ≡ a + zero = omega arith in subst (λ i. P i v) here all.0
    at others (suc k) d lt = let here : (a + 1) + k ≡ a + suc k = omega arith in subst (λ i. P i (get_or values k d)) here (others k d (omega (arith, lt)))

-- all that a chain made are values, where nothing was refused
pub values_of : {T E X : Type 0} (items : X → List T) (made : List (Result T E)) (r : Result X E) → MatchResult r (λ x. (values : List T) × (made ≡ map Ok values) × (items x ≡ values)) (λ e. Contains made (Err e))
    → IfOk r (λ x. made ≡ map Ok (items x))
values_of items made (Err e) found = tt
values_of items made (Ok x) (values, are, same) = are ∙ ap (map Ok) (sym same)

-- what a chain made of the numbers below `n`, where nothing was refused: a value for each, in order
pub collected : {T E X : Type 0} (items : X → List T) (P : ℕ → T → Type 0) (n : ℕ) (numbers : List ℕ) (made : List (Result T E)) (r : Result X E) → numbers ≡ range_with_len 0 n
    → AllZip (λ k one. IfOk one (P k)) numbers made → MatchResult r (λ x. (values : List T) × (made ≡ map Ok values) × (items x ≡ values)) (λ e. Contains made (Err e))
    → IfOk r (λ x. (length (items x) ≡ n) × ((k : ℕ) (d : T) → k < n → P k (get_or (items x) k d)))
collected items P n numbers made (Err e) below all found = tt
collected {T = T} {E = E} items P n numbers made (Ok x) below all (values, are, same) =
    let each = values_from E P 0 n values (subst (λ ks. AllZip (λ k (one : Result T E). IfOk one (P k)) ks (map Ok values)) below (subst (λ rs. AllZip (λ k one. IfOk one (P k)) numbers rs) are all)) in
    subst (λ vs. (length vs ≡ n) × ((k : ℕ) (d : T) → k < n → P k (get_or vs k d))) (sym same) (each.0, λ k d lt. subst (λ i. P i (get_or values k d)) (plus k) (each.1 k d lt))
  where
    plus : (k : ℕ) → 0 + k ≡ k
    plus k = omega arith

err_in : {T E : Type 0} (Q : E → Type 0) (numbers : List ℕ) (made : List (Result T E)) (e : E) → AllZip (λ k one. IfErr one Q) numbers made → Contains made (Err e) → Q e
err_in Q numbers [] e all (k, lt, at) = absurd (omega (arith, lt))
err_in Q [] (one ∷ made) e all found = absurd all
err_in Q (n ∷ numbers) (one ∷ made) e all (zero, lt, at) = subst (λ r. IfErr r Q) at all.0
err_in Q (n ∷ numbers) (one ∷ made) e all (suc k, lt, at) = err_in Q numbers made e all.1 (k, omega (arith, lt), at)

-- what was refused is what some number refused
pub refused_by : {T E X : Type 0} (Q : E → Type 0) (is : X → Type 0) (numbers : List ℕ) (made : List (Result T E)) (r : Result X E) → AllZip (λ k one. IfErr one Q) numbers made → MatchResult r is (λ e. Contains made (Err e)) → IfErr r Q
refused_by Q is numbers made (Ok x) all found = tt
refused_by Q is numbers made (Err e) all found = err_in Q numbers made e all found

-- each range of `size` numbers begins below the end
pub range_begins : (n size k : ℕ) → 0 < size → k < div_ceil n size → k * size < n
range_begins n size k some lt =
    let bound = (div_ceil_times n size some).1 in
    let most : (k + 1) * size ≤ div_ceil n size * size = mul-le-mul (omega (arith, lt)) (omega arith) in
    let one : (k + 1) * size ≡ k * size + size = omega arith in
    omega (arith, bound, most, one)
