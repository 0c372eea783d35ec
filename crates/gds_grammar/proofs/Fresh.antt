-- Among more names than there are, one is new.
use Rattle.std.proofs.Common.{◌≡◌, ℕ, zero, suc, ◌+◌, ◌<◌, ◌≤◌, Bool, true, false, cond, ltb, List, [], ◌∷◌, length, refl, sym, ap, ◌∙◌, arith, inl, inr}
use Rattle.std.specs.Prelude.{◌⊎◌}
use Rattle.std.specs.List.{list_any}
use Rattle.std.specs.Str.{bytes_eq}
use Rattle.std.proofs.lemmas.Bool.{cases_lt, lt-ltb, le-ltb}
use Rattle.std.proofs.lemmas.Slice.Eq.{bytes_eq-Decides}

is_other : (x y : List ℕ) → (x ≡ y → ⊥) → bytes_eq x y ≡ false
is_other x y h = cases (bytes_eq x y) refl where
  cases : (b : Bool) → bytes_eq x y ≡ b → b ≡ false
  cases true e = absurd (h ((bytes_eq-Decides x y).0 e))
  cases false e = refl

same_or_other : (x y : List ℕ) → (x ≡ y) ⊎ (x ≡ y → ⊥)
same_or_other x y = cases (bytes_eq x y) refl where
  cases : (b : Bool) → bytes_eq x y ≡ b → (x ≡ y) ⊎ (x ≡ y → ⊥)
  cases true e = inl ((bytes_eq-Decides x y).0 e)
  cases false e = inr (λ s. let t = (bytes_eq-Decides x y).1 s in let both = sym t ∙ e in cc)

-- one of the first n names is x, or none is
search_for : (f : ℕ → List ℕ) (x : List ℕ) (n : ℕ) → ((j : ℕ) × (j < n) × (f j ≡ x)) ⊎ ((j : ℕ) → j < n → f j ≡ x → ⊥)
search_for f x zero = inr (λ j lt e. absurd (omega arith))
search_for f x (suc n) =
    elim (same_or_other (f n) x) [
      | inl e ↦ inl (n, omega arith, e)
      | inr other ↦ elim (search_for f x n) [
        | inl p ↦ inl (p.0, omega (arith, p.1), p.2)
        | inr none ↦ inr (λ j lt e. elim (cases_lt j n) [ inl below ↦ none j below e | inr le ↦ let is : j ≡ n = omega arith in other (ap f (sym is) ∙ e) ])
      ]
    ]

-- all numbers but j
abbrev skip : ℕ → ℕ → ℕ
skip j i = cond (ltb i j) i (i + 1)

skip_cases : (j i : ℕ) → ((i < j) × (skip j i ≡ i)) ⊎ ((j ≤ i) × (skip j i ≡ i + 1))
skip_cases j i = elim (cases_lt i j) [ inl lt ↦ inl (lt, rw (lt-ltb i j lt) refl) | inr le ↦ inr (le, rw (le-ltb i j le) refl) ]

skip_other : (j i : ℕ) → skip j i ≡ j → ⊥
skip_other j i e = elim (skip_cases j i) [ inl p ↦ omega (arith, p.0, p.1, e) | inr p ↦ omega (arith, p.0, p.1, e) ]

skip_below : (j i n : ℕ) → j < suc n → i < n → skip j i < suc n
skip_below j i n lj li = elim (skip_cases j i) [ inl p ↦ omega (arith, p.0, p.1, lj, li) | inr p ↦ omega (arith, p.0, p.1, lj, li) ]

skip_one : (j a b : ℕ) → skip j a ≡ skip j b → a ≡ b
skip_one j a b e =
    elim (skip_cases j a) [
      | inl p ↦ elim (skip_cases j b) [ inl q ↦ omega (arith, p.0, p.1, q.0, q.1, e) | inr q ↦ omega (arith, p.0, p.1, q.0, q.1, e) ]
      | inr p ↦ elim (skip_cases j b) [ inl q ↦ omega (arith, p.0, p.1, q.0, q.1, e) | inr q ↦ omega (arith, p.0, p.1, q.0, q.1, e) ]
    ]

abbrev pub OneToOne : (ℕ → List ℕ) → ℕ → Type 0
OneToOne f n = (a b : ℕ) → a < n → b < n → f a ≡ f b → a ≡ b

pub fresh : (xs : List (List ℕ)) (f : ℕ → List ℕ) (n : ℕ) → OneToOne f n → length xs < n → (i : ℕ) × (i < n) × (list_any (λ x. bytes_eq (f i) x) xs ≡ false)
fresh xs f zero one lt = absurd (omega arith)
fresh [] f (suc n) one lt = (0, omega arith, refl)
fresh (x ∷ xs) f (suc n) one lt =
    elim (search_for f x (suc n)) [
      | inl p ↦
          let j = p.0 in
          let g : ℕ → List ℕ = λ i. f (skip j i) in
          let smaller : OneToOne g n = λ a b la lb e. skip_one j a b (one (skip j a) (skip j b) (skip_below j a n p.1 la) (skip_below j b n p.1 lb) e) in
          let q = fresh xs g n smaller (omega arith) in
          let differs : f (skip j q.0) ≡ x → ⊥ = λ e. skip_other j q.0 (one (skip j q.0) j (skip_below j q.0 n p.1 q.1) p.1 (e ∙ sym p.2)) in
          (skip j q.0, skip_below j q.0 n p.1 q.1, rw (is_other (f (skip j q.0)) x differs) q.2)
      | inr none ↦
          let q = fresh xs f (suc n) one (omega arith) in
          (q.0, q.1, rw (is_other (f q.0) x (none q.0 q.1)) q.2)
    ]
