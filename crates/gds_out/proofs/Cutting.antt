-- The runs of a row, found one by one from the left.
use Rattle.std.proofs.Common.{◌≡◌, refl, ap, sym, subst, cond, ◌∙◌, ℕ, zero, suc, ◌+◌, ℤ, pos, ◌+ℤ◌, ◌≤ℤ◌, ◌<ℤ◌, arith, Bool, true, false, List, [], ◌∷◌, ◌++◌, ◌⊎◌, inl, inr}
use Rattle.std.specs.Prelude.{if◌then◌else◌}
use Rattle.std.specs.List.{filter}
use Rattle.std.specs.Ordering.{int_eq}
use Rattle.std.proofs.lemmas.Int.{ints}
use Rattle.fill_stacks.specs.Runs.{Run, run, runs, joined, numbers_from}

one_on : (z : ℤ) (k : ℕ) → (z +ℤ pos 1) +ℤ pos k ≡ z +ℤ pos (suc k)
one_on z k = omega (arith, ints)

-- numbers without what is asked
pub passed_over : (p : ℤ → Bool) (z : ℤ) (a n : ℕ) → ((m : ℤ) → z ≤ℤ m → m <ℤ (z +ℤ pos a) → p m ≡ false)
    → filter p (numbers_from z (a + n)) ≡ filter p (numbers_from (z +ℤ pos a) n)
passed_over p z zero n none = let e : z +ℤ pos 0 ≡ z = omega (arith, ints) in let f : zero + n ≡ n = omega arith in rw (e, f) refl
passed_over p z (suc a) n none =
    let e : suc a + n ≡ suc (a + n) = omega arith in
    let here : p z ≡ false = none z (omega (arith, ints)) (omega (arith, ints)) in
    let later = passed_over p (z +ℤ pos 1) a n (λ m low high. none m (omega (arith, ints)) (omega (arith, ints))) in
    rw (e, here) (later ∙ ap (λ y. filter p (numbers_from y n)) (one_on z a))

-- numbers that are all as asked
pub all_taken : (p : ℤ → Bool) (z : ℤ) (k n : ℕ) → ((m : ℤ) → z ≤ℤ m → m <ℤ (z +ℤ pos k) → p m ≡ true)
    → filter p (numbers_from z (k + n)) ≡ numbers_from z k ++ filter p (numbers_from (z +ℤ pos k) n)
all_taken p z zero n all = let e : z +ℤ pos 0 ≡ z = omega (arith, ints) in let f : zero + n ≡ n = omega arith in rw (e, f) refl
all_taken p z (suc k) n all =
    let e : suc k + n ≡ suc (k + n) = omega arith in
    let here : p z ≡ true = all z (omega (arith, ints)) (omega (arith, ints)) in
    let later = all_taken p (z +ℤ pos 1) k n (λ m low high. all m (omega (arith, ints)) (omega (arith, ints))) in
    rw (e, here) (ap (λ t. z ∷ t) (later ∙ ap (λ y. numbers_from (z +ℤ pos 1) k ++ filter p (numbers_from y n)) (one_on z k)))

-- no run begins at the number
abbrev pub BeginsNot : ℤ → List Run → Type 0
BeginsNot z [] = Unit {0}
BeginsNot z (r ∷ rs) = int_eq r.start z ≡ false

joined_start : (z y : ℤ) (rs : List Run) → int_eq z y ≡ false → BeginsNot y (joined z rs)
joined_start z y [] e = e
joined_start z y (r ∷ rs) e = by (int_eq r.start (z +ℤ pos 1))
  where
    by : (b : Bool) → BeginsNot y (if b then run z (suc r.count) ∷ rs else run z 1 ∷ r ∷ rs)
    by true = e
    by false = e

differ : (y w : ℤ) → y <ℤ w → int_eq w y ≡ false
differ y w lt = grind (arith, ints)

same : (z : ℤ) → int_eq z z ≡ true
same z = grind (arith, ints)

-- runs of greater numbers begin behind
pub begins_later : (p : ℤ → Bool) (y w : ℤ) (n : ℕ) → y <ℤ w → BeginsNot y (runs (filter p (numbers_from w n)))
begins_later p y w zero lt = tt
begins_later p y w (suc n) lt = by (p w) (begins_later p y (w +ℤ pos 1) n (omega (arith, ints)))
  where
    by : (b : Bool) → BeginsNot y (runs (filter p (numbers_from (w +ℤ pos 1) n)))
        → BeginsNot y (runs (cond b (w ∷ filter p (numbers_from (w +ℤ pos 1) n)) (filter p (numbers_from (w +ℤ pos 1) n))))
    by true later = joined_start w y (runs (filter p (numbers_from (w +ℤ pos 1) n))) (differ y w lt)
    by false later = later

-- a number that isn't as asked begins no run
pub begins_not : (p : ℤ → Bool) (y : ℤ) (n : ℕ) → (n ≡ 0) ⊎ (p y ≡ false) → BeginsNot y (runs (filter p (numbers_from y n)))
begins_not p y zero h = tt
begins_not p y (suc n) (inl e) = absurd (let f : suc n ≡ 0 = e in omega arith)
begins_not p y (suc n) (inr e) = rw e (begins_later p y (y +ℤ pos 1) n (omega (arith, ints)))

joined_alone : (z : ℤ) (rs : List Run) → BeginsNot (z +ℤ pos 1) rs → joined z rs ≡ run z 1 ∷ rs
joined_alone z [] e = refl
joined_alone z (r ∷ rs) e = rw e refl

-- numbers in a row are one run
pub one_run : (z : ℤ) (k : ℕ) (xs : List ℤ) → BeginsNot (z +ℤ pos (suc k)) (runs xs) → runs (numbers_from z (suc k) ++ xs) ≡ run z (suc k) ∷ runs xs
one_run z zero xs apart = joined_alone z (runs xs) apart
one_run z (suc k) xs apart =
    let later = one_run (z +ℤ pos 1) k xs (subst (λ y. BeginsNot y (runs xs)) (sym (one_on z (suc k))) apart) in
    rw (later, same (z +ℤ pos 1)) refl

-- one run, or none of no length
abbrev pub if_some : ℤ → ℕ → List Run
if_some z zero = []
if_some z (suc k) = run z (suc k) ∷ []

-- a stretch that is empty, one that is filled, and what is behind them
pub one_turn : (p : ℤ → Bool) (z : ℤ) (a k n : ℕ) → ((m : ℤ) → z ≤ℤ m → m <ℤ (z +ℤ pos a) → p m ≡ false)
    → ((m : ℤ) → (z +ℤ pos a) ≤ℤ m → m <ℤ ((z +ℤ pos a) +ℤ pos k) → p m ≡ true)
    → (n ≡ 0) ⊎ (p ((z +ℤ pos a) +ℤ pos k) ≡ false)
    → runs (filter p (numbers_from z (a + (k + n)))) ≡ if_some (z +ℤ pos a) k ++ runs (filter p (numbers_from ((z +ℤ pos a) +ℤ pos k) n))
one_turn p z a k n none all end =
    ap runs (passed_over p z a (k + n) none) ∙ by k all end
  where
    by : (k : ℕ) → ((m : ℤ) → (z +ℤ pos a) ≤ℤ m → m <ℤ ((z +ℤ pos a) +ℤ pos k) → p m ≡ true) → (n ≡ 0) ⊎ (p ((z +ℤ pos a) +ℤ pos k) ≡ false)
        → runs (filter p (numbers_from (z +ℤ pos a) (k + n))) ≡ if_some (z +ℤ pos a) k ++ runs (filter p (numbers_from ((z +ℤ pos a) +ℤ pos k) n))
    by zero all end = let e : (z +ℤ pos a) +ℤ pos 0 ≡ z +ℤ pos a = omega (arith, ints) in let f : zero + n ≡ n = omega arith in rw (e, f) refl
    by (suc k) all end =
        ap runs (all_taken p (z +ℤ pos a) (suc k) n all)
        ∙ one_run (z +ℤ pos a) k (filter p (numbers_from ((z +ℤ pos a) +ℤ pos (suc k)) n)) (begins_not p ((z +ℤ pos a) +ℤ pos (suc k)) n end)
