-- Runs and pieces together are the numbers they are made of.
use Rattle.std.proofs.Common.{◌≡◌, refl, ap, sym, ◌∙◌, ℕ, zero, suc, min, ◌+◌, ◌-◌, ◌*◌, ◌≤◌, ℤ, pos, ◌+ℤ◌, arith, Bool, true, false, ◌⊎◌, inl, inr, List, [], ◌∷◌, ◌++◌, map}
use Rattle.std.specs.Prelude.{if◌then◌else◌}
use Rattle.std.specs.Int.{div_ceil}
use Rattle.std.specs.List.{flat_map, range_with_len}
use Rattle.std.specs.Ordering.{int_eq}
use Rattle.std.proofs.lemmas.Bool.Decides.{Decides-int_eq}
use Rattle.std.proofs.lemmas.Grind.{flat_map-append, div_ceil_times}
use Rattle.std.proofs.lemmas.Int.{ints}
use Rattle.std.proofs.lemmas.List.{append-nil}
use Rattle.std.proofs.lemmas.List.FromFn.{map-range_with_len_more}
use Rattle.fill_stacks.specs.Runs.{Run, run, runs, joined, piece, pieces, numbers_from}
use Rattle.fill_stacks.specs.Laws.{AreApart, RunsAreLongest, numbers_in, numbers_of_pieces, PiecesHoldEachOnce}

-- ---- runs

joined_apart : (z : ℤ) (rs : List Run) → AreApart rs → AreApart (joined z rs)
joined_apart z [] apart = tt
joined_apart z (r ∷ rs) apart = by (int_eq r.start (z +ℤ pos 1)) refl
  where
    further : (n : ℕ) (s : ℤ) → r.start ≡ z +ℤ pos 1 → (s ≡ r.start +ℤ pos n → ⊥) → s ≡ z +ℤ pos (suc n) → ⊥
    further n s e other is = other (omega (arith, ints))

    longer : (rs : List Run) → AreApart (r ∷ rs) → r.start ≡ z +ℤ pos 1 → AreApart (run z (suc r.count) ∷ rs)
    longer [] apart e = tt
    longer (s ∷ rs) apart e = (further r.count s.start e apart.0, apart.1)

    by : (b : Bool) → int_eq r.start (z +ℤ pos 1) ≡ b → AreApart (if b then run z (suc r.count) ∷ rs else run z 1 ∷ r ∷ rs)
    by true e = longer rs apart ((Decides-int_eq r.start (z +ℤ pos 1)).0 e)
    by false e = ((λ is. let both = sym e ∙ (Decides-int_eq r.start (z +ℤ pos 1)).1 is in cc both), apart)

pub longest : RunsAreLongest
longest [] = tt
longest (z ∷ zs) = joined_apart z (runs zs) (longest zs)

-- a number before runs
joined_numbers : (z : ℤ) (rs : List Run) → flat_map numbers_in (joined z rs) ≡ z ∷ flat_map numbers_in rs
joined_numbers z [] = refl
joined_numbers z (r ∷ rs) = by (int_eq r.start (z +ℤ pos 1)) refl
  where
    by : (b : Bool) → int_eq r.start (z +ℤ pos 1) ≡ b → flat_map numbers_in (if b then run z (suc r.count) ∷ rs else run z 1 ∷ r ∷ rs) ≡ z ∷ flat_map numbers_in (r ∷ rs)
    by true e = let next : r.start ≡ z +ℤ pos 1 = (Decides-int_eq r.start (z +ℤ pos 1)).0 e in ap (λ y. z ∷ (numbers_from y r.count ++ flat_map numbers_in rs)) (sym next)
    by false e = refl

runs_numbers : (zs : List ℤ) → flat_map numbers_in (runs zs) ≡ zs
runs_numbers [] = refl
runs_numbers (z ∷ zs) = joined_numbers z (runs zs) ∙ ap (λ ys. z ∷ ys) (runs_numbers zs)

numbers_split : (z : ℤ) (m n : ℕ) → numbers_from z (m + n) ≡ numbers_from z m ++ numbers_from (z +ℤ pos m) n
numbers_split z zero n = let e : z +ℤ pos zero ≡ z = omega (arith, ints) in let f : zero + n ≡ n = omega arith in rw (e, f) refl
numbers_split z (suc m) n =
    let e : suc m + n ≡ suc (m + n) = omega arith in
    let g : (z +ℤ pos 1) +ℤ pos m ≡ z +ℤ pos (suc m) = omega (arith, ints) in
    rw e (ap (λ ys. z ∷ ys) (numbers_split (z +ℤ pos 1) m n ∙ ap (λ y. numbers_from (z +ℤ pos 1) m ++ numbers_from y n) g))

-- the first pieces of a run
first_pieces : (r : Run) (k : ℕ) → flat_map numbers_in (map (piece r) (range_with_len 0 k)) ≡ numbers_from r.start (min r.count (k * 32767))
first_pieces r zero = let e : min r.count (zero * 32767) ≡ 0 = omega arith in rw e refl
first_pieces r (suc k) =
    let e : suc k ≡ k + 1 = omega arith in
    let whole : min r.count (k * 32767) + min (r.count - k * 32767) 32767 ≡ min r.count (suc k * 32767) = omega arith in
    ap (λ n. flat_map numbers_in (map (piece r) (range_with_len 0 n))) e
    ∙ (ap (flat_map numbers_in) (map-range_with_len_more (piece r) 0 k k (omega arith))
    ∙ (flat_map-append numbers_in (map (piece r) (range_with_len 0 k)) (piece r k ∷ [])
    ∙ (ap (λ ys. flat_map numbers_in (map (piece r) (range_with_len 0 k)) ++ ys) (append-nil (numbers_in (piece r k)))
    ∙ (ap (λ ys. ys ++ numbers_in (piece r k)) (first_pieces r k) ∙ (seam r.count k ∙ ap (numbers_from r.start) whole)))))
  where
    cases : (n m : ℕ) → (n ≤ m) ⊎ (m ≤ n)
    cases n m = grind arith

    nothing : (m : ℕ) → m ≡ m + 0
    nothing m = omega arith

    seam : (n k : ℕ) → numbers_from r.start (min n (k * 32767)) ++ numbers_from (r.start +ℤ pos (k * 32767)) (min (n - k * 32767) 32767)
        ≡ numbers_from r.start (min n (k * 32767) + min (n - k * 32767) 32767)
    seam n k = elim (cases n (k * 32767)) [
      | inl short ↦
          let none : min (n - k * 32767) 32767 ≡ 0 = omega (arith, short) in
          rw none (append-nil (numbers_from r.start (min n (k * 32767))) ∙ ap (numbers_from r.start) (nothing (min n (k * 32767))))
      | inr long ↦
          let full : min n (k * 32767) ≡ k * 32767 = omega (arith, long) in
          rw full (sym (numbers_split r.start (k * 32767) (min (n - k * 32767) 32767)))
    ]

pieces_numbers : (r : Run) → flat_map numbers_in (pieces r) ≡ numbers_in r
pieces_numbers r = first_pieces r (div_ceil r.count 32767) ∙ ap (numbers_from r.start) (all r.count)
  where
    all : (n : ℕ) → min n (div_ceil n 32767 * 32767) ≡ n
    all n = let h = (div_ceil_times n 32767 (omega arith)).0 in omega (arith, h)

pieces_of_runs : (rs : List Run) → numbers_of_pieces rs ≡ flat_map numbers_in rs
pieces_of_runs [] = refl
pieces_of_runs (r ∷ rs) = ap (λ ys. ys ++ numbers_of_pieces rs) (pieces_numbers r) ∙ ap (λ ys. numbers_in r ++ ys) (pieces_of_runs rs)

pub each_once : PiecesHoldEachOnce
each_once zs = pieces_of_runs (runs zs) ∙ runs_numbers zs
