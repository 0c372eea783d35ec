-- What ranges of numbers have, one after another.
use Rattle.std.proofs.Common.{◌≡◌, ℕ, suc, ◌+◌, ◌-◌, ◌*◌, ◌≤◌, ◌<◌, min, List, [], ◌∷◌, ◌++◌, get_or, length, arith, ap, ◌∙◌, sym, refl, subst}
use Rattle.std.specs.Global.{Vec}
use Rattle.std.specs.Int.{div_ceil}
use Rattle.std.specs.List.{flat_map}
use Rattle.std.specs.Vec.{vec_items}
use Rattle.std.proofs.lemmas.Grind.{div_ceil_times}
use Rattle.std.proofs.lemmas.List.{append-nil}
use Rattle.fill_area.proofs.Begun.{by_lt}

-- lists of what ranges from a place on have, one after another, are what all these numbers have: `h a n` is what the `n` numbers from `a` on have
lists_from : {X : Type 0} (h : ℕ → ℕ → List X) (size from n : ℕ) (lists : List (Vec X)) → ((a : ℕ) → h a 0 ≡ []) → ((a m k : ℕ) → h a (m + k) ≡ h a m ++ h (a + m) k) → n ≤ length lists * size
    → ((k : ℕ) (d : Vec X) → k < length lists → (get_or lists k d).items ≡ h (from + k * size) (min size (n - k * size)))
    → flat_map vec_items lists ≡ h from n
lists_from h size from n [] none split enough each = let no : n ≡ 0 = omega (arith, enough) in sym (ap (h from) no ∙ none from)
lists_from h size from n (v ∷ lists) none split enough each =
    ap (λ t. t ++ flat_map vec_items lists) (each 0 v (omega arith) ∙ first)
    ∙ (ap (λ t. h from (min size n) ++ t) (lists_from h size (from + size) (n - size) lists none split (fewer (length lists) enough)
    (λ k d lt. subst (λ a. (get_or lists k d).items ≡ h a (min size (n - size - k * size))) (begins k)
    (subst (λ m. (get_or lists k d).items ≡ h (from + suc k * size) (min size m)) (left k) (each (suc k) d (omega arith)))))
    ∙ both)
  where
    first : h (from + 0 * size) (min size (n - 0 * size)) ≡ h from (min size n)
    first =
        let a : from + 0 * size ≡ from = omega arith in
        let m : n - 0 * size ≡ n = omega arith in
        rw (a, m) refl

    fewer : (count : ℕ) → n ≤ suc count * size → n - size ≤ count * size
    fewer count le = omega (arith, le)

    begins : (k : ℕ) → from + suc k * size ≡ (from + size) + k * size
    begins k = omega arith

    left : (k : ℕ) → n - suc k * size ≡ n - size - k * size
    left k = omega arith

    both : h from (min size n) ++ h (from + size) (n - size) ≡ h from n
    both = by_lt n size
        (λ low.
        let few : min size n ≡ n = omega (arith, low) in
        let no : n - size ≡ 0 = omega (arith, low) in
        rw few (ap (λ m. h from n ++ h (from + size) m) no ∙ (ap (λ t. h from n ++ t) (none (from + size)) ∙ append-nil (h from n))))
        (λ high.
        let full : min size n ≡ size = omega (arith, high) in
        let whole : size + (n - size) ≡ n = omega (arith, high) in
        rw full (sym (split from size (n - size))) ∙ ap (h from) whole)

-- the lists of all ranges, one after another, are what all numbers have
pub ranges_joined : {X : Type 0} (h : ℕ → ℕ → List X) (size n : ℕ) (lists : List (Vec X)) → ((a : ℕ) → h a 0 ≡ []) → ((a m k : ℕ) → h a (m + k) ≡ h a m ++ h (a + m) k)
    → 0 < size → length lists ≡ div_ceil n size → ((k : ℕ) (d : Vec X) → k < div_ceil n size → (get_or lists k d).items ≡ h (k * size) (min size (n - k * size)))
    → flat_map vec_items lists ≡ h 0 n
ranges_joined h size n lists none split some count each = lists_from h size 0 n lists none split (rw count (div_ceil_times n size some).0)
    (λ k d lt. subst (λ a. (get_or lists k d).items ≡ h a (min size (n - k * size))) (begins k) (each k d (rw count at lt)))
  where
    begins : (k : ℕ) → k * size ≡ 0 + k * size
    begins k = omega arith
