-- The next tile: the first one that isn't in.
use Rattle.std.proofs.Common.{◌≡◌, refl, ap, sym, ◌∙◌, ℕ, zero, suc, ◌+◌, ◌-◌, ◌≤◌, ◌<◌, arith, inl, inr, Bool, true, false, not, ◌↔◌}
use Rattle.std.specs.Prelude.{Option, Some, None, find, is_some, unwrap_or}
use Rattle.std.specs.Option.{option_or}
use Rattle.std.specs.List.{range_with_len}
use Rattle.std.proofs.lemmas.Bool.{cases_Bool, cases_eq}
use Rattle.fill_core.specs.Laws.{NextTileIsFirst, NoNextTileWhereAllAreIn}
use Rattle.fill_core.specs.Tiles.{first_open, IsNext}

-- what a search from `a` on through `n` numbers has found
abbrev pub Searched : (ℕ → Bool) → ℕ → ℕ → Option ℕ → Type 0
Searched p a n None = (k : ℕ) → a ≤ k → k < a + n → p k ≡ false
Searched p a n (Some t) = (a ≤ t) × (t < a + n) × (p t ≡ true) × ((k : ℕ) → a ≤ k → k < t → p k ≡ false)

later : (p : ℕ → Bool) (a n : ℕ) (r : Option ℕ) → p a ≡ false → Searched p (a + 1) n r → Searched p a (suc n) r
later p a n None h s = λ k low high. elim (cases_eq a k) [
  | inl e ↦ rw e at h
  | inr other ↦ s k (above a k low other) (below a n k high)
]
  where
    above : (a k : ℕ) → a ≤ k → (a ≡ k → ⊥) → a + 1 ≤ k
    above a k low other = grind (arith)

    below : (a n k : ℕ) → k < a + suc n → k < (a + 1) + n
    below a n k high = omega arith
later p a n (Some t) h s = (
  less a t s.0,
  below a n t s.1,
  s.2,
  (λ k low high. elim (cases_eq a k) [
    | inl e ↦ rw e at h
    | inr other ↦ s.3 k (above a k low other) high
  ]),
)
  where
    less : (a t : ℕ) → a + 1 ≤ t → a ≤ t
    less a t le = omega arith

    above : (a k : ℕ) → a ≤ k → (a ≡ k → ⊥) → a + 1 ≤ k
    above a k low other = grind (arith)

    below : (a n t : ℕ) → t < (a + 1) + n → t < a + suc n
    below a n t lt = omega arith

found : (p : ℕ → Bool) (a n : ℕ) → Searched p a n (find p (range_with_len a n))
found p a zero = λ k low high. absurd (none a k low high)
  where
    none : (a k : ℕ) → a ≤ k → k < a + 0 → ⊥
    none a k low high = omega arith
found p a (suc n) = elim (cases_Bool (p a)) [
  | inl h ↦ rw h (same a, more a n, h, (λ k low high. absurd (nothing a k low high)))
  | inr h ↦ rw h (later p a n (find p (range_with_len (a + 1) n)) h (found p (a + 1) n))
]
  where
    same : (a : ℕ) → a ≤ a
    same a = omega arith

    more : (a n : ℕ) → a < a + suc n
    more a n = omega arith

    nothing : (a k : ℕ) → a ≤ k → k < a → ⊥
    nothing a k low high = omega arith

is_in : (b : Bool) → not b ≡ false → b ≡ true
is_in true h = refl
is_in false h = absurd (let e : true ≡ false = h in cc)

is_out : (b : Bool) → not b ≡ true → b ≡ false
is_out true h = absurd (let e : false ≡ true = h in cc)
is_out false h = refl

one_of : (u t : ℕ) → Some u ≡ Some t → u ≡ t
one_of u t e = ap (λ o. unwrap_or o 0) e

up_to : (from count k : ℕ) → k < count → k < from + (count - from)
up_to from count k lt = omega arith

all_up_to : (count k : ℕ) → k < count → k < 0 + (count - 0)
all_up_to count k lt = omega arith

below_count : (from count t : ℕ) → from ≤ t → t < from + (count - from) → t < count
below_count from count t le lt = omega arith

-- the two searches of the next tile, by what each has found
next_of : (count : ℕ) (tiles_in : ℕ → Bool) (from : ℕ) (r q : Option ℕ) → Searched (λ t. not (tiles_in t)) from (count - from) r → Searched (λ t. not (tiles_in t)) 0 (count - 0) q
    → (t : ℕ) → option_or r q ≡ Some t → IsNext count tiles_in from t
next_of count tiles_in from (Some u) q s z t e =
    let same = one_of u t e in
    let at : Searched (λ n. not (tiles_in n)) from (count - from) (Some t) = rw (sym same) s in
    record {
      exists = below_count from count t at.0 at.1;
      is_open = is_out (tiles_in t) at.2;
      after = λ le k low high. is_in (tiles_in k) (at.3 k low high);
      around = λ lt k below either. absurd (apart from t lt at.0);
    }
  where
    apart : (from t : ℕ) → t < from → from ≤ t → ⊥
    apart from t lt le = omega arith
next_of count tiles_in from None (Some u) s z t e =
    let same = one_of u t e in
    let at : Searched (λ n. not (tiles_in n)) 0 (count - 0) (Some t) = rw (sym same) z in
    let lt = below_count 0 count t at.0 at.1 in
    record {
      exists = lt;
      is_open = is_out (tiles_in t) at.2;
      after = λ le. absurd (let e : tiles_in t ≡ true = is_in (tiles_in t) (s t le (up_to from count t lt)) in let f : tiles_in t ≡ false = is_out (tiles_in t) at.2 in let g : true ≡ false = sym e ∙ f in cc);
      around = λ under k below either. elim either [
        | inl behind ↦ is_in (tiles_in k) (s k behind (up_to from count k below))
        | inr before ↦ is_in (tiles_in k) (at.3 k (nothing k) before)
      ];
    }
  where
    nothing : (k : ℕ) → 0 ≤ k
    nothing k = omega arith
next_of count tiles_in from None None s z t e = absurd (let f : false ≡ true = ap is_some e in cc)

pub next_first : NextTileIsFirst
next_first count tiles_in from t e =
    next_of count tiles_in from (first_open tiles_in from count) (first_open tiles_in 0 count) (found (λ n. not (tiles_in n)) from (count - from)) (found (λ n. not (tiles_in n)) 0 (count - 0)) t e

none_of : (count : ℕ) (tiles_in : ℕ → Bool) (from : ℕ) (r q : Option ℕ) → Searched (λ t. not (tiles_in t)) from (count - from) r → Searched (λ t. not (tiles_in t)) 0 (count - 0) q
    → (option_or r q ≡ None) ↔ ((t : ℕ) → t < count → tiles_in t ≡ true)
none_of count tiles_in from (Some u) q s z = (
  (λ e. absurd (let f : true ≡ false = ap is_some e in cc)),
  (λ all. absurd (let e = all u (below_count from count u s.0 s.1) in let f : tiles_in u ≡ false = is_out (tiles_in u) s.2 in let g : true ≡ false = sym e ∙ f in cc)),
)
none_of count tiles_in from None (Some u) s z = (
  (λ e. absurd (let f : true ≡ false = ap is_some e in cc)),
  (λ all. absurd (let e = all u (below_count 0 count u z.0 z.1) in let f : tiles_in u ≡ false = is_out (tiles_in u) z.2 in let g : true ≡ false = sym e ∙ f in cc)),
)
none_of count tiles_in from None None s z = ((λ e t lt. is_in (tiles_in t) (z t (nothing t) (all_up_to count t lt))), (λ all. refl))
  where
    nothing : (k : ℕ) → 0 ≤ k
    nothing k = omega arith

pub next_none : NoNextTileWhereAllAreIn
next_none count tiles_in from =
    none_of count tiles_in from (first_open tiles_in from count) (first_open tiles_in 0 count) (found (λ n. not (tiles_in n)) from (count - from)) (found (λ n. not (tiles_in n)) 0 (count - 0))
