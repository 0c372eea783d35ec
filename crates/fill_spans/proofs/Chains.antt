-- Rising lists of numbers.
use Rattle.std.proofs.Common.{◌≡◌, ℕ, zero, suc, ◌+◌, ◌≤◌, ◌<◌, ℤ, pos, ◌+ℤ◌, ◌≤ℤ◌, ◌<ℤ◌, List, [], ◌∷◌, ◌++◌, length, get_or, take, refl, arith, ap, ◌∙◌, sym, true, false, not, cond}
use Rattle.std.specs.Prelude.{int_le}
use Rattle.std.proofs.lemmas.Int.{ints}
use Rattle.std.proofs.lemmas.Bool.Decides.{nat_tests}
use Rattle.fill_base.proofs.Signed.{lt_le}
use Rattle.fill_spans.specs.Spans.{inside, Chain, odd}

lt_trans : (a b c : ℤ) → a <ℤ b → b <ℤ c → a <ℤ c
lt_trans a b c h k = omega (arith, ints)

lt_le_trans : (a b c : ℤ) → a <ℤ b → b ≤ℤ c → a <ℤ c
lt_le_trans a b c h k = omega (arith, ints)

pub chain_lt : (lo hi : ℤ) (es : List ℤ) → Chain lo es hi → lo <ℤ hi
chain_lt lo hi [] h = h
chain_lt lo hi (e ∷ es) h = lt_trans lo e hi h.0 (chain_lt e hi es h.1)

-- the upper end may rise
pub chain_raise : (lo hi top : ℤ) (es : List ℤ) → Chain lo es hi → hi ≤ℤ top → Chain lo es top
chain_raise lo hi top [] h up = lt_le_trans lo hi top h up
chain_raise lo hi top (e ∷ es) h up = (h.0, chain_raise e hi top es h.1 up)

pub chain_push : (lo p q : ℤ) (es : List ℤ) → Chain lo es p → p <ℤ q → Chain lo (es ++ p ∷ []) q
chain_push lo p q [] h lt = (h, lt)
chain_push lo p q (e ∷ es) h lt = (h.0, chain_push e p q es h.1 lt)

-- the first edges lie below the next one
pub chain_take : (lo hi : ℤ) (es : List ℤ) (i : ℕ) → Chain lo es hi → Chain lo (take i es) (get_or es i hi)
chain_take lo hi [] zero h = h
chain_take lo hi [] (suc i) h = h
chain_take lo hi (e ∷ es) zero h = h.0
chain_take lo hi (e ∷ es) (suc i) h = (h.0, chain_take e hi es i h.1)

-- each edge is below the next one
pub chain_next : (lo hi : ℤ) (es : List ℤ) (i : ℕ) → i < length es → Chain lo es hi → get_or es i hi <ℤ get_or es (i + 1) hi
chain_next lo hi [] i lt h = absurd (omega arith)
chain_next lo hi (e ∷ []) zero lt h = h.1
chain_next lo hi (e ∷ f ∷ es) zero lt h = h.1.0
chain_next lo hi (e ∷ es) (suc i) lt h = rw (suc_plus i) (chain_next e hi es i (omega arith) h.1)
  where
    suc_plus : (i : ℕ) → suc i + 1 ≡ suc (i + 1)
    suc_plus i = omega arith

pub chain_within : (lo hi : ℤ) (es : List ℤ) (i : ℕ) → i < length es → Chain lo es hi → (lo <ℤ get_or es i hi) × (get_or es i hi <ℤ hi)
chain_within lo hi [] i lt h = absurd (omega arith)
chain_within lo hi (e ∷ es) zero lt h = (h.0, chain_lt e hi es h.1)
chain_within lo hi (e ∷ es) (suc i) lt h = let r = chain_within e hi es i (omega arith) h.1 in (lt_trans lo e _ h.0 r.0, r.1)

-- the next edge, also past the last one, is above the lower end and at most the upper one
pub chain_at : (lo hi : ℤ) (es : List ℤ) (i : ℕ) → Chain lo es hi → (lo <ℤ get_or es i hi) × (get_or es i hi ≤ℤ hi)
chain_at lo hi [] i h = (h, omega (arith, ints))
chain_at lo hi (e ∷ es) zero h = (h.0, lt_le e hi (chain_lt e hi es h.1))
chain_at lo hi (e ∷ es) (suc i) h = let r = chain_at e hi es i h.1 in (lt_trans lo e _ h.0 r.0, r.1)

-- what lies below the first edge is outside
pub inside_below : (lo hi x : ℤ) (es : List ℤ) → Chain lo es hi → x ≤ℤ lo → inside es x ≡ false
inside_below lo hi x [] h le = refl
inside_below lo hi x (e ∷ es) h le =
    let above : int_le e x ≡ false = let lt : lo <ℤ e = h.0 in grind (arith, ints) in
    rw above (inside_below e hi x es h.1 (let lt : lo <ℤ e = h.0 in omega (arith, ints)))

pub not_odd : (n : ℕ) → not (odd n) ≡ odd (suc n)
not_odd n = grind (arith, nat_tests)

-- past every edge, what counts is how many there are
pub inside_past : (lo hi x : ℤ) (es : List ℤ) → Chain lo es hi → hi ≤ℤ (x +ℤ pos 1) → inside es x ≡ odd (length es)
inside_past lo hi x [] h le = refl
inside_past lo hi x (e ∷ es) h le =
    let at : int_le e x ≡ true = let lt : e <ℤ hi = chain_lt e hi es h.1 in grind (arith, ints) in
    rw at (ap not (inside_past e hi x es h.1 le) ∙ not_odd (length es))

-- an edge more changes nothing below it
pub inside_push_below : (p x : ℤ) (es : List ℤ) → x <ℤ p → inside (es ++ p ∷ []) x ≡ inside es x
inside_push_below p x [] lt = let above : int_le p x ≡ false = grind (arith, ints) in rw above refl
inside_push_below p x (e ∷ es) lt = ap (λ b. cond (int_le e x) (not b) b) (inside_push_below p x es lt)

-- below the next edge, only the first edges count
pub inside_take : (lo hi x : ℤ) (es : List ℤ) (i : ℕ) → Chain lo es hi → x <ℤ get_or es i hi → inside (take i es) x ≡ inside es x
inside_take lo hi x [] zero h lt = refl
inside_take lo hi x [] (suc i) h lt = refl
inside_take lo hi x (e ∷ es) zero h lt = sym (inside_below_first e hi x es h.1 lt)
  where
    inside_below_first : (e hi x : ℤ) (es : List ℤ) → Chain e es hi → x <ℤ e → inside (e ∷ es) x ≡ false
    inside_below_first e hi x es h lt = let above : int_le e x ≡ false = grind (arith, ints) in rw above (inside_below e hi x es h (lt_le x e lt))
inside_take lo hi x (e ∷ es) (suc i) h lt = ap (λ b. cond (int_le e x) (not b) b) (inside_take e hi x es i h.1 lt)

-- a canonical list's members are counted from its edges' number
pub take_all_inside : (x : ℤ) (es : List ℤ) (i : ℕ) → length es ≤ i → inside (take i es) x ≡ inside es x
take_all_inside x [] zero le = refl
take_all_inside x [] (suc i) le = refl
take_all_inside x (e ∷ es) zero le = absurd (omega arith)
take_all_inside x (e ∷ es) (suc i) le = ap (λ b. cond (int_le e x) (not b) b) (take_all_inside x es i (omega arith))
