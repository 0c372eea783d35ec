-- A set has one canonical list of edges.
use Rattle.std.proofs.Common.{◌≡◌, ℤ, ◌≤ℤ◌, ◌<ℤ◌, List, [], ◌∷◌, refl, arith, ap, ◌∙◌, sym, Bool, true, false, not}
use Rattle.std.specs.Prelude.{int_le}
use Rattle.std.proofs.lemmas.Int.{ints, by_lt_z}
use Rattle.fill_base.proofs.Signed.{lt_le}
use Rattle.fill_spans.specs.Spans.{inside, Chain, floor, ceiling, IsCanonical}
use Rattle.fill_spans.proofs.Chains.{inside_below}

le_here : (e x : ℤ) → e ≤ℤ x → int_le e x ≡ true
le_here e x h = grind (arith, ints)

not_here : (e x : ℤ) → x <ℤ e → int_le e x ≡ false
not_here e x h = grind (arith, ints)

same_le : (e : ℤ) → e ≤ℤ e
same_le e = omega (arith, ints)

-- the first edge begins the set
begins : (e hi : ℤ) (es : List ℤ) → Chain e es hi → inside (e ∷ es) e ≡ true
begins e hi es h = rw (le_here e e (same_le e), inside_below e hi e es h (same_le e)) refl

not_same : (b c : Bool) → not b ≡ not c → b ≡ c
not_same true true h = refl
not_same true false h = cc
not_same false true h = cc
not_same false false h = refl

-- after a first edge that both have, the rest is the same set
rest_same : (e hi : ℤ) (ds es : List ℤ) → Chain e ds hi → Chain e es hi → ((x : ℤ) → inside (e ∷ ds) x ≡ inside (e ∷ es) x)
    → (x : ℤ) → inside ds x ≡ inside es x
rest_same e hi ds es hd he same x = by_lt_z x e
    (λ lt. inside_below e hi x ds hd (lt_le x e lt) ∙ sym (inside_below e hi x es he (lt_le x e lt)))
    (λ le. not_same (inside ds x) (inside es x) (rw (le_here e x le) at (same x)))

first_apart : (d e hi : ℤ) (ds es : List ℤ) → d <ℤ e → Chain d ds hi → Chain e es hi → ((x : ℤ) → inside (d ∷ ds) x ≡ inside (e ∷ es) x) → ⊥
first_apart d e hi ds es lt hd he same =
    let out : inside (e ∷ es) d ≡ false = rw (not_here e d lt) (inside_below e hi d es he (lt_le d e lt)) in
    let is : inside (d ∷ ds) d ≡ true = begins d hi ds hd in
    let both : true ≡ false = sym is ∙ (same d ∙ out) in cc

pub same_chain : (lo hi : ℤ) (ds es : List ℤ) → Chain lo ds hi → Chain lo es hi → ((x : ℤ) → inside ds x ≡ inside es x) → ds ≡ es
same_chain lo hi [] [] hd he same = refl
same_chain lo hi [] (e ∷ es) hd he same = let both : false ≡ true = same e ∙ begins e hi es he.1 in cc
same_chain lo hi (d ∷ ds) [] hd he same = let both : true ≡ false = sym (begins d hi ds hd.1) ∙ same d in cc
same_chain lo hi (d ∷ ds) (e ∷ es) hd he same = by_lt_z d e
    (λ lt. absurd (first_apart d e hi ds es lt hd.1 he.1 same))
    (λ le. by_lt_z e d
    (λ lt. absurd (first_apart e d hi es ds lt he.1 hd.1 (λ x. sym (same x))))
    (λ ge.
    let is : d ≡ e = omega (arith, ints) in
    let hd' : Chain e ds hi = rw is at hd.1 in
    let same' : (x : ℤ) → inside (e ∷ ds) x ≡ inside (e ∷ es) x = λ x. ap (λ z. inside (z ∷ ds) x) (sym is) ∙ same x in
    ap (λ z. z ∷ ds) is ∙ ap (λ xs. e ∷ xs) (same_chain e hi ds es hd' he.1 (rest_same e hi ds es hd' he.1 same'))))

pub equal_sets : (a b : List ℤ) → IsCanonical a → IsCanonical b → ((x : ℤ) → inside a x ≡ inside b x) → a ≡ b
equal_sets a b ca cb same = same_chain floor ceiling a b ca.rising cb.rising same
