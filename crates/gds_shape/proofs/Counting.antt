-- Counting edges.
use Rattle.std.proofs.Common.{◌≡◌, ℕ, suc, ◌+◌, ◌<◌, ℤ, List, [], ◌∷◌, length, get_or, take, refl, arith, ap, ◌∙◌, sym, Bool, true, false, cond, not, ◌&&◌}
use Rattle.std.specs.Prelude.{int_lt, int_le, All, count_by}
use Rattle.std.specs.List.{filter}
use Rattle.std.proofs.lemmas.Int.{ints}
use Rattle.std.proofs.lemmas.List.Sums.{count_by_more_yes, count_by_more_no, sum_by-cons}
use Rattle.gds_shape.specs.declared.edge.Edge.{Edge}
use Rattle.gds_shape.specs.steps.Edges.{goes, spans, passing, left_of, going}

pub count_cons : {X : Type 0} (p : X → Bool) (e : X) (es : List X) → count_by p (e ∷ es) ≡ cond (p e) 1 0 + count_by p es
count_cons p e es = sum_by-cons (λ x. cond (p x) 1 0) e es

-- tests that agree on all of a list count the same
pub same_counts : (p q : Edge → Bool) (es : List Edge) → All (λ e. p e ≡ q e) es → count_by p es ≡ count_by q es
same_counts p q [] same = refl
same_counts p q (e ∷ es) same =
    let here : p e ≡ q e = same 0 e (omega arith) in
    let rest : count_by p es ≡ count_by q es = same_counts p q es (λ k d lt. same (suc k) d (omega arith)) in
    rw (count_cons p e es, count_cons q e es, here) (ap (λ n. cond (q e) 1 0 + n) rest)

pub no_count : (p : Edge → Bool) (es : List Edge) → All (λ e. p e ≡ false) es → count_by p es ≡ 0
no_count p [] none = refl
no_count p (e ∷ es) none =
    let here : p e ≡ false = none 0 e (omega arith) in
    rw (count_cons p e es, here, no_count p es (λ k d lt. none (suc k) d (omega arith))) refl

-- what a filter keeps counts all, where it keeps each that counts
pub count_kept : (p q : Edge → Bool) (es : List Edge) → ((e : Edge) → p e ≡ true → q e ≡ true) → count_by p (filter q es) ≡ count_by p es
count_kept p q [] keeps = refl
count_kept p q (e ∷ es) keeps = kept (q e) (p e) refl refl (count_kept p q es keeps)
  where
    plus : (n : ℕ) → n ≡ 0 + n
    plus n = omega arith

    kept : (b c : Bool) → q e ≡ b → p e ≡ c → count_by p (filter q es) ≡ count_by p es → count_by p (filter q (e ∷ es)) ≡ count_by p (e ∷ es)
    kept true c is count rest = rw (is, count_cons p e (filter q es), count_cons p e es) (ap (λ n. cond (p e) 1 0 + n) rest)
    kept false true is count rest = let both : false ≡ true = sym is ∙ keeps e count in cc
    kept false false is count rest = rw (is, count_cons p e es, count) (rest ∙ plus (count_by p es))

-- one more edge of a list
pub count_next : (p : Edge → Bool) (es : List Edge) (k : ℕ) (e : Edge) → k < length es → e ≡ get_or es k e → count_by p (take (k + 1) es) ≡ count_by p (take k es) + cond (p e) 1 0
count_next p es k e lt is = next (p e) refl
  where
    next : (b : Bool) → p e ≡ b → count_by p (take (k + 1) es) ≡ count_by p (take k es) + cond (p e) 1 0
    next true h = rw h (count_by_more_yes p es k e lt (ap p (sym is) ∙ h))
    next false h = let none : count_by p (take (k + 1) es) ≡ count_by p (take k es) = count_by_more_no p es k e lt (ap p (sym is) ∙ h) in rw h (omega arith)

-- at a row that all span, an edge that goes this way stands right of x, or at x or left of it
pub left_right : (way : Bool) (es : List Edge) (x y : ℤ) → All (λ e. spans y e ≡ true) es → passing way es x y + left_of way es x ≡ going way es
left_right way [] x y span = refl
left_right way (e ∷ es) x y span =
    let here = one (goes way e) (spans y e) (span 0 e (omega arith)) x e.x in
    let rest = left_right way es x y (λ k d lt. span (suc k) d (omega arith)) in
    rw (count_cons (λ f. goes way f && (int_lt x f.x && spans y f)) e es, count_cons (λ f. goes way f && int_le f.x x) e es, count_cons (goes way) e es) (four _ _ _ _ _ _ here rest)
  where
    table : (g l : Bool) → cond (g && (l && true)) 1 0 + cond (g && not l) 1 0 ≡ cond g 1 0
    table true true = refl
    table true false = refl
    table false l = refl

    one : (g s : Bool) → s ≡ true → (x a : ℤ) → cond (g && (int_lt x a && s)) 1 0 + cond (g && int_le a x) 1 0 ≡ cond g 1 0
    one g s is x a = rw (is, other x a) (table g (int_lt x a))
      where
        other : (x a : ℤ) → int_le a x ≡ not (int_lt x a)
        other x a = grind (arith, ints)

    four : (a b c d e f : ℕ) → a + b ≡ c → d + e ≡ f → (a + d) + (b + e) ≡ c + f
    four a b c d e f h k = omega arith
