-- Zeros are taken off the end one by one.
use Rattle.std.proofs.Common.{◌≡◌, ℕ, zero, suc, List, [], ◌∷◌, ◌++◌, refl, sym, ap, ◌∙◌}
use Rattle.gds_record.specs.Numbers.{before_trimmed, trimmed}

trimmed-zero : (bs : List ℕ) → trimmed (bs ++ 0 ∷ []) ≡ trimmed bs
trimmed-zero [] = refl
trimmed-zero (b ∷ bs) = ap (before_trimmed b) (trimmed-zero bs)

pub without_zero : (xs ys : List ℕ) (b : ℕ) → xs ≡ ys ++ b ∷ [] → b ≡ 0 → trimmed ys ≡ trimmed xs
without_zero xs ys b e z = sym (trimmed-zero ys) ∙ ap (λ c. trimmed (ys ++ c ∷ [])) (sym z) ∙ ap trimmed (sym e)

before_rest : (b c : ℕ) (cs : List ℕ) → before_trimmed b (c ∷ cs) ≡ b ∷ c ∷ cs
before_rest zero c cs = refl
before_rest (suc b) c cs = refl

trimmed-other : (ys : List ℕ) (b : ℕ) → (b ≡ 0 → ⊥) → trimmed (ys ++ b ∷ []) ≡ ys ++ b ∷ []
trimmed-other [] zero h = absurd (h refl)
trimmed-other [] (suc b) h = refl
trimmed-other (y ∷ []) b h = ap (before_trimmed y) (trimmed-other [] b h) ∙ before_rest y b []
trimmed-other (y ∷ z ∷ zs) b h = ap (before_trimmed y) (trimmed-other (z ∷ zs) b h) ∙ before_rest y z (zs ++ b ∷ [])

-- what ends in another byte stays
pub stays : (xs ys : List ℕ) (b : ℕ) → xs ≡ ys ++ b ∷ [] → (b ≡ 0 → ⊥) → trimmed xs ≡ xs
stays xs ys b e h = ap trimmed e ∙ trimmed-other ys b h ∙ sym e
