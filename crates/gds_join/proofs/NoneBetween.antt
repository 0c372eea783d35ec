-- A search through neighbouring numbers for one that passes.
use Rattle.std.proofs.Common.{◌≡◌, sym, subst, ◌∙◌, inl, inr, ◌⊎◌, ℤ, pos, ◌+ℤ◌, ◌≤ℤ◌, arith, refl, Bool, true, false, ◌&&◌}
use Rattle.std.specs.Int.{int_max}
use Rattle.std.proofs.lemmas.Int.{ints}
use Rattle.fill_base.specs.Counts.{is_between}
use Rattle.fill_job.proofs.Marking.{between_all}

-- none passes from one number on and before another
abbrev pub NoneOf : (ℤ → Bool) → ℤ → ℤ → Type 0
NoneOf p a b = (m : ℤ) → is_between a b m ≡ true → p m ≡ false

pub none_begins : (p : ℤ → Bool) (a : ℤ) → NoneOf p a a
none_begins p a m h = let never = empty a m in absurd (let f : true ≡ false = sym h ∙ never in cc f)
  where
    empty : (a m : ℤ) → is_between a a m ≡ false
    empty a m = grind (arith, ints)

pub none_more : (p : ℤ → Bool) (a i : ℤ) → NoneOf p a i → p i ≡ false → NoneOf p a (i +ℤ pos 1)
none_more p a i before here m h = elim (either a i m h) [
  | inl earlier ↦ before m earlier
  | inr same ↦ subst (λ z. p z ≡ false) (sym same) here
]
  where
    either : (a i m : ℤ) → is_between a (i +ℤ pos 1) m ≡ true → (is_between a i m ≡ true) ⊎ (m ≡ i)
    either a i m h = grind (arith, ints)

pub none_ends : (p : ℤ → Bool) (a b i : ℤ) → a ≤ℤ i → i ≤ℤ int_max a b → b ≤ℤ i → NoneOf p a i → NoneOf p a b
none_ends p a b i low high past none m h = none m (between_all a b i m low high past ∙ h)

pub none_over : (p : ℤ → Bool) (a b i : ℤ) → i ≤ℤ b → b ≤ℤ i → NoneOf p a i → NoneOf p a b
none_over p a b i high past none = subst (NoneOf p a) (same i b high past) none
  where
    same : (i b : ℤ) → i ≤ℤ b → b ≤ℤ i → i ≡ b
    same i b h g = omega (arith, ints)

pub first_fails : (a b : Bool) → a ≡ false → (a && b) ≡ false
first_fails a b h = rw h refl

pub second_fails : (a b : Bool) → b ≡ false → (a && b) ≡ false
second_fails true b h = h
second_fails false b h = refl
