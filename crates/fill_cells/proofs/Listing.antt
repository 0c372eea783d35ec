-- Rectangles listed by their places.
use Rattle.std.proofs.Common.{◌≡◌, Bool, true, false, ◌||◌, ℕ, zero, suc, ◌<◌, List, [], ◌∷◌, length, take, drop, get_or, refl, arith}
use Rattle.std.specs.List.{list_any}

or_false : (b : Bool) → (b || false) ≡ b
or_false true = refl
or_false false = refl

-- what one at a place is
pub any_at : {V : Type 0} (holds : V → Bool) (list : List V) (k : ℕ) (d : V) → k < length list → list_any holds (take 1 (drop k list)) ≡ holds (get_or list k d)
any_at holds [] k d lt = absurd (omega (arith, lt))
any_at holds (v ∷ vs) zero d lt = or_false (holds v)
any_at holds (v ∷ vs) (suc k) d lt = any_at holds vs k d (omega (arith, lt))

-- the one at a place
pub at_place : {V : Type 0} (list : List V) (k : ℕ) → k < length list → (v : V) × (v ≡ get_or list k v)
at_place [] k lt = absurd (omega (arith, lt))
at_place (v ∷ vs) zero lt = (v, refl)
at_place (v ∷ vs) (suc k) lt = at_place vs k (omega (arith, lt))
