-- The three steps of a placement, on the centres of squares.
use Rattle.std.proofs.Common.{ℕ, zero, suc, ◌<◌, ℤ, true, false, arith, ◌≡◌}
use Rattle.std.proofs.lemmas.Int.{ints}
use Rattle.gds_cells.specs.Laws.{ActsOnCentres}

both : (a b c d : ℤ) → a ≡ c → b ≡ d → ◌≡◌ {A = ℤ × ℤ} (a, b) (c, d)
both a b c d h k = λ i. (h i, k i)

too_many : (n : ℕ) → suc (suc (suc (suc n))) < 4 → ⊥
too_many n h = omega arith

pub acts_on_centres : ActsOnCentres
acts_on_centres true zero small dx dy x y = both _ _ _ _ (omega (arith, ints)) (omega (arith, ints))
acts_on_centres false zero small dx dy x y = both _ _ _ _ (omega (arith, ints)) (omega (arith, ints))
acts_on_centres true (suc zero) small dx dy x y = both _ _ _ _ (omega (arith, ints)) (omega (arith, ints))
acts_on_centres false (suc zero) small dx dy x y = both _ _ _ _ (omega (arith, ints)) (omega (arith, ints))
acts_on_centres true (suc (suc zero)) small dx dy x y = both _ _ _ _ (omega (arith, ints)) (omega (arith, ints))
acts_on_centres false (suc (suc zero)) small dx dy x y = both _ _ _ _ (omega (arith, ints)) (omega (arith, ints))
acts_on_centres true (suc (suc (suc zero))) small dx dy x y = both _ _ _ _ (omega (arith, ints)) (omega (arith, ints))
acts_on_centres false (suc (suc (suc zero))) small dx dy x y = both _ _ _ _ (omega (arith, ints)) (omega (arith, ints))
acts_on_centres r (suc (suc (suc (suc n)))) small dx dy x y = absurd (too_many n small)
