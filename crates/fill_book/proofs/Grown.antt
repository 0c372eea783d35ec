-- Counts of places before and after some are filled or emptied.
use Rattle.std.proofs.Common.{◌≡◌, refl, sym, ◌∙◌, ℕ, ◌+◌, ◌-◌, ◌≤◌, ℤ, arith, Bool, true, false, cond, ◌&&◌, ◌||◌, not}
use Rattle.std.proofs.lemmas.Bool.{and_parts}
use Rattle.fill_raster.specs.Lattice.{Lattice}
use Rattle.fill_job.specs.Plans.{PointSet}
use Rattle.fill_core.specs.Boxes.{count_places}
use Rattle.fill_core.proofs.Counts.{count_parts}

pub record Grown (r : Lattice) (f n : PointSet) (a b : ℕ) : Type 0 where
  pub least : a ≤ b
  pub sum : count_places r n ≡ count_places r f + (b - a)

-- a set that holds another has at least as many places
pub grown : (r : Lattice) (f n : PointSet) (a b : ℕ) → ((i j : ℤ) → f i j ≡ true → n i j ≡ true) → a ≡ count_places r f → b ≡ count_places r n → Grown r f n a b
grown r f n a b within first last =
    let parts = count_parts r f (λ i j. n i j && not (f i j)) n (λ i j. one (f i j) (n i j) (within i j)) in
    record { least = le a b _ _ _ first last parts; sum = less a b _ _ _ first last parts }
  where
    one : (f n : Bool) → (f ≡ true → n ≡ true) → cond n 1 0 ≡ cond f 1 0 + cond (n && not f) 1 0
    one true n h = rw (h refl) refl
    one false true h = refl
    one false false h = refl

    le : (a b c d e : ℕ) → a ≡ c → b ≡ d → d ≡ c + e → a ≤ b
    le a b c d e first last parts = omega (arith, first, last, parts)

    less : (a b c d e : ℕ) → a ≡ c → b ≡ d → d ≡ c + e → d ≡ c + (b - a)
    less a b c d e first last parts = omega (arith, first, last, parts)

pub more_filled : (f n m : PointSet) → ((i j : ℤ) → n i j ≡ f i j || m i j) → (i j : ℤ) → f i j ≡ true → n i j ≡ true
more_filled f n m each i j h = each i j ∙ rw h refl

pub fewer_filled : (f n m : PointSet) → ((i j : ℤ) → n i j ≡ f i j && not (m i j)) → (i j : ℤ) → n i j ≡ true → f i j ≡ true
fewer_filled f n m each i j h = (and_parts (f i j) (not (m i j)) (sym (each i j) ∙ h)).0
