-- The step of a walk that joins intervals.
use Rattle.std.specs.Prelude.{◌≡◌, ◌⊎◌, ◌++◌, ◌∷◌, [], ℤ, ◌<ℤ◌, ◌≤ℤ◌, List}

-- an interval that ends at `end` is closed and another begins at `next`, unless they overlap or touch
abbrev pub GapPut : ℤ → ℤ → List ℤ → List ℤ → Type 0
GapPut end next old new = ((end <ℤ next) × (new ≡ old ++ end ∷ next ∷ [])) ⊎ ((next ≤ℤ end) × (new ≡ old))
