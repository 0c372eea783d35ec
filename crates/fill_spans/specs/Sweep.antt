-- The steps of a sweep over two lists of edges.
use Rattle.std.specs.Prelude.{◌≡◌, ℕ, ◌+◌, ℤ, ◌⊎◌, Bool, List, [], ◌∷◌, ◌++◌, length}
use Rattle.fill_spans.specs.Spans.{odd}

-- from the place `k`, whose edge is `next`, the sweep at `at` goes to the place `after`
abbrev pub Passed : ℕ → ℤ → ℤ → ℕ → Type 0
Passed k next at after = ((next ≡ at) × (after ≡ k + 1)) ⊎ ((next ≡ at → ⊥) × (after ≡ k))

-- the list has an edge at `at` more where it was not as wanted, and is as wanted in the end
abbrev pub Turned : ℤ → Bool → List ℤ → List ℤ → Type 0
Turned at wanted old new =
    ((odd (length old) ≡ wanted) × (new ≡ old)) ⊎ ((odd (length old) ≡ wanted → ⊥) × (new ≡ old ++ at ∷ []))
