-- What holds of runs whatever the code does.
use Rattle.std.specs.Prelude.{◌≡◌, true, ℤ, Bool, List}
use Rattle.fill_region.specs.Runs.{Sides, IsRun, has, holds, AreRuns}

-- two runs of a set that share a square are one
abbrev pub RunsShareNoSquare : Type 0
RunsShareNoSquare = (p : ℤ → ℤ → Bool) (s t : Sides) (x y : ℤ) → IsRun p s → IsRun p t → has s x y ≡ true → has t x y ≡ true → s ≡ t

-- a set has one list of runs
abbrev pub EqualSetsAreEqual : Type 0
EqualSetsAreEqual = (a b : List Sides) → AreRuns a → AreRuns b → ((x y : ℤ) → holds a x y ≡ holds b x y) → a ≡ b
