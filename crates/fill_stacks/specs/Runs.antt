-- Whole numbers in runs, and runs in pieces.
use Rattle.std.specs.Prelude.{ℕ, zero, suc, ◌-◌, ◌*◌, ℤ, pos, ◌+ℤ◌, min, if◌then◌else◌, List, [], ◌∷◌, map}
use Rattle.std.specs.List.{range_with_len}
use Rattle.std.specs.Int.{div_ceil}
use Rattle.std.specs.Ordering.{int_eq}

-- so many whole numbers in a row, from one on
abbrev pub numbers_from : ℤ → ℕ → List ℤ
numbers_from z zero = []
numbers_from z (suc n) = z ∷ numbers_from (z +ℤ pos 1) n

-- the same by its first number and its length
pub record Run : Type 0 where
  pub start : ℤ
  pub count : ℕ

abbrev pub run : ℤ → ℕ → Run
run z n = record { start = z; count = n }

-- A number before runs lengthens the first of them where that begins right behind it, and else is a run of its own.
abbrev pub joined : ℤ → List Run → List Run
joined z [] = run z 1 ∷ []
joined z (r ∷ rs) = if int_eq r.start (z +ℤ pos 1) then run z (suc r.count) ∷ rs else run z 1 ∷ r ∷ rs

-- the runs of numbers that follow one another in a list, each as long as can be
abbrev pub runs : List ℤ → List Run
runs [] = []
runs (z ∷ zs) = joined z (runs zs)

-- A run is cut into pieces of 32,767 from the left; the last has what is left.
abbrev pub piece : Run → ℕ → Run
piece r k = run (r.start +ℤ pos (k * 32767)) (min (r.count - k * 32767) 32767)

abbrev pub pieces : Run → List Run
pieces r = map (piece r) (range_with_len 0 (div_ceil r.count 32767))
