-- Equal pieces of neighbouring rows in stacks.
use Rattle.std.specs.Prelude.{◌≡◌, ◌⊎◌, [], ◌∷◌, ℕ, zero, suc, ◌==◌, ◌%◌, ℤ, pos, ◌+ℤ◌, ◌-ℤ◌, Bool, ◌&&◌, min, if◌then◌else◌, List, map, filter}
use Rattle.std.specs.List.{flat_map, list_any}
use Rattle.std.specs.Ordering.{int_eq}
use Rattle.fill_base.specs.Counts.{span_len}
use Rattle.fill_raster.specs.Axes.{first, past}
use Rattle.fill_raster.specs.Lattice.{Lattice}
use Rattle.fill_stacks.specs.Places.{PlaceSet, places_along, row_pieces}
use Rattle.fill_stacks.specs.Runs.{Run, numbers_from}
use Rattle.fill_stacks.specs.declared.pieces.Stack.{Stack}

-- the row has the piece: in the same columns
abbrev pub is_run : Run → Run → Bool
is_run p q = int_eq q.start p.start && (q.count == p.count)

abbrev pub has_piece : PlaceSet → Lattice → Run → ℤ → Bool
has_piece filled r p j = list_any (is_run p) (row_pieces filled r j)

-- how many rows one after another pass the test: of `n` rows from row `j` upwards, and of `n` rows right below row `j`
abbrev pub rows_up : (ℤ → Bool) → ℤ → ℕ → ℕ
rows_up has j zero = 0
rows_up has j (suc n) = if has j then suc (rows_up has (j +ℤ pos 1) n) else 0

abbrev pub rows_down : (ℤ → Bool) → ℤ → ℕ → ℕ
rows_down has j zero = 0
rows_down has j (suc n) = if has (j -ℤ pos 1) then suc (rows_down has (j -ℤ pos 1) n) else 0

-- so many rows of the raster from row `j` upwards have the piece, and so many right below row `j`
abbrev pub height : PlaceSet → Lattice → ℤ → Run → ℕ
height filled r j p = rows_up (has_piece filled r p) j (span_len j (past r.up))

abbrev pub depth : PlaceSet → Lattice → ℤ → Run → ℕ
depth filled r j p = rows_down (has_piece filled r p) j (span_len (first r.up) j)

-- a piece begins a stack where the row right below doesn't have it, and again behind every 32,767 rows that do
abbrev pub begins : PlaceSet → Lattice → ℤ → Run → Bool
begins filled r j p = depth filled r j p % 32767 == 0

-- the stack that it begins: as high as can be, and of 32,767 rows at most
abbrev pub stack_at : PlaceSet → Lattice → ℤ → Run → Stack
stack_at filled r j p = record { column = p.start; row = j; columns = p.count; rows = min (height filled r j p) 32767 }

-- the stacks that begin in a row, from left to right
abbrev pub row_stacks : PlaceSet → Lattice → ℤ → List Stack
row_stacks filled r j = map (stack_at filled r j) (filter (begins filled r j) (row_pieces filled r j))

-- the stacks by their lowest rows upwards, and from left to right
abbrev pub stacks : PlaceSet → Lattice → List Stack
stacks filled r = flat_map (row_stacks filled r) (places_along r.up)

-- the places of a stack as an array has them: row by row upwards, in a row from left to right
abbrev pub stack_places : Stack → List (ℤ × ℤ)
stack_places s = flat_map (λ j. map (λ i. (i, j)) (numbers_from s.column s.columns)) (numbers_from s.row s.rows)

-- it stands in the list
abbrev pub IsOne : {X : Type 0} → X → List X → Type 0
IsOne x [] = ⊥
IsOne x (y ∷ ys) = (y ≡ x) ⊎ IsOne x ys
