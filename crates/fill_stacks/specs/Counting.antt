-- Pieces of a row with a number of rows for each: heights from above, levels from below.
use Rattle.std.specs.Prelude.{ℕ, ◌+◌, ◌<◌, ◌%◌, ℤ, ◌<ℤ◌, int_lt, int_le, Bool, ◌&&◌, ◌==◌, min, if◌then◌else◌, List, [], length, get_or, map, Option, Some, None, find, option_map}
use Rattle.std.specs.Ordering.{int_eq}
use Rattle.fill_raster.specs.Axes.{first, past}
use Rattle.fill_raster.specs.Lattice.{Lattice}
use Rattle.fill_stacks.specs.Places.{PlaceSet, row_pieces}
use Rattle.fill_stacks.specs.Runs.{Run}
use Rattle.fill_stacks.specs.Stacks.{depth, height}
use Rattle.fill_stacks.specs.declared.pieces.Piece.{Piece}
use Rattle.fill_stacks.specs.declared.pieces.Counted.{Counted}

abbrev pub counted : Piece → ℕ → Counted
counted p rows = record { piece = p; rows = rows }

-- a piece of the definition as the code has it
abbrev pub as_piece : Run → Piece
as_piece p = record { start = p.start; count = p.count }

abbrev pub counted_row : (Run → ℕ) → List Run → List Counted
counted_row rows ps = map (λ p. counted (as_piece p) (rows p)) ps

abbrev pub is_piece : Piece → Piece → Bool
is_piece p q = int_eq q.start p.start && (q.count == p.count)

-- the pieces stand from left to right
abbrev pub AreRising : List Counted → Type 0
AreRising cs = (a b : ℕ) (d : Counted) → a < b → b < length cs → (get_or cs a d).piece.start <ℤ (get_or cs b d).piece.start

-- the number of the piece, if it stands in the list
abbrev pub found : List Counted → Piece → Option ℕ
found cs p = option_map (λ c. c.rows) (find (λ c. is_piece p c.piece) cs)

-- one row more, and 32,767 at most
abbrev pub next_height : Option ℕ → ℕ
next_height None = 1
next_height (Some rows) = min rows 32766 + 1

-- one row more, and from the 32,767th on again from 0
abbrev pub next_level : Option ℕ → ℕ
next_level None = 0
next_level (Some rows) = (rows + 1) % 32767

-- the rows of the stack from the row on upwards, and those of it that are below the row
abbrev pub rows_above : PlaceSet → Lattice → ℤ → Run → ℕ
rows_above filled r j p = min (height filled r j p) 32767

abbrev pub rows_below : PlaceSet → Lattice → ℤ → Run → ℕ
rows_below filled r j p = depth filled r j p % 32767

-- the pieces of a row with their heights, and with their levels; a row that is past the last, or before the first, has none
abbrev pub heights_at : PlaceSet → Lattice → ℤ → List Counted
heights_at filled r j = if int_lt j (past r.up) then counted_row (rows_above filled r j) (row_pieces filled r j) else []

abbrev pub levels_at : PlaceSet → Lattice → ℤ → List Counted
levels_at filled r j = if int_le (first r.up) j then counted_row (rows_below filled r j) (row_pieces filled r j) else []
