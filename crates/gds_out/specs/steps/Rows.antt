-- Rows of pieces with their heights and levels.
use Rattle.std.specs.Prelude.{◌≡◌, ℕ, zero, suc, ◌==◌, ℤ, pos, ◌+ℤ◌, if◌then◌else◌, List, [], ◌∷◌, ◌++◌, length, map}
use Rattle.std.specs.List.{AllByRecursion}
use Rattle.fill_raster.specs.Lattice.{Lattice}
use Rattle.fill_stacks.specs.Counting.{rows_above}
use Rattle.fill_stacks.specs.Places.{PlaceSet, row_pieces}
use Rattle.fill_stacks.specs.declared.pieces.Counted.{Counted}
use Rattle.fill_stacks.specs.declared.pieces.Stack.{Stack}
use Rattle.gds_out.specs.steps.Ranges.{IsStackOf}

-- the numbers of pieces
abbrev pub counts : List Counted → List ℕ
counts cs = map (λ c. c.rows) cs

-- the heights of a row's pieces, and those of `n` rows from row `j` on, of the highest row first
abbrev pub row_heights : PlaceSet → Lattice → ℤ → List ℕ
row_heights filled r j = map (rows_above filled r j) (row_pieces filled r j)

abbrev pub heights_down : PlaceSet → Lattice → ℤ → ℕ → List ℕ
heights_down filled r j zero = []
heights_down filled r j (suc n) = heights_down filled r (j +ℤ pos 1) n ++ row_heights filled r j

-- the stacks of row `j` of the pieces at level 0, with these heights
abbrev pub stack_of : ℤ → Counted → ℕ → Stack
stack_of j c h = record { column = c.piece.start; row = j; columns = c.piece.count; rows = h }

abbrev pub begun : ℤ → List Counted → List ℕ → List Stack
begun j (c ∷ cs) (h ∷ hs) = if c.rows == 0 then stack_of j c h ∷ begun j cs hs else begun j cs hs
begun j _ _ = []

-- there is a height for each piece, and those stacks lie on the raster
pub record AreBegun (r : Lattice) (j : ℤ) (levels : List Counted) (heights : List ℕ) : Type 0 where
  pub count : length levels ≡ length heights
  pub each : AllByRecursion (IsStackOf r) (begun j levels heights)
