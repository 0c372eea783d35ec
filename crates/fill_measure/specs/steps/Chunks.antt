-- Rectangles in chunks, and the rows of cells that each chunk lists.
use Rattle.std.specs.Prelude.{◌≡◌, ℕ, ◌+◌, ◌<◌, ℤ, Bool, true, List, length, get_or, take, drop, All}
use Rattle.std.specs.Borrow.{Bor}
use Rattle.std.specs.List.{list_any}
use Rattle.fill_base.specs.declared.rect.Rect.{Rect}
use Rattle.fill_region.specs.Squares.{covered}
use Rattle.fill_cells.specs.Mesh.{covered_at, row_squares, gaps, AreRowLists}
use Rattle.fill_measure.specs.declared.lists.Chunk.{Chunk}

-- some rectangle of some chunk holds the square
abbrev pub covered_by_chunks : List (Bor (List Rect)) → ℤ → ℤ → Bool
covered_by_chunks chunks x y = list_any (λ chunk. covered chunk.now x y) chunks

-- the chunk has these rectangles, and lists them for each row of cells
pub record IsChunk (up : List ℤ) (rects : List Rect) (chunk : Chunk) : Type 0 where
  pub same : chunk.rects.now ≡ rects
  pub rows : AreRowLists rects up chunk.rows.items

-- some rectangle that some chunk lists for the row at `j` holds the square
abbrev pub listed_by_chunks : ℕ → List Chunk → ℤ → ℤ → Bool
listed_by_chunks j chunks x y = list_any (λ chunk. list_any (λ row. covered_at chunk.rects.now row.items x y) (take 1 (drop j chunk.rows.items))) chunks

-- each chunk has a list for each row of cells, and all its lists together cover there the squares of the set
pub record AreChunkLists (up : List ℤ) (p : ℤ → ℤ → Bool) (chunks : List Chunk) : Type 0 where
  pub count : All (λ chunk. length chunk.rows.items ≡ gaps up) chunks
  pub each : (j : ℕ) (d : ℤ) → j < gaps up → (x y : ℤ) → row_squares (get_or up j d) (get_or up (j + 1) d) x y ≡ true → listed_by_chunks j chunks x y ≡ p x y
