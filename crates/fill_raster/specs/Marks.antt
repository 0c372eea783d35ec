-- Marks of the places of a block: a range of columns by a range of rows.
use Rattle.std.specs.Prelude.{◌≡◌, ℕ, ◌+◌, ◌*◌, ◌≤◌, ℤ, pos, negsuc, ◌≤ℤ◌, ◌<ℤ◌, Bool, ◌&&◌, List, length}
use Rattle.fill_base.specs.Counts.{is_between, span_len}
use Rattle.fill_base.specs.Squares.{area_between}
use Rattle.fill_raster.specs.Bits.{has_bit}
use Rattle.fill_raster.specs.declared.block.Block.{Block}

-- the place is of the block
abbrev pub in_block : Block → ℤ → ℤ → Bool
in_block b i j = is_between b.left b.right i && is_between b.bottom b.top j

-- how many places the block has
abbrev pub block_len : Block → ℕ
block_len b = span_len b.bottom b.top * span_len b.left b.right

-- the index of a place, row by row
abbrev pub index_in : Block → ℤ → ℤ → ℕ
index_in b i j = span_len b.bottom j * span_len b.left b.right + span_len b.left i

-- a block with places, of a raster's numbers
pub record IsBlock (b : Block) : Type 0 where
  pub least_column : negsuc 2147483647 ≤ℤ b.left
  pub columns : b.left <ℤ b.right
  pub most_column : b.right ≤ℤ pos 2147483648
  pub least_row : negsuc 2147483647 ≤ℤ b.bottom
  pub rows : b.bottom <ℤ b.top
  pub most_row : b.top ≤ℤ pos 2147483648
  pub few : block_len b ≤ 16777216

-- the block of a tile, and a bit for each of its places
pub record Marked : Type 0 where
  pub block : Block
  pub bits : List ℕ

-- the place is of the block, and marked
abbrev pub is_marked : Marked → ℤ → ℤ → Bool
is_marked m i j = in_block m.block i j && has_bit m.bits (index_in m.block i j)

-- how many places are marked
abbrev pub count_marked : Marked → ℕ
count_marked m = area_between (is_marked m) m.block.left m.block.bottom m.block.right m.block.top

-- there is a bit for each place, and so many are set
pub record AreMarks (m : Marked) (count : ℕ) : Type 0 where
  pub block : IsBlock m.block
  pub room : block_len m.block ≤ 64 * length m.bits
  pub counted : count ≡ count_marked m
