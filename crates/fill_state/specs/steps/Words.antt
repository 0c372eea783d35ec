-- Words of 64 tiles.
use Rattle.std.specs.Prelude.{◌≡◌, ℕ, ◌+◌, ◌%◌, ◌≤◌, ◌<◌, Bool, true, List, length}
use Rattle.fill_state.specs.Tiles.{is_in}

-- the tile is the first of a word, and all tiles of the word are in
pub record IsFullFrom (bits : List Bool) (tile : ℕ) : Type 0 where
  pub first : tile % 64 ≡ 0
  pub room : tile + 64 ≤ length bits
  pub full : (t : ℕ) → tile ≤ t → t < tile + 64 → is_in bits t ≡ true
