-- Which tile comes next.
use Rattle.std.specs.Prelude.{◌≡◌, ◌⊎◌, ℕ, ◌-◌, ◌<◌, ◌≤◌, Bool, true, false, not, Option, find}
use Rattle.std.specs.List.{range_with_len}
use Rattle.std.specs.Option.{option_or}

-- the first tile from `from` on and below `past` that isn't in
abbrev pub first_open : (ℕ → Bool) → ℕ → ℕ → Option ℕ
first_open tiles_in from past = find (λ tile. not (tiles_in tile)) (range_with_len from (past - from))

-- the first tile at or after `from` that isn't in, else the first such tile of all
abbrev pub next_tile : ℕ → (ℕ → Bool) → ℕ → Option ℕ
next_tile count tiles_in from = option_or (first_open tiles_in from count) (first_open tiles_in 0 count)

-- the tile isn't in, and each tile that is met before it, from `from` on and round past the last one, is in
pub record IsNext (count : ℕ) (tiles_in : ℕ → Bool) (from tile : ℕ) : Type 0 where
  pub exists : tile < count
  pub is_open : tiles_in tile ≡ false
  pub after : from ≤ tile → (t : ℕ) → from ≤ t → t < tile → tiles_in t ≡ true
  pub around : tile < from → (t : ℕ) → t < count → (from ≤ t ⊎ t < tile) → tiles_in t ≡ true
