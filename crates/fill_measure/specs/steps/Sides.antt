-- Where the sides of windows stand among the cuts.
use Rattle.std.specs.Prelude.{◌≡◌, ℕ, ◌+◌, ◌<◌, ℤ, pos, ◌+ℤ◌, ◌≤ℤ◌, ◌<ℤ◌, List, length, get_or}
use Rattle.fill_area.specs.Parts.{part_begin, part_end}
use Rattle.fill_area.specs.declared.parts.Parts.{Parts}
use Rattle.fill_measure.specs.declared.sides.Side.{Side}
use Rattle.fill_measure.specs.declared.sides.Sides.{Sides}

-- the coordinate so far past the cut
abbrev pub coordinate_of : List ℤ → Side → ℤ → ℤ
coordinate_of cuts side d = get_or cuts side.cut d +ℤ pos side.past

-- a cut, or a coordinate past one and before the next
pub record IsSide (cuts : List ℤ) (side : Side) : Type 0 where
  pub within : side.cut < length cuts
  pub next : 0 < side.past → side.cut + 1 < length cuts
  pub amid : 0 < side.past → (d : ℤ) → coordinate_of cuts side d <ℤ get_or cuts (side.cut + 1) d

-- the side stands at the coordinate
pub record IsAt (cuts : List ℤ) (coordinate : ℤ) (side : Side) : Type 0 where
  pub is : IsSide cuts side
  pub at : (d : ℤ) → coordinate_of cuts side d ≡ coordinate

-- what counts of the span at index `a` begins and ends there
pub record IsBetween (parts : Parts) (cuts : List ℤ) (a : ℕ) (sides : Sides) : Type 0 where
  pub ordered : part_begin parts a ≤ℤ part_end parts a
  pub begins : IsAt cuts (part_begin parts a) sides.begin
  pub ends : IsAt cuts (part_end parts a) sides.end

-- the list says that of each of the first `n` spans
pub record AreSides (parts : Parts) (cuts : List ℤ) (n : ℕ) (list : List Sides) : Type 0 where
  pub count : length list ≡ n
  pub each : (a : ℕ) (d : Sides) → a < n → IsBetween parts cuts a (get_or list a d)
