-- Numbers among which both ends of spans stand.
use Rattle.std.specs.Prelude.{ℕ, ◌<◌, ℤ, ◌≤ℤ◌, List, get_or}
use Rattle.std.specs.List.{Contains}
use Rattle.fill_area.specs.Parts.{part_begin, part_end}
use Rattle.fill_area.specs.declared.parts.Parts.{Parts}
use Rattle.fill_cells.specs.Mesh.{gaps}

-- the numbers hold both ends of what counts of each of the first `n` spans
pub record HoldEnds (numbers : List ℤ) (parts : Parts) (n : ℕ) : Type 0 where
  pub begins : (a : ℕ) → a < n → Contains numbers (part_begin parts a)
  pub ends : (a : ℕ) → a < n → Contains numbers (part_end parts a)

-- the coordinate lies between the first cut and the last one
pub record IsAmong (cuts : List ℤ) (coordinate : ℤ) : Type 0 where
  pub low : (d : ℤ) → get_or cuts 0 d ≤ℤ coordinate
  pub high : (d : ℤ) → coordinate ≤ℤ get_or cuts (gaps cuts) d

-- both ends of what counts of each span do
pub record AreAmong (cuts : List ℤ) (parts : Parts) : Type 0 where
  pub begins : (a : ℕ) → a < parts.axis.count → IsAmong cuts (part_begin parts a)
  pub ends : (a : ℕ) → a < parts.axis.count → IsAmong cuts (part_end parts a)
