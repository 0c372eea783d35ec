-- Sets of squares that are the same all the way from one cut to the next.
use Rattle.std.specs.Prelude.{◌≡◌, ℕ, ◌+◌, ◌<◌, ℤ, ◌≤ℤ◌, ◌<ℤ◌, Bool, List, length, get_or}
use Rattle.fill_area.specs.Parts.{part_begin, part_end}
use Rattle.fill_area.specs.declared.parts.Parts.{Parts}
use Rattle.fill_measure.specs.declared.edges.Direction.TheVariants.{Across, Up}
use Rattle.fill_measure.specs.declared.edges.Direction.{Direction}

-- the set with its rows for columns
abbrev pub turned : (ℤ → ℤ → Bool) → ℤ → ℤ → Bool
turned p y x = p x y

-- the set, so that the direction is its first axis
abbrev pub along : Direction → (ℤ → ℤ → Bool) → ℤ → ℤ → Bool
along Across p = p
along Up p = turned p

-- from the cut at `i` to the next one each column of the set is as that at the cut
abbrev pub IsUniform : (ℤ → ℤ → Bool) → List ℤ → ℕ → Type 0
IsUniform p cuts i = (x y d : ℤ) → get_or cuts i d ≤ℤ x → x <ℤ get_or cuts (i + 1) d → p x y ≡ p (get_or cuts i d) y

-- where the coordinate lies amid two neighbouring cuts, the set is so from one to the other
abbrev pub IsUniformAbout : (ℤ → ℤ → Bool) → List ℤ → ℤ → Type 0
IsUniformAbout p cuts z = (i : ℕ) (d : ℤ) → i + 1 < length cuts → get_or cuts i d <ℤ z → z <ℤ get_or cuts (i + 1) d → IsUniform p cuts i

-- and so about both ends of what counts of each span
pub record IsUniformAboutEnds (p : ℤ → ℤ → Bool) (cuts : List ℤ) (parts : Parts) : Type 0 where
  pub begins : (a : ℕ) → a < parts.axis.count → IsUniformAbout p cuts (part_begin parts a)
  pub ends : (a : ℕ) → a < parts.axis.count → IsUniformAbout p cuts (part_end parts a)
