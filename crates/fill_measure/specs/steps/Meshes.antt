-- What numbers on cuts say of a set of squares, and those of a mesh of the squares that its rectangles have.
use Rattle.std.specs.Prelude.{ℕ, ◌+◌, ◌-◌, ◌*◌, ◌<◌, ◌≤◌, min, ℤ, Bool, List, length, get_or}
use Rattle.std.specs.Global.{Vec}
use Rattle.std.specs.List.{flat_map}
use Rattle.std.specs.Vec.{vec_items}
use Rattle.fill_region.specs.Squares.{covered}
use Rattle.fill_area.specs.Grid.{Grid, parts_across, parts_up}
use Rattle.fill_cells.specs.Mesh.{gaps}
use Rattle.fill_measure.specs.declared.prefix_sums.PrefixSums.{PrefixSums}
use Rattle.fill_measure.specs.declared.mesh.Mesh.{Mesh}
use Rattle.fill_measure.specs.steps.PrefixSums.{ArePrefixSums}
use Rattle.fill_measure.specs.steps.Bands.{IsRow}
use Rattle.fill_measure.specs.steps.Uniform.{IsUniformAboutEnds, turned}

-- the prefix sums of the band of `height` rows at index `k`, above its lowest cut, where the last band may have fewer rows
abbrev pub IsBand : (ℤ → ℤ → Bool) → List ℤ → List ℤ → ℕ → ℕ → List ℤ → Type 0
IsBand p across up height k prefix_sums = ArePrefixSums p across up (k * height) 1 ((min height (gaps up - k * height) + 1) * length across) prefix_sums

-- the prefix sums of all bands of `height` rows
pub record AreBands (p : ℤ → ℤ → Bool) (across up : List ℤ) (height : ℕ) (bands : List (Vec ℤ)) : Type 0 where
  pub all : gaps up ≤ length bands * height
  pub some : (k : ℕ) → k < length bands → k * height < gaps up
  pub each : (k : ℕ) (d : Vec ℤ) → k < length bands → IsBand p across up height k (get_or bands k d).items

-- the prefix sums of all bands, and how many squares lie below each and left of each cut across
pub record AreAllPrefixSums (p : ℤ → ℤ → Bool) (across up : List ℤ) (prefix_sums : PrefixSums) : Type 0 where
  pub bands : AreBands p across up prefix_sums.height prefix_sums.bands.items
  pub below : ArePrefixSums p across up 0 prefix_sums.height (length prefix_sums.bands.items * length across) prefix_sums.below.items

-- what tells the areas of windows: the prefix sums, and that the set is uniform about each side that stands amid two cuts
pub record AreSums (p : ℤ → ℤ → Bool) (windows : Grid) (across up : List ℤ) (prefix_sums : PrefixSums) : Type 0 where
  pub numbers : AreAllPrefixSums p across up prefix_sums
  pub columns : IsUniformAboutEnds p across (parts_across windows)
  pub rows : IsUniformAboutEnds (turned p) up (parts_up windows)

-- the squares of some rectangle of some list of a mesh
abbrev pub squares_of : Mesh → ℤ → ℤ → Bool
squares_of mesh = covered (flat_map vec_items mesh.lists.now)

-- the areas of the cells in row `j`
abbrev pub IsRowOf : Mesh → ℕ → List ℤ → Type 0
IsRowOf mesh j areas = IsRow (squares_of mesh) mesh.across.now mesh.up.now j areas

-- the prefix sums on `n` cuts from the cut `from` on, above that cut
abbrev pub ArePrefixSumsOf : Mesh → ℕ → ℕ → List ℤ → Type 0
ArePrefixSumsOf mesh from n prefix_sums = ArePrefixSums (squares_of mesh) mesh.across.now mesh.up.now from 1 (n * length mesh.across.now) prefix_sums

abbrev pub IsBandOf : Mesh → ℕ → ℕ → List ℤ → Type 0
IsBandOf mesh height k prefix_sums = IsBand (squares_of mesh) mesh.across.now mesh.up.now height k prefix_sums

-- those of its bands
abbrev pub AreBandsOf : Mesh → ℕ → List (Vec ℤ) → Type 0
AreBandsOf mesh height bands = AreBands (squares_of mesh) mesh.across.now mesh.up.now height bands

-- how many squares lie below each of the first `n` bands and left of each cut across
abbrev pub AreBelow : Mesh → ℕ → ℕ → List ℤ → Type 0
AreBelow mesh height n below = ArePrefixSums (squares_of mesh) mesh.across.now mesh.up.now 0 height (n * length mesh.across.now) below

-- all of these
abbrev pub AreAllPrefixSumsOf : Mesh → PrefixSums → Type 0
AreAllPrefixSumsOf mesh prefix_sums = AreAllPrefixSums (squares_of mesh) mesh.across.now mesh.up.now prefix_sums
