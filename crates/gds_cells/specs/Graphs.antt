-- Which cells refer to which. A graph has, for each cell by its index, the indices of the cells that
-- it refers to, reference by reference.
use Rattle.std.specs.Prelude.{◌≡◌, ℕ, zero, suc, ◌<◌, ◌≤◌, List, [], length, get_or}

abbrev pub Graph : Type 0
Graph = List (List ℕ)

-- the cells that a cell refers to; none where there's no such cell
abbrev pub next : Graph → ℕ → List ℕ
next g c = get_or g c []

-- the item at this index, 0 where there is none
abbrev pub item : List ℕ → ℕ → ℕ
item xs k = get_or xs k 0

-- a chain of n references leads from one cell to another
abbrev pub IsChain : Graph → ℕ → ℕ → ℕ → Type 0
IsChain g zero c d = c ≡ d
IsChain g (suc n) c d = (k : ℕ) × (k < length (next g c)) × IsChain g n (item (next g c) k) d

-- the top refers to the cell, itself or through others; so does it to itself
abbrev pub IsReached : Graph → ℕ → ℕ → Type 0
IsReached g top c = (n : ℕ) × IsChain g n top c

-- a reached cell refers to itself, at once or through others
pub record IsCyclic (g : Graph) (top : ℕ) : Type 0 where
  pub cell : ℕ
  pub reached : IsReached g top cell
  pub more : ℕ
  pub chain : IsChain g (suc more) cell cell

-- a chain of n references begins at the cell
abbrev pub IsDeep : Graph → ℕ → ℕ → Type 0
IsDeep g n c = (d : ℕ) × IsChain g n c d

-- a chain of 256 references or more begins at the cell: 257 cells or more
pub record IsTooDeep (g : Graph) (c : ℕ) : Type 0 where
  pub references : ℕ
  pub chain : IsDeep g references c
  pub many : 256 ≤ references

-- each reference is to one of the cells, or to the index behind the last for a missing one
abbrev pub IsWhole : Graph → Type 0
IsWhole g = (c k : ℕ) → k < length (next g c) → item (next g c) k ≤ length g
