-- Rectangles shared out to the parts of the plane between cuts.
use Rattle.std.specs.Prelude.{◌≡◌, ◌≢◌, ◌&&◌, ◌||◌, ℕ, ◌+◌, ◌<◌, ◌≤◌, ℤ, ◌<ℤ◌, Bool, true, List, length, get_or}
use Rattle.std.specs.Global.{Vec}
use Rattle.fill_base.specs.declared.rect.Rect.{Rect}
use Rattle.fill_base.specs.Counts.{is_between}
use Rattle.fill_base.specs.Squares.{squares}
use Rattle.fill_region.specs.Squares.{covered}
use Rattle.fill_cells.specs.Mesh.{gaps, covered_at, row_squares, AreListsOf}

-- the squares of a row of cells from the cut `lo` on and below `hi`
abbrev pub cell_squares : Rect → ℤ → ℤ → ℤ → ℤ → Bool
cell_squares row lo hi x y = is_between lo hi x && is_between row.y1 row.y2 y

-- each list covers, in the cell between two neighbouring cuts, the squares of the set
abbrev pub AreShares : Rect → List ℤ → (ℤ → ℤ → Bool) → List (Vec Rect) → Type 0
AreShares row cuts p lists = AreListsOf (Vec Rect) (λ v. covered v.items) (cell_squares row) cuts p lists

-- in each part the list covers what it did and the rectangle
pub record AreMoreIn (V : Type 0) (cover : V → ℤ → ℤ → Bool) (part : ℤ → ℤ → ℤ → ℤ → Bool) (cuts : List ℤ) (rect : Rect) (old new : List V) : Type 0 where
  pub count : length new ≡ length old
  pub each : (k : ℕ) (d : ℤ) (e : V) → k < gaps cuts → (x y : ℤ) → part (get_or cuts k d) (get_or cuts (k + 1) d) x y ≡ true
      → cover (get_or new k e) x y ≡ (cover (get_or old k e) x y || squares rect x y)

-- the list of the part at `at` covers there what it did and the rectangle, and the other lists are as they were
pub record IsMoreAt (V : Type 0) (cover : V → ℤ → ℤ → Bool) (part : ℤ → ℤ → ℤ → ℤ → Bool) (cuts : List ℤ) (rect : Rect) (at : ℕ) (old new : List V) : Type 0 where
  pub count : length new ≡ length old
  pub others : (k : ℕ) (e : V) → k ≢ at → get_or new k e ≡ get_or old k e
  pub here : (d : ℤ) (e : V) (x y : ℤ) → part (get_or cuts at d) (get_or cuts (at + 1) d) x y ≡ true
      → cover (get_or new at e) x y ≡ (cover (get_or old at e) x y || squares rect x y)

-- both for the lists of cells, and for those of rows
abbrev pub AreShared : Rect → List ℤ → Rect → List (Vec Rect) → List (Vec Rect) → Type 0
AreShared row cuts rect old new = AreMoreIn (Vec Rect) (λ v. covered v.items) (cell_squares row) cuts rect old new

abbrev pub IsSharedAt : Rect → List ℤ → Rect → ℕ → List (Vec Rect) → List (Vec Rect) → Type 0
IsSharedAt row cuts rect at old new = IsMoreAt (Vec Rect) (λ v. covered v.items) (cell_squares row) cuts rect at old new

abbrev pub AreListed : List Rect → List ℤ → Rect → List (Vec ℕ) → List (Vec ℕ) → Type 0
AreListed rects up rect old new = AreMoreIn (Vec ℕ) (λ v. covered_at rects v.items) row_squares up rect old new

abbrev pub IsListedAt : List Rect → List ℤ → Rect → ℕ → List (Vec ℕ) → List (Vec ℕ) → Type 0
IsListedAt rects up rect at old new = IsMoreAt (Vec ℕ) (λ v. covered_at rects v.items) row_squares up rect at old new

-- each gap that has a number from `lo` on and below `hi` is one of those from `first` on and below `past`
pub record AreMet (cuts : List ℤ) (lo hi : ℤ) (first past : ℕ) : Type 0 where
  pub within : past ≤ gaps cuts
  pub from_first : (k : ℕ) (d : ℤ) → k < gaps cuts → lo <ℤ get_or cuts (k + 1) d → get_or cuts k d <ℤ hi → first ≤ k
  pub to_past : (k : ℕ) (d : ℤ) → k < gaps cuts → lo <ℤ get_or cuts (k + 1) d → get_or cuts k d <ℤ hi → k < past
