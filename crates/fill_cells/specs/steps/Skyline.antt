-- Towers side by side, which stand for the rectangles that a sweep upwards has come to.
use Rattle.std.specs.Prelude.{◌≡◌, ◌||◌, ℕ, ◌<◌, ◌≤◌, ℤ, ◌<ℤ◌, ◌≤ℤ◌, List, ◌++◌, length, get_or, take, drop, All}
use Rattle.std.specs.List.Sorted.{IsPartitionPoint}
use Rattle.fill_base.specs.declared.rect.Rect.{Rect}
use Rattle.fill_base.specs.Squares.{squares}
use Rattle.fill_region.specs.Squares.{covered}

-- each ends where the next begins, or left of it
abbrev pub AreApart : List Rect → Type 0
AreApart towers = (i j : ℕ) (d : Rect) → i < j → j < length towers → (get_or towers i d).x2 ≤ℤ (get_or towers j d).x1

-- and begins at the cut or below
pub record IsSkyline (cut : ℤ) (towers : List Rect) : Type 0 where
  pub apart : AreApart towers
  pub begun : All (λ t. t.y1 ≤ℤ cut) towers

-- the rectangle is to be put to the towers, of which `at` end left of it
pub record IsOpen (towers : List Rect) (at : ℕ) (rect : Rect) : Type 0 where
  pub skyline : IsSkyline rect.y1 towers
  pub within : at ≤ length towers
  pub parted : IsPartitionPoint (λ t. t.x2 ≤ℤ rect.x1) (λ t. rect.x1 <ℤ t.x2) towers at

-- from its lower edge up, the rectangle has what the tower has
abbrev pub IsNoMore : Rect → Rect → Type 0
IsNoMore tower rect = (x y : ℤ) → rect.y1 ≤ℤ y → squares rect x y ≡ (squares tower x y || squares rect x y)

-- the towers have the rectangle too, from its lower edge up
pub record IsSettled (rect : Rect) (old new : List Rect) : Type 0 where
  pub skyline : IsSkyline rect.y1 new
  pub squares : (x y : ℤ) → rect.y1 ≤ℤ y → covered new x y ≡ (covered old x y || squares rect x y)

-- the towers without those from one to another, which give way
abbrev pub without : List Rect → ℕ → ℕ → List Rect
without towers from to = take from towers ++ drop to towers

-- what a rectangle has from one column to another
abbrev pub IsColumns : Rect → Rect → ℤ → ℤ → Type 0
IsColumns columns rect from to = (columns.x1 ≡ from) × (columns.y1 ≡ rect.y1) × (columns.x2 ≡ to) × (columns.y2 ≡ rect.y2)

-- some of the rectangle is put to the towers, and the rest of it, up to its right edge, is to be put to them
pub record GoesOn (rect : Rect) (old new : List Rect) (next : ℕ) (rest : Rect) : Type 0 where
  pub is_open : IsOpen new next rest
  pub bottom : rest.y1 ≡ rect.y1
  pub right : rest.x2 ≡ rect.x2
  pub squares : (x y : ℤ) → rect.y1 ≤ℤ y → (covered new x y || squares rest x y) ≡ (covered old x y || squares rect x y)

-- the rectangle has come to a tower that is no lower: it ends there, or goes on right of it
pub record IsPassed (tower rect : Rect) (old new : List Rect) (next : ℕ) : Type 0 where
  pub ends : rect.x2 ≤ℤ tower.x2 → IsSettled rect old new
  pub goes_on : (rest : Rect) → tower.x2 <ℤ rect.x2 → IsColumns rest rect tower.x2 rect.x2 → GoesOn rect old new next rest
