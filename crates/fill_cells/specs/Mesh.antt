-- A mesh: cuts across and cuts upwards, and the cells between neighbouring ones.
use Rattle.std.specs.Prelude.{◌≡◌, ℕ, ◌+◌, ◌-◌, ◌<◌, ◌≤◌, ℤ, pos, ◌<ℤ◌, Bool, true, List, length, get_or, take, drop}
use Rattle.std.specs.Global.{Vec}
use Rattle.std.specs.List.{list_any}
use Rattle.fill_base.specs.declared.rect.Rect.{Rect}
use Rattle.fill_base.specs.Counts.{is_between}
use Rattle.fill_base.specs.Coordinates.{IsCoordinate}
use Rattle.fill_base.specs.Squares.{area_between}
use Rattle.fill_region.specs.Squares.{covered}

-- two coordinates or more, each above the one before
pub record AreCuts (cuts : List ℤ) : Type 0 where
  pub some : 2 ≤ length cuts
  pub coordinates : (i : ℕ) (d : ℤ) → i < length cuts → IsCoordinate (get_or cuts i d)
  pub rising : (i j : ℕ) (d : ℤ) → i < j → j < length cuts → get_or cuts i d <ℤ get_or cuts j d

-- how many gaps there are between the cuts
abbrev pub gaps : List ℤ → ℕ
gaps cuts = length cuts - 1

-- the areas of the cells of one row, from the cut `from` to the cut `to`
pub record AreRowAreas (p : ℤ → ℤ → Bool) (across : List ℤ) (from to : ℤ) (areas : List ℤ) : Type 0 where
  pub count : length areas ≡ gaps across
  pub each : (i : ℕ) (d : ℤ) → i < gaps across → get_or areas i d ≡ pos (area_between p (get_or across i d) from (get_or across (i + 1) d) to)

-- some rectangle at one of these places of the list holds the square
abbrev pub covered_at : List Rect → List ℕ → ℤ → ℤ → Bool
covered_at rects places x y = list_any (λ k. covered (take 1 (drop k rects)) x y) places

-- each list covers, in the part between two neighbouring cuts, the squares of the set
pub record AreListsOf (V : Type 0) (cover : V → ℤ → ℤ → Bool) (part : ℤ → ℤ → ℤ → ℤ → Bool) (cuts : List ℤ) (p : ℤ → ℤ → Bool) (lists : List V) : Type 0 where
  pub count : length lists ≡ gaps cuts
  pub each : (k : ℕ) (d : ℤ) (e : V) → k < gaps cuts → (x y : ℤ) → part (get_or cuts k d) (get_or cuts (k + 1) d) x y ≡ true → cover (get_or lists k e) x y ≡ p x y

-- the squares from the cut `lo` on and below `hi`
abbrev pub row_squares : ℤ → ℤ → ℤ → ℤ → Bool
row_squares lo hi x y = is_between lo hi y

-- for each row of cells the places of rectangles that cover there what all of them do
abbrev pub AreRowLists : List Rect → List ℤ → List (Vec ℕ) → Type 0
AreRowLists rects up lists = AreListsOf (Vec ℕ) (λ v. covered_at rects v.items) row_squares up (covered rects) lists
