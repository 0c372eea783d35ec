-- A set of unit squares as its runs. In each row of squares a set has longest intervals; a run is such
-- an interval with all rows upwards in which it is one, unchanged. A wire is one run, whichever way it lies.
use Rattle.std.specs.Prelude.{◌≡◌, true, false, ℤ, pos, ◌-ℤ◌, ◌≤ℤ◌, ◌<ℤ◌, ◌⊎◌, Bool, ◌&&◌, List, [], ◌∷◌, All}
use Rattle.std.specs.List.{list_any}
use Rattle.fill_base.specs.Counts.{is_between}
pub use Rattle.fill_base.specs.Sides.{Sides, sides_of}

-- in the row `y` the set has the squares from `left` on and before `right`, but not the one before nor the one after
pub record IsInterval (p : ℤ → ℤ → Bool) (left right y : ℤ) : Type 0 where
  pub filled : (x : ℤ) → left ≤ℤ x → x <ℤ right → p x y ≡ true
  pub before : p (left -ℤ pos 1) y ≡ false
  pub after : p right y ≡ false

-- an interval of each of its rows, and neither of the row below nor of the row above
pub record IsRun (p : ℤ → ℤ → Bool) (s : Sides) : Type 0 where
  pub wide : s.left <ℤ s.right
  pub tall : s.bottom <ℤ s.top
  pub rows : (y : ℤ) → s.bottom ≤ℤ y → y <ℤ s.top → IsInterval p s.left s.right y
  pub begins : IsInterval p s.left s.right (s.bottom -ℤ pos 1) → ⊥
  pub ends : IsInterval p s.left s.right s.top → ⊥

-- the square (x, y) lies within these sides
abbrev pub has : Sides → ℤ → ℤ → Bool
has s x y = is_between s.left s.right x && is_between s.bottom s.top y

-- the square (x, y) is in the set
abbrev pub holds : List Sides → ℤ → ℤ → Bool
holds runs x y = list_any (λ s. has s x y) runs

-- `s` begins in a lower row than `t`, or in the same row further left
abbrev pub Precedes : Sides → Sides → Type 0
Precedes s t = (s.bottom <ℤ t.bottom) ⊎ ((s.bottom ≡ t.bottom) × (s.left <ℤ t.left))

-- each precedes the next one
abbrev pub AreInOrder : List Sides → Type 0
AreInOrder [] = Unit {0}
AreInOrder (s ∷ []) = Unit {0}
AreInOrder (s ∷ t ∷ rest) = Precedes s t × AreInOrder (t ∷ rest)

-- each shares no square with a later one
abbrev pub AreApart : List Sides → Type 0
AreApart [] = Unit {0}
AreApart (s ∷ rest) = All (λ t. (x y : ℤ) → has s x y ≡ true → has t x y ≡ false) rest × AreApart rest

-- the one way to write a set of squares: all its runs, from the lowest row upwards and in a row from left to right
pub record AreRuns (runs : List Sides) : Type 0 where
  pub each : All (IsRun (holds runs)) runs
  pub ordered : AreInOrder runs
