-- Numbers of squares, one for each window of a grid: row by row, the window in column `a` and row `b` at `b * columns + a`.
use Rattle.std.specs.Prelude.{◌≡◌, ℕ, ◌+◌, ◌*◌, ℤ, pos, ◌+ℤ◌, ◌-ℤ◌, ◌*ℤ◌, ◌≤ℤ◌, Bool, ◌&&◌, nat_le, nat_lt, List, length, get_or}
use Rattle.fill_area.specs.Density.{window_area}
use Rattle.fill_area.specs.Grid.{Grid, IsGrid}
use Rattle.fill_area.specs.Sharing.{IsWindow}
use Rattle.fill_sums.specs.declared.moving.Way.{Way}
use Rattle.fill_sums.specs.declared.moving.Way.TheVariants.{Up, Down}

-- windows, and for each the squares of metal in it, and those of metal and boxes
pub record WindowNumbers : Type 0 where
  pub windows : Grid
  pub drawn : List ℤ
  pub total : List ℤ

abbrev pub number_at : Grid → List ℤ → ℕ → ℕ → ℤ
number_at g numbers a b = get_or numbers (b * g.across.count + a) (pos 0)

-- how many squares a window has, of which only a part may count
abbrev pub window_size : Grid → ℤ
window_size g = g.across.length *ℤ g.up.length

-- a number for each window, from 0 to the window's area
pub record AreNumbers (g : Grid) (numbers : List ℤ) : Type 0 where
  pub grid : IsGrid g
  pub count : length numbers ≡ g.across.count * g.up.count
  pub least : (a b : ℕ) → IsWindow g a b → pos 0 ≤ℤ number_at g numbers a b
  pub most : (a b : ℕ) → IsWindow g a b → number_at g numbers a b ≤ℤ window_size g

-- a number after so many squares came, or went
abbrev pub moved : Way → ℤ → ℕ → ℤ
moved Up number area = number +ℤ pos area
moved Down number area = number -ℤ pos area

-- with so many squares a window, each number stays from 0 to the window's area
pub record StaysBy (way : Way) (f : ℕ → ℕ → ℕ) (g : Grid) (numbers : List ℤ) : Type 0 where
  pub least : (a b : ℕ) → IsWindow g a b → pos 0 ≤ℤ moved way (number_at g numbers a b) (f a b)
  pub most : (a b : ℕ) → IsWindow g a b → moved way (number_at g numbers a b) (f a b) ≤ℤ window_size g

-- each window's number has risen or fallen by so many squares
pub record IsMovedBy (way : Way) (f : ℕ → ℕ → ℕ) (g : Grid) (old new : List ℤ) : Type 0 where
  pub count : length new ≡ length old
  pub each : (a b : ℕ) → IsWindow g a b → number_at g new a b ≡ moved way (number_at g old a b) (f a b)

-- the same by the area of a set in the window
abbrev pub StaysWithin : Way → (ℤ → ℤ → Bool) → Grid → List ℤ → Type 0
StaysWithin way p g numbers = StaysBy way (window_area p g) g numbers

abbrev pub IsMoved : Way → (ℤ → ℤ → Bool) → Grid → List ℤ → List ℤ → Type 0
IsMoved way p g old new = IsMovedBy way (window_area p g) g old new

-- an index from `low` on and below `high`
abbrev pub in_range : ℕ → ℕ → ℕ → Bool
in_range low high k = nat_le low k && nat_lt k high

-- both numbers of each window are from 0 to its area
pub record AreSums (s : WindowNumbers) : Type 0 where
  pub drawn : AreNumbers s.windows s.drawn
  pub total : AreNumbers s.windows s.total
