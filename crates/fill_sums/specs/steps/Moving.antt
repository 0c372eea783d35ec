-- Numbers of which some have moved.
use Rattle.std.specs.Prelude.{◌≡◌, ℕ, ℤ, pos, ◌≤ℤ◌, Bool, true, cond, List, length, get_or}
use Rattle.fill_area.specs.Density.{window_area}
use Rattle.fill_area.specs.Grid.{Grid}
use Rattle.fill_area.specs.Sharing.{IsWindow}
use Rattle.fill_sums.specs.declared.moving.Way.{Way}
use Rattle.fill_sums.specs.Numbers.{in_range, moved, number_at, window_size}

-- the number of this window may move
pub record CanMove (way : Way) (p : ℤ → ℤ → Bool) (g : Grid) (numbers : List ℤ) (a b : ℕ) : Type 0 where
  pub least : pos 0 ≤ℤ number_at g numbers a b
  pub most : number_at g numbers a b ≤ℤ window_size g
  pub stays_least : pos 0 ≤ℤ moved way (number_at g numbers a b) (window_area p g a b)
  pub stays_most : moved way (number_at g numbers a b) (window_area p g a b) ≤ℤ window_size g

-- the numbers of some windows have moved, the others are as they were
pub record IsMovedAt (done : ℕ → ℕ → Bool) (way : Way) (p : ℤ → ℤ → Bool) (g : Grid) (old new : List ℤ) : Type 0 where
  pub count : length new ≡ length old
  pub each : (a b : ℕ) → IsWindow g a b → number_at g new a b ≡ cond (done a b) (moved way (number_at g old a b) (window_area p g a b)) (number_at g old a b)

-- neighbouring numbers have moved by so many squares, the others are as they were
pub record IsRangeMoved (from to : ℕ) (way : Way) (area : ℕ) (old new : List ℤ) : Type 0 where
  pub count : length new ≡ length old
  pub each : (k : ℕ) → get_or new k (pos 0) ≡ cond (in_range from to k) (moved way (get_or old k (pos 0)) area) (get_or old k (pos 0))

-- the set has this area in each window of row `b` from one column on and before another
abbrev pub AreAlike : (ℤ → ℤ → Bool) → Grid → ℕ → ℕ → ℕ → ℤ → Type 0
AreAlike p g from to b area = (a : ℕ) → in_range from to a ≡ true → area ≡ pos (window_area p g a b)
