-- How many squares lie below and left of each crossing of two cuts.
use Rattle.std.specs.Prelude.{◌≡◌, ℕ, ◌+◌, ◌*◌, ◌<◌, ℤ, pos, Bool, List, length, get_or}
use Rattle.fill_base.specs.Squares.{area_between}

-- how many squares of the set lie between the cuts `left` and `right` across and `bottom` and `top` upwards
abbrev pub block_area : (ℤ → ℤ → Bool) → List ℤ → List ℤ → ℕ → ℕ → ℕ → ℕ → ℤ → ℕ
block_area p across up left bottom right top d = area_between p (get_or across left d) (get_or up bottom d) (get_or across right d) (get_or up top d)

-- the first `n` numbers of a list that says, row by row, how many lie left of each cut across and above the cut `bottom`, below that cut and each `step` cuts further
pub record ArePrefixSums (p : ℤ → ℤ → Bool) (across up : List ℤ) (bottom step n : ℕ) (prefix_sums : List ℤ) : Type 0 where
  pub count : length prefix_sums ≡ n
  pub each : (i j : ℕ) (d : ℤ) → i < length across → j * length across + i < n → get_or prefix_sums (j * length across + i) d ≡ pos (block_area p across up 0 bottom i (bottom + j * step) d)
