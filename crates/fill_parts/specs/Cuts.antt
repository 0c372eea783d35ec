-- Rows, of windows or of tiles, cut into parts of nearly equal numbers. Parts are numbered from 0 on.
use Rattle.std.specs.Prelude.{ℕ, ◌+◌, ◌*◌, ◌/◌, ◌<◌, ◌≤◌, Bool, ◌&&◌, nat_lt, not}

-- one of so many parts
pub record Part : Type 0 where
  pub number : ℕ
  pub count : ℕ

pub record IsPart (part : Part) : Type 0 where
  pub below : part.number < part.count
  pub few : part.count ≤ 4096

-- where part `k` of `count` begins in `rows` rows, and where the part before it ends
abbrev pub cut : ℕ → ℕ → ℕ → ℕ
cut rows count k = k * rows / count

-- the part has the rows from its first one on and below the one past its last
abbrev pub first_row : Part → ℕ → ℕ
first_row part rows = cut rows part.count part.number

abbrev pub past_row : Part → ℕ → ℕ
past_row part rows = cut rows part.count (part.number + 1)

abbrev pub has_row : Part → ℕ → ℕ → Bool
has_row part rows row = not (nat_lt row (first_row part rows)) && nat_lt row (past_row part rows)
