-- How long chains of references are, up to 256.
use Rattle.std.specs.Prelude.{◌≡◌, ℕ, ◌+◌, ◌<◌, ◌≤◌, ◌⊎◌, List, length}
use Rattle.gds_cells.specs.Graphs.{Graph, item, IsDeep}

-- so many references the longest chain from the cell has, or it has 256 or more
pub record IsHeight (g : Graph) (c h : ℕ) : Type 0 where
  pub most : h ≤ 256
  pub deep : (n : ℕ) → n ≤ h → IsDeep g n c
  pub flat : (n : ℕ) → IsDeep g n c → (n ≤ h) ⊎ (h ≡ 256)

pub record IsGreater (a b c : ℕ) : Type 0 where
  pub first : a ≤ c
  pub second : b ≤ c
  pub either : (c ≡ a) ⊎ (c ≡ b)

-- one more, at most 256
pub record IsOver (h above : ℕ) : Type 0 where
  pub most : above ≤ 256
  pub least : above ≤ h + 1
  pub more : (above ≡ h + 1) ⊎ (above ≡ 256)

-- one more than the greatest height of the cells of the row, at most 256; 0 where there are none
pub record IsAbove (row heights : List ℕ) (h : ℕ) : Type 0 where
  pub most : h ≤ 256
  pub over : (n : ℕ) → n < h → (k : ℕ) × (k < length row) × (n ≤ item heights (item row k))
  pub under : (k : ℕ) → k < length row → (item heights (item row k) < h) ⊎ (h ≡ 256)
