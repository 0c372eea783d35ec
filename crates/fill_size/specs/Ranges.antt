-- Ranges of columns, each from its first number on and below its second.
use Rattle.std.specs.Prelude.{◌≡◌, ℕ, ◌≤◌, ◌<◌, ◌^◌, ℤ, pos, ◌-ℤ◌, ◌≤ℤ◌, ◌<ℤ◌, ◌⊎◌, ◌↔◌, Bool, List, IsTrue, length, get_or}

-- each range has a column, none begins before one that stands before it, and their numbers are from -2^31 to 2^31
pub record AreRising (ranges : List (ℤ × ℤ)) : Type 0 where
  pub some : (a : ℕ) (d : ℤ × ℤ) → a < length ranges → (get_or ranges a d).0 <ℤ (get_or ranges a d).1
  pub rising : (a b : ℕ) (d : ℤ × ℤ) → a ≤ b → b < length ranges → (get_or ranges a d).0 ≤ℤ (get_or ranges b d).0
  pub least : (a : ℕ) (d : ℤ × ℤ) → a < length ranges → (pos 0 -ℤ pos (2 ^ 31)) ≤ℤ (get_or ranges a d).0
  pub most : (a : ℕ) (d : ℤ × ℤ) → a < length ranges → (get_or ranges a d).1 ≤ℤ pos (2 ^ 31)

-- those ranges are marked that were so before, and those of which `P` holds
abbrev pub AreMarked : (ℤ → ℤ → Type 0) → List (ℤ × ℤ) → List Bool → List Bool → Type 0
AreMarked P ranges old new = (a : ℕ) (d : ℤ × ℤ) (m : Bool) → a < length ranges → IsTrue (get_or new a m) ↔ (IsTrue (get_or old a m) ⊎ P (get_or ranges a d).0 (get_or ranges a d).1)

-- some number is in the range from `a` below `b` and in that from `c` below `d`
pub record HaveCommon (a b c d : ℤ) : Type 0 where
  pub at : ℤ
  pub first_from : a ≤ℤ at
  pub first_to : at <ℤ b
  pub second_from : c ≤ℤ at
  pub second_to : at <ℤ d

-- no range is wider, and one is so wide, or the width is 0
pub record IsWidest (ranges : List (ℤ × ℤ)) (width : ℤ) : Type 0 where
  pub most : (a : ℕ) (d : ℤ × ℤ) → a < length ranges → ((get_or ranges a d).1 -ℤ (get_or ranges a d).0) ≤ℤ width
  pub one : (width ≡ pos 0) ⊎ ((a : ℕ) × (a < length ranges) × ((d : ℤ × ℤ) → width ≡ (get_or ranges a d).1 -ℤ (get_or ranges a d).0))
