-- Distances between unit squares, in x and in y apart (the square metric).
use Rattle.std.specs.Prelude.{◌≡◌, ℤ, ◌+ℤ◌, ◌-ℤ◌, ◌≤ℤ◌, ◌<ℤ◌, Bool, true}
use Rattle.fill_base.specs.Coordinates.{lowest, highest}

-- two coordinates are at most `d` apart
pub record IsNear (d x u : ℤ) : Type 0 where
  pub above : (x -ℤ u) ≤ℤ d
  pub below : (u -ℤ x) ≤ℤ d

-- some square of `p` is at most `d` from the square (x, y), in x and in y
pub record Reaches (p : ℤ → ℤ → Bool) (d x y : ℤ) : Type 0 where
  pub u : ℤ
  pub v : ℤ
  pub square : p u v ≡ true
  pub across : IsNear d x u
  pub up : IsNear d y v

-- a square of `p` and one of `q` are at most `spacing` apart: at spacing 0 they share a square, above 0 there is a gap below the spacing
pub record InConflict (p q : ℤ → ℤ → Bool) (spacing : ℤ) : Type 0 where
  pub x : ℤ
  pub y : ℤ
  pub square : q x y ≡ true
  pub reached : Reaches p spacing x y

-- the square is in `q` where `p`, grown by `d` on all sides, holds it
abbrev pub IsSized : (ℤ → ℤ → Bool) → ℤ → (ℤ → ℤ → Bool) → Type 0
IsSized p d q = (x y : ℤ) → (q x y ≡ true → Reaches p d x y) × (Reaches p d x y → q x y ≡ true)

-- two ranges, one grown by `s` at both ends, share a number
abbrev pub AreNear : ℤ → ℤ → ℤ → ℤ → ℤ → Type 0
AreNear a b c d s = (a <ℤ (d +ℤ s)) × (c <ℤ (b +ℤ s))

-- some square of `p` lies between these edges
pub record HasSquare (p : ℤ → ℤ → Bool) (left bottom right top : ℤ) : Type 0 where
  pub x : ℤ
  pub y : ℤ
  pub square : p x y ≡ true
  pub from_left : left ≤ℤ x
  pub to_right : x <ℤ right
  pub from_bottom : bottom ≤ℤ y
  pub to_top : y <ℤ top

-- all that `p` grown by `d` holds lies within the coordinates
abbrev pub StaysInRange : (ℤ → ℤ → Bool) → ℤ → Type 0
StaysInRange p d = (x y : ℤ) → Reaches p d x y → (lowest ≤ℤ x) × (x <ℤ highest) × (lowest ≤ℤ y) × (y <ℤ highest)
