-- Lists of rectangles that stand for a set of squares within a part of the plane.
use Rattle.std.specs.Prelude.{◌≡◌, ◌||◌, ◌-◌, ◌<◌, ℤ, Bool, true, List, length, get_or}
use Rattle.fill_base.specs.declared.rect.Rect.{Rect}
use Rattle.fill_base.specs.Squares.{squares}
use Rattle.fill_region.specs.Squares.{covered}

-- in the part, the list covers the squares of the set
abbrev pub AreWithin : Rect → (ℤ → ℤ → Bool) → List Rect → Type 0
AreWithin part p list = (x y : ℤ) → squares part x y ≡ true → covered list x y ≡ p x y

-- in the part, the list covers what it did and the rectangle
abbrev pub AreMore : Rect → Rect → List Rect → List Rect → Type 0
AreMore part rect old new = AreWithin part (λ x y. covered old x y || squares rect x y) new

-- the list covers the whole part
abbrev pub IsWhole : Rect → List Rect → Type 0
IsWhole part list = (x y : ℤ) → squares part x y ≡ true → covered list x y ≡ true

-- the squares of the last rectangle of the list and of a piece
pub record IsWithLast (list : List Rect) (piece rect : Rect) : Type 0 where
  pub some : 0 < length list
  pub both : (d : Rect) (x y : ℤ) → squares rect x y ≡ (squares (get_or list (length list - 1) d) x y || squares piece x y)
