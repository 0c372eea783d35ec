-- A layer of a design after edits.
use Rattle.std.specs.Prelude.{◌≡◌, ℤ, Bool, true, false, ◌&&◌, ◌||◌, not, List}
use Rattle.fill_region.specs.Runs.{Sides, holds}

-- what it was opened with, what of that edits cut, and what they added to it
pub record Layered : Type 0 where
  pub opening : List Sides
  pub cut : List Sides
  pub added : List Sides

-- the square is in the layer
abbrev pub in_layer : Layered → ℤ → ℤ → Bool
in_layer l x y = (holds l.opening x y && not (holds l.cut x y)) || holds l.added x y

-- what is cut was there at the opening, and what is added was not
pub record IsLayered (l : Layered) : Type 0 where
  pub cut : (x y : ℤ) → holds l.cut x y ≡ true → holds l.opening x y ≡ true
  pub added : (x y : ℤ) → holds l.added x y ≡ true → holds l.opening x y ≡ false

-- the metal of a design after edits, and its existing fill, which edits leave as it is
pub record Drawn : Type 0 where
  pub metal : Layered
  pub existing : List Sides

-- the square counts: it is metal, or existing fill
abbrev pub is_drawn : Drawn → ℤ → ℤ → Bool
is_drawn d x y = in_layer d.metal x y || holds d.existing x y
