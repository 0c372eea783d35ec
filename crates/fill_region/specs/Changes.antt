-- What serves the functions that combine two sets: runs that the second set doesn't come near.
use Rattle.std.specs.Prelude.{◌≡◌, ℤ, ◌<ℤ◌, ◌⊎◌, ◌||◌, List, [], All}
use Rattle.std.specs.List.{Contains}
use Rattle.fill_base.specs.declared.rect.Rect.{Rect}
use Rattle.fill_bands.specs.Squares.{covered}
use Rattle.fill_spans.specs.declared.operation.Operation.{Operation}
use Rattle.fill_spans.specs.declared.operation.Operation.TheVariants.{Union, Minus, Meet}

-- two rectangles share no square, and no edge or corner either
abbrev pub IsAside : Rect → Rect → Type 0
IsAside r s = ((r.x2 <ℤ s.x1) ⊎ (s.x2 <ℤ r.x1)) ⊎ ((r.y2 <ℤ s.y1) ⊎ (s.y2 <ℤ r.y1))

-- the runs in two: those that come near the frame, and those aside of it
pub record ArePartedBy (frame : Rect) (runs near far : List Rect) : Type 0 where
  pub squares : (x y : ℤ) → covered runs x y ≡ (covered near x y || covered far x y)
  pub near_in : (r : Rect) → Contains near r → Contains runs r
  pub far_in : (r : Rect) → Contains far r → Contains runs r
  pub near_not : All (λ r. IsAside r frame → ⊥) near
  pub far_aside : All (λ r. IsAside r frame) far

-- what an operation keeps of runs that the second set doesn't come near
abbrev pub unchanged : Operation → List Rect → List Rect
unchanged Union far = far
unchanged Minus far = far
unchanged Meet far = []
