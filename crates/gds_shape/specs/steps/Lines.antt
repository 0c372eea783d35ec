-- A sweep upwards over the lines at which an edge begins or ends.
use Rattle.std.specs.Prelude.{◌≡◌, ◌+◌, ℤ, ◌≤ℤ◌, ◌<ℤ◌, Bool, List, All}
use Rattle.fill_base.specs.Coordinates.{highest}
use Rattle.gds_shape.specs.declared.edge.Edge.{Edge}
use Rattle.gds_shape.specs.steps.Edges.{passing, AreRisingBy}

-- the edge begins at the line or below, and ends above it
abbrev pub Crosses : ℤ → Edge → Type 0
Crosses line e = (e.bottom ≤ℤ line) × (line <ℤ e.top)

-- nothing of `later` begins and nothing of `crossing` ends below the line, which no line above has of it
pub record IsNextLine (later crossing : List Edge) (line : ℤ) : Type 0 where
  pub begins : All (λ e. line ≤ℤ e.bottom) later
  pub ends : All (λ e. line ≤ℤ e.top) crossing
  pub high : line ≤ℤ highest
  pub nearest : (y : ℤ) → y <ℤ highest → All (λ e. y <ℤ e.bottom) later → All (λ e. y <ℤ e.top) crossing
      → y <ℤ line

-- from the edges that cross the lines below, and those that begin at this one, to those that cross it
pub record IsCrossed (line : ℤ) (old begun new : List Edge) : Type 0 where
  pub sorted : AreRisingBy (λ e. e.x) new
  pub same : (way : Bool) (x y : ℤ) → line ≤ℤ y → passing way new x y ≡ passing way old x y + passing way begun x y
  pub cross : All (λ e. e.bottom ≤ℤ line) old → All (λ e. e.bottom ≤ℤ line) begun → All (Crosses line) new
