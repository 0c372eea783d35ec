-- A sweep upwards over the lines at which a rectangle begins or ends.
use Rattle.std.specs.Prelude.{◌≡◌, ℤ, ◌≤ℤ◌, ◌<ℤ◌, List, ◌||◌, All}
use Rattle.fill_base.specs.declared.rect.Rect.{Rect}
use Rattle.fill_spans.specs.Spans.{ceiling}
use Rattle.fill_spans.specs.Columns.{IsRisingBy}
use Rattle.fill_bands.specs.Lines.{Crosses}
use Rattle.fill_bands.specs.Squares.{covered}

-- nothing of `later` begins and nothing of `crossing` ends below the line, which no line above has of it
pub record IsNextLine (later crossing : List Rect) (line : ℤ) : Type 0 where
  pub begins : All (λ r. line ≤ℤ r.y1) later
  pub ends : All (λ r. line ≤ℤ r.y2) crossing
  pub high : line ≤ℤ ceiling
  pub nearest : (y : ℤ) → y <ℤ ceiling → All (λ r. y <ℤ r.y1) later → All (λ r. y <ℤ r.y2) crossing → y <ℤ line

-- from the list `old` of those that cross the lines below, and those that begin at this one, to the list `new` that cross it
pub record IsCrossed (line : ℤ) (old begun new : List Rect) : Type 0 where
  pub sorted : IsRisingBy (λ r. r.x1) old → IsRisingBy (λ r. r.x1) new
  pub squares : All (λ r. r.y1 ≤ℤ line) old → All (Crosses line) begun → (x y : ℤ) → line ≤ℤ y → covered new x y ≡ (covered old x y || covered begun x y)
  pub cross : All (λ r. r.y1 ≤ℤ line) old → All (Crosses line) begun → All (Crosses line) new
