-- A sweep upwards over rectangles, from each line at which one begins or ends to the next.
use Rattle.std.specs.Prelude.{◌≡◌, ℤ, ◌≤ℤ◌, ◌<ℤ◌, false, ◌||◌, List, [], All}
use Rattle.fill_base.specs.declared.rect.Rect.{Rect}
use Rattle.fill_spans.specs.Spans.{floor, ceiling}
use Rattle.fill_spans.specs.Columns.{IsRisingBy}
use Rattle.fill_bands.specs.Squares.{covered}

-- the rectangle begins at the line or below, and ends above it
abbrev pub Crosses : ℤ → Rect → Type 0
Crosses line r = (r.y1 ≤ℤ line) × (line <ℤ r.y2)

-- `later`, by their lower edges, begin at the line or above it, and `crossing`, by their left edges, at it or below
pub record IsAtLine (later crossing : List Rect) (line : ℤ) : Type 0 where
  pub sorted : IsRisingBy (λ r. r.y1) later
  pub begins : All (λ r. line ≤ℤ r.y1) later
  pub begun : All (λ r. r.y1 ≤ℤ line) crossing
  pub lefts : IsRisingBy (λ r. r.x1) crossing
  pub low : floor <ℤ line
  pub high : line ≤ℤ ceiling

-- the rectangles by their lower edges, of which none holds a square below the line
pub record IsStart (rects sorted : List Rect) (line : ℤ) : Type 0 where
  pub at : IsAtLine sorted [] line
  pub same : (x y : ℤ) → covered rects x y ≡ covered sorted x y
  pub none : (x y : ℤ) → y <ℤ line → covered rects x y ≡ false

-- from a line up to the next one: `new` cross all rows between both, and hold what there is in these; above, what there is stays
pub record IsStep (line : ℤ) (later old rest new : List Rect) (next : ℤ) : Type 0 where
  pub at : IsAtLine rest new next
  pub further : line <ℤ next
  pub cross : All (Crosses line) new
  pub whole : All (λ r. next ≤ℤ r.y2) new
  pub here : (x y : ℤ) → line ≤ℤ y → y <ℤ next → (covered old x y || covered later x y) ≡ covered new x y
  pub above : (x y : ℤ) → next ≤ℤ y → (covered old x y || covered later x y) ≡ (covered new x y || covered rest x y)
