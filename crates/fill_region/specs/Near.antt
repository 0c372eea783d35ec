-- Some runs of a set.
use Rattle.std.specs.Prelude.{◌≡◌, ◌++◌, ℤ, pos, ◌+ℤ◌, ◌≤ℤ◌, ◌^◌, Bool, List, All}
use Rattle.fill_base.specs.declared.rect.Rect.{Rect}
use Rattle.fill_region.specs.Runs.{sides_of, IsRun}

-- each is a run of one and the same set
pub record AreSomeRuns (rects : List Rect) : Type 0 where
  pub set : ℤ → ℤ → Bool
  pub each : All (λ r. IsRun set (sides_of r)) rects

-- none of the rectangles is taller
pub record IsTallest (rects : List Rect) (height : ℤ) : Type 0 where
  pub least : pos 0 ≤ℤ height
  pub most : height ≤ℤ pos (2 ^ 31)
  pub each : All (λ r. r.y2 ≤ℤ (r.y1 +ℤ height)) rects

-- the part stands in the list as one stretch
pub record IsStretch (part rects : List Rect) : Type 0 where
  pub before : List Rect
  pub after : List Rect
  pub is : rects ≡ before ++ (part ++ after)
