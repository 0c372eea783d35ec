-- What a walk within a frame has found.
use Rattle.std.specs.Prelude.{◌≡◌, ◌⊎◌, ◌<◌, ◌+◌, ℤ, Bool, true, ◌||◌, List, length, All}
use Rattle.fill_base.specs.declared.rect.Rect.{Rect}
use Rattle.fill_base.specs.Squares.{squares}
use Rattle.fill_region.specs.Squares.{covered}
use Rattle.gds_cells.specs.declared.error.FlattenError.{FlattenError}
use Rattle.gds_cells.specs.declared.error.FlattenError.TheVariants.{Memory, TooManyShapes}
use Rattle.gds_cells.specs.Copies.{Copy, drawn, AllStayInRange}
use Rattle.gds_flatten.specs.declared.found.Found.{Found}
use Rattle.gds_flatten.specs.declared.found.Framed.{Framed}
use Rattle.gds_flatten.specs.Frames.{met}
use Rattle.gds_flatten.specs.steps.Framing.{IsFineIf}
use Rattle.gds_flatten.specs.steps.Idle.{AreFull}
use Rattle.gds_flatten.specs.steps.Roots.{roots_copies, AreRooted}

-- extents are far from where sums end, and each shape has parts
pub record IsReady (w : Framed) : Type 0 where
  pub fine : All IsFineIf w.extents.now
  pub full : AreFull w.cells.now

-- on the squares of the rectangle these copies were added, and nothing else
abbrev pub IsDrawnOn : Rect → List Copy → (ℤ → ℤ → Bool) → (ℤ → ℤ → Bool) → Type 0
IsDrawnOn r cs old new = (x y : ℤ) → squares r x y ≡ true → new x y ≡ (old x y || drawn cs x y)

-- what the roots draw, and what is drawn with the rectangles
abbrev pub inner : Framed → Found → List Copy
inner w f = roots_copies w.cells.now f.roots.items

abbrev pub seen : Framed → Found → ℤ → ℤ → Bool
seen w f x y = covered f.rects.items x y || drawn (inner w f) x y

-- the copies that the roots draw are counted
pub record IsKept (w : Framed) (f : Found) : Type 0 where
  pub rooted : AreRooted w.cells.now w.counts.now f.roots.items
  pub number : f.inside ≡ length (inner w f)

-- the copies that meet the frame were counted, and if all stay in range, what they draw on it was added
pub record IsFound (w : Framed) (cs : List Copy) (old new : Found) : Type 0 where
  pub counted : new.copies ≡ old.copies + met w.frame.now cs
  pub drawn : AllStayInRange cs → IsDrawnOn w.frame.now cs (seen w old) (seen w new)
  pub stay : AllStayInRange cs → AllStayInRange (inner w old) → AllStayInRange (inner w new)
  pub kept : IsKept w old → IsKept w new

-- why they weren't: memory is refused, or more than 4,000,000 meet the frame
abbrev pub IsRefusalOn : Rect → List Copy → Found → FlattenError → Type 0
IsRefusalOn r cs old e = (e ≡ Memory) ⊎ ((e ≡ TooManyShapes) × (4000000 < old.copies + met r cs))
