-- A plan of small numbers, by which the definitions are computed.
use Rattle.std.specs.Prelude.{◌≡◌, ℕ, ℤ, pos, ◌&&◌, ◌==◌, not, Bool, true, false, List, [], ◌∷◌, ◌++◌}
use Rattle.std.specs.Ordering.{int_eq}
use Rattle.fill_base.specs.Sides.{sides, sides_of}
use Rattle.fill_base.specs.declared.rect.Rect.{Rect}
use Rattle.fill_text.specs.declared.script.Edit.TheVariants.{Add, Cut}
use Rattle.fill_area.specs.Grid.{all_coordinates}
use Rattle.fill_job.specs.Plans.{Layers, Plan, PointSet, drawn_squares}
use Rattle.fill_core.specs.Boxes.{total_in}
use Rattle.fill_core.specs.Machine.{State, replay, replies}
use Rattle.fill_core.specs.declared.event.Event.{Event}
use Rattle.fill_core.specs.declared.event.Event.TheVariants as event
use Rattle.fill_core.specs.declared.event.Reply.{Reply}
use Rattle.fill_core.specs.declared.event.Reply.TheVariants.{Placed, Stale, Already, Foreign, Withdrawn}

-- four boxes of one square at (0, 0), (2, 0), (0, 2) and (2, 2), each a tile, in a frame of 4 by 4; one window of 16 squares, low
-- below 4
abbrev pub small : Plan
small = record {
  raster = record {
    across = record { low = pos 0; high = pos 4; length = pos 1; step = pos 2; origin = pos 0; band = 1 };
    up = record { low = pos 0; high = pos 4; length = pos 1; step = pos 2; origin = pos 0; band = 1 };
  };
  windows = record {
    across = record { first = pos 0; length = pos 4; step = pos 4; count = 1 };
    up = record { first = pos 0; length = pos 4; step = pos 4; count = 1 };
    clip = all_coordinates;
  };
  spacing = pos 1;
  fill_spacing = pos 1;
  least = pos 250000;
}

abbrev pub one_point : ℤ → ℤ → PointSet
one_point u v x y = int_eq x u && int_eq y v

-- one square of metal at the corner of the last box, and neither existing fill nor a keep-out
abbrev pub corner : Layers
corner = record { metal = one_point (pos 3) (pos 3); fill = λ x y. false; keep = λ x y. false }

-- commits of all kinds, then metal beside the first box, and commits again
abbrev pub worked_events : Rect → List Event
worked_events r =
    event.Commit 0 0 true
    ∷ event.Commit 0 0 false
    ∷ event.Commit 1 1 false
    ∷ event.Commit 0 1 false
    ∷ event.Commit 0 3 true
    ∷ event.Edit (Add r)
    ∷ event.Commit 0 2 false
    ∷ event.Commit 1 1 true
    ∷ event.Commit 1 2 true
    ∷ event.Edit (Cut r)
    ∷ []

-- the first box is placed and taken out, the second is too near to the new metal, the last to the old
abbrev pub worked_replies : List Reply
worked_replies = Placed 1 ∷ Already ∷ Stale 0 ∷ Foreign ∷ Placed 0 ∷ Withdrawn 1 ∷ Stale 1 ∷ Placed 0 ∷ Placed 1 ∷ Withdrawn 0 ∷ []

-- the rectangle from (1, 0) to (2, 1)
abbrev pub IsBeside : Rect → Type 0
IsBeside r = sides_of r ≡ sides (pos 1) (pos 0) (pos 2) (pos 1)

abbrev pub RepliesAreWorked : Type 0
RepliesAreWorked = (r : Rect) → IsBeside r → replies small corner (worked_events r) ≡ worked_replies

-- at the end the third box alone is filled, at version 2
abbrev pub StateIsWorked : Type 0
StateIsWorked = (r : Rect) → IsBeside r → let s = replay small corner (worked_events r) in
    (s.version ≡ 2) × (s.fill (pos 0) (pos 0) ≡ false) × (s.fill (pos 1) (pos 0) ≡ false) × (s.fill (pos 0) (pos 1) ≡ true) × (s.fill (pos 1) (pos 1) ≡ false) × (s.layers.metal (pos 1) (pos 0) ≡ false) × (s.layers.metal (pos 3) (pos 3) ≡ true) × (s.tiles_in 2 ≡ false)

-- existing fill at the corner of the last box, and no metal
abbrev pub dummy : Layers
dummy = record { metal = λ x y. false; fill = one_point (pos 3) (pos 3); keep = λ x y. false }

-- the rectangle from (3, 3) to (4, 4)
abbrev pub IsOver : Rect → Type 0
IsOver r = sides_of r ≡ sides (pos 3) (pos 3) (pos 4) (pos 4)

-- the last box is too near to it; it counts once while metal lies over it, and still where that is cut again
abbrev pub ExistingFillIsWorked : Type 0
ExistingFillIsWorked = (r : Rect) → IsOver r → let covered = event.Commit 0 3 true ∷ event.Edit (Add r) ∷ [] in let events = covered ++ event.Edit (Cut r) ∷ [] in
    let area = (λ (s : State). total_in small (drawn_squares s.layers) s.fill 0 0) in
    (replies small dummy events ≡ Placed 0 ∷ Withdrawn 0 ∷ Withdrawn 0 ∷ []) × (area (replay small dummy covered) ≡ 1) × (area (replay small dummy events) ≡ 1)

-- every tile but one
abbrev pub all_but : ℕ → ℕ → Bool
all_but t n = not (n == t)
