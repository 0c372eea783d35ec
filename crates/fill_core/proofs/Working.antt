-- The definitions computed on small numbers.
use Rattle.std.proofs.Common.{◌≡◌, refl, ap, pos}
use Rattle.fill_base.specs.Counts.{sum_from}
use Rattle.fill_base.specs.Sides.{Sides}
use Rattle.fill_base.specs.declared.rect.Rect.{Rect}
use Rattle.fill_raster.specs.Axes.{first, past}
use Rattle.fill_job.specs.Plans.{meets_box, in_window_of}
use Rattle.fill_job.specs.Searches.{some_below, some_pair, some_within}
use Rattle.fill_core.specs.Machine.{replay_from, replies_from}
use Rattle.fill_core.specs.steps.Worked.{ExistingFillIsWorked, IsBeside, RepliesAreWorked, StateIsWorked}

left : (r : Rect) → IsBeside r → r.x1 ≡ pos 1
left r e = ap (λ (s : Sides). s.left) e

bottom : (r : Rect) → IsBeside r → r.y1 ≡ pos 0
bottom r e = ap (λ (s : Sides). s.bottom) e

right : (r : Rect) → IsBeside r → r.x2 ≡ pos 2
right r e = ap (λ (s : Sides). s.right) e

top : (r : Rect) → IsBeside r → r.y2 ≡ pos 1
top r e = ap (λ (s : Sides). s.top) e

pub replies_worked : RepliesAreWorked
unfolding replies_from meets_box in_window_of some_within some_pair some_below sum_from first past
replies_worked r e = rw (left r e, bottom r e, right r e, top r e) refl

pub state_worked : StateIsWorked
unfolding replay_from meets_box in_window_of some_within some_pair some_below sum_from first past
state_worked r e = rw (left r e, bottom r e, right r e, top r e) (refl, refl, refl, refl, refl, refl, refl, refl)

pub existing_worked : ExistingFillIsWorked
unfolding replay_from replies_from meets_box in_window_of some_within some_pair some_below sum_from first past
existing_worked r e =
    rw (ap (λ (s : Sides). s.left) e, ap (λ (s : Sides). s.bottom) e, ap (λ (s : Sides). s.right) e, ap (λ (s : Sides). s.top) e) (refl, refl, refl)
