use Rattle.std.proofs.Common.{ℤ, Bool, List, take}
use Rattle.fill_base.specs.declared.rect.Rect.{Rect}
use Rattle.fill_region.specs.Steps.{MeetAt, AreGoneOn, AreBegun}
use Rattle.fill_region.proofs.stacks.put_begun.Given as goal

abbrev pub invariant-upper : goal.invariant-upper
invariant-upper l = (p : ℤ → ℤ → Bool) (at : ℤ) (before_ended ended : List Rect) → MeetAt p at l.lower l.upper → AreGoneOn p l.lower l.upper before_ended l.fn.runs.items ended
    → AreBegun p (take l.rect-index l.upper) l.fn.runs.items l.runs.items
