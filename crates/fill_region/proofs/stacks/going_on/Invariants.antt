use Rattle.std.proofs.Common.{ℤ, Bool, take}
use Rattle.fill_region.specs.Steps.{MeetAt, AreGoneOn}
use Rattle.fill_region.proofs.stacks.going_on.Given as goal

abbrev pub invariant-lower : goal.invariant-lower
invariant-lower l = (p : ℤ → ℤ → Bool) (at : ℤ) → MeetAt p at l.lower l.upper → AreGoneOn p (take l.rect-index l.lower) l.upper l.fn.ended.items l.runs.items l.ended.items
