use Rattle.std.proofs.Common.{refl}
use Rattle.fill_state.proofs.drawn.DrawnLayer.«open».Goals as goal

pub invariant_of-result : goal.invariant_of-result
invariant_of-result c = λ x y. rw (c.open-2.ensures.squares x y, c.«open».ensures.squares x y, c.in_ok-beside.ensures x y) refl
