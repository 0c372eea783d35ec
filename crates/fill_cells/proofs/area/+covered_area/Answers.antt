use Rattle.std.proofs.Common.{arith, ap, ◌∙◌, pos}
use Rattle.fill_base.specs.Squares.{area_of}
use Rattle.fill_region.specs.Squares.{covered}
use Rattle.fill_cells.proofs.Halving.{halves_sum}
use Rattle.fill_cells.proofs.area.+covered_area.Goals as goal

pub covered_area-requires : goal.covered_area-requires
covered_area-requires t c = (omega (arith, c.decreases, c.in-Some-halves.ensures.first_shorter), tt)

pub covered_area-requires-in-Some-halves : goal.covered_area-requires-in-Some-halves
covered_area-requires-in-Some-halves t c = (omega (arith, c.decreases, c.in-Some-halves.ensures.second_shorter), tt)

pub overflow_add-result : goal.overflow_add-result
overflow_add-result t c = (halves_sum (covered c.args.rects.now) c.args.part.now c.in-Some-halves.first c.in-Some-halves.second c.in_ok-in_first-in-Some-halves.in_first.items c.in_ok-in_second-in-Some-halves.in_second.items
    c.in_ok-below-in-Some-halves.below c.in_ok-above-in-Some-halves.above c.in-Some-halves.ensures c.in_ok-in_first-in-Some-halves.ensures c.in_ok-in_second-in-Some-halves.ensures
    (c.in_ok-below-in-Some-halves.ensures ∙ ap (λ v. pos (area_of (covered v) c.in-Some-halves.first)) c.deref_mut.ensures.value)
    (c.in_ok-above-in-Some-halves.ensures ∙ ap (λ v. pos (area_of (covered v) c.in-Some-halves.second)) c.deref_mut-in-Some-halves.ensures.value)).0

pub returns-in_ok-above-in-Some-halves : goal.returns-in_ok-above-in-Some-halves
returns-in_ok-above-in-Some-halves t c = (halves_sum (covered c.args.rects.now) c.args.part.now c.in-Some-halves.first c.in-Some-halves.second c.in_ok-in_first-in-Some-halves.in_first.items c.in_ok-in_second-in-Some-halves.in_second.items
    c.in_ok-below-in-Some-halves.below c.in_ok-above-in-Some-halves.above c.in-Some-halves.ensures c.in_ok-in_first-in-Some-halves.ensures c.in_ok-in_second-in-Some-halves.ensures
    (c.in_ok-below-in-Some-halves.ensures ∙ ap (λ v. pos (area_of (covered v) c.in-Some-halves.first)) c.deref_mut.ensures.value)
    (c.in_ok-above-in-Some-halves.ensures ∙ ap (λ v. pos (area_of (covered v) c.in-Some-halves.second)) c.deref_mut-in-Some-halves.ensures.value)).1
