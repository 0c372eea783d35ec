use Rattle.std.proofs.Common.{drop, length, sym, subst}
use Rattle.fill_region.specs.Runs.{holds}
use Rattle.fill_sums.specs.Numbers.{StaysWithin, WindowNumbers}
use Rattle.fill_sums.proofs.Changing.{moved_at, drawn_at, total_at}
use Rattle.fill_sums.proofs.sums.Sums.move_metal.Goals as goal

pub move_all-requires-clause-stays : goal.move_all-requires-clause-stays
move_all-requires-clause-stays c = rw c.deref_mut.ensures.value (subst (λ (s : WindowNumbers). StaysWithin c.args.way (holds c.args.metal.now) s.windows s.drawn) (sym c.self.view_is) c.requires.drawn_stays)

pub returns-clause-drawn : goal.returns-clause-drawn
returns-clause-drawn c =
    drawn_at c.args.way (holds c.args.metal.now) _ _ _ c.self.view_is
    (moved_at c.args.way (holds c.args.metal.now) c.self.inside.windows c.deref_mut.result.now c.self.inside.drawn.items c.move_all.new.numbers (drop (length c.move_all.new.numbers) c.self.inside.drawn.items) c.self.inside.drawn.len c.deref_mut.ensures.value c.deref_mut.ensures.len c.move_all.ensures.moved)

pub move_all-requires-2-clause-stays : goal.move_all-requires-2-clause-stays
move_all-requires-2-clause-stays c = rw c.deref_mut-2.ensures.value (subst (λ (s : WindowNumbers). StaysWithin c.args.way (holds c.args.metal.now) s.windows s.total) (sym c.self.view_is) c.requires.total_stays)

pub returns-clause-total : goal.returns-clause-total
returns-clause-total c =
    total_at c.args.way (holds c.args.metal.now) _ _ _ c.self.view_is
    (moved_at c.args.way (holds c.args.metal.now) c.self.inside.windows c.deref_mut-2.result.now c.self.inside.total.items c.move_all-2.new.numbers (drop (length c.move_all-2.new.numbers) c.self.inside.total.items) c.self.inside.total.len c.deref_mut-2.ensures.value c.deref_mut-2.ensures.len c.move_all-2.ensures.moved)
