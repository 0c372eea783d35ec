use Rattle.std.proofs.Common.{drop, length, sym, subst}
use Rattle.fill_base.specs.Squares.{squares}
use Rattle.fill_sums.specs.Numbers.{StaysWithin, WindowNumbers}
use Rattle.fill_sums.proofs.Changing.{moved_at, total_at}
use Rattle.fill_sums.proofs.sums.Sums.move_box.Goals as goal

pub move_all-requires-clause-stays : goal.move_all-requires-clause-stays
move_all-requires-clause-stays c = rw c.deref_mut.ensures.value (subst (λ (s : WindowNumbers). StaysWithin c.args.way (squares c.args.rect.now) s.windows s.total) (sym c.self.view_is) c.requires.stays)

pub returns-clause-total : goal.returns-clause-total
returns-clause-total c =
    total_at c.args.way (squares c.args.rect.now) _ _ _ c.self.view_is
    (moved_at c.args.way (squares c.args.rect.now) c.self.inside.windows c.deref_mut.result.now c.self.inside.total.items c.move_all.new.numbers (drop (length c.move_all.new.numbers) c.self.inside.total.items) c.self.inside.total.len c.deref_mut.ensures.value c.deref_mut.ensures.len c.move_all.ensures.moved)
