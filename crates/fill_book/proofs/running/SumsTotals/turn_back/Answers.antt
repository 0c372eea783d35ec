use Rattle.std.proofs.Common.{sym, subst, ◌∙◌}
use Rattle.fill_region.specs.Runs.{holds}
use Rattle.fill_area.specs.Grid.{Grid}
use Rattle.fill_sums.specs.Numbers.{IsMoved, StaysWithin}
use Rattle.fill_book.proofs.EditParts.{all_parts, drawn_alone}
use Rattle.fill_book.proofs.MetalParts.{back_measured, back_stays}
use Rattle.fill_book.proofs.running.SumsTotals.turn_back.Goals as goal

pub move_metal-requires-clause-drawn_stays : goal.move_metal-requires-clause-drawn_stays
move_metal-requires-clause-drawn_stays c =
    let e = c.args.edited.now in let is = c.requires.edited in let g = c.requires.stands in
    subst (λ (w : Grid). StaysWithin e.difference.back (holds e.difference.metal) w c.args.self.now.drawn) (sym g.windows)
    (back_stays e.edit e.difference.back _ _ (holds e.difference.metal) c.args.windows.now c.args.self.now.drawn is.back (drawn_alone c.args.stored.now e is) g.drawn)

pub move_metal-requires-clause-total_stays : goal.move_metal-requires-clause-total_stays
move_metal-requires-clause-total_stays c =
    let e = c.args.edited.now in let is = c.requires.edited in let g = c.requires.stands in
    subst (λ (w : Grid). StaysWithin e.difference.back (holds e.difference.metal) w c.args.self.now.total) (sym g.windows)
    (back_stays e.edit e.difference.back _ _ (holds e.difference.metal) c.args.windows.now c.args.self.now.total is.back (all_parts c.args.stored.now e c.keeps_apart.ensures is) g.total)

pub put_back-requires-clause-stands : goal.put_back-requires-clause-stands
put_back-requires-clause-stands c =
    let e = c.args.edited.now in let is = c.requires.edited in let g = c.requires.stands in
    let way = e.difference.back in let part = holds e.difference.metal in
    let drawn = subst (λ (w : Grid). IsMoved way part w c.args.self.now.drawn c.move_metal.new.self.drawn) g.windows c.move_metal.ensures.drawn in
    let total = subst (λ (w : Grid). IsMoved way part w c.args.self.now.total c.move_metal.new.self.total) g.windows c.move_metal.ensures.total in
    record {
      windows = c.move_metal.ensures.windows ∙ g.windows;
      drawn = back_measured e.edit way _ _ part c.args.windows.now c.args.self.now.drawn c.move_metal.new.self.drawn is.back (drawn_alone c.args.stored.now e is) g.drawn drawn;
      total = back_measured e.edit way _ _ part c.args.windows.now c.args.self.now.total c.move_metal.new.self.total is.back (all_parts c.args.stored.now e c.keeps_apart.ensures is) g.total total;
    }
