use Rattle.std.proofs.Common.{sym, subst, ◌∙◌}
use Rattle.fill_region.specs.Runs.{holds}
use Rattle.fill_area.specs.Grid.{Grid}
use Rattle.fill_sums.specs.Numbers.{IsMoved, StaysWithin}
use Rattle.fill_book.proofs.EditParts.{all_parts, drawn_alone}
use Rattle.fill_book.proofs.MetalParts.{edit_measured, edit_stays}
use Rattle.fill_book.proofs.running.SumsTotals.follow.Goals as goal

pub move_metal-requires-clause-drawn_stays : goal.move_metal-requires-clause-drawn_stays
move_metal-requires-clause-drawn_stays c =
    let e = c.args.edited.now in let is = c.requires.edited in let g = c.take_out.ensures in
    subst (λ (w : Grid). StaysWithin e.difference.way (holds e.difference.metal) w c.take_out.new.sums.drawn) (sym g.windows)
    (edit_stays e.edit e.difference.way _ _ (holds e.difference.metal) c.args.windows.now c.take_out.new.sums.drawn is.way (drawn_alone c.args.stored.now e is) g.drawn)

pub move_metal-requires-clause-total_stays : goal.move_metal-requires-clause-total_stays
move_metal-requires-clause-total_stays c =
    let e = c.args.edited.now in let is = c.requires.edited in let g = c.take_out.ensures in
    subst (λ (w : Grid). StaysWithin e.difference.way (holds e.difference.metal) w c.take_out.new.sums.total) (sym g.windows)
    (edit_stays e.edit e.difference.way _ _ (holds e.difference.metal) c.args.windows.now c.take_out.new.sums.total is.way (all_parts c.args.stored.now e c.keeps_apart.ensures is) g.total)

pub returns : goal.returns
returns c =
    let e = c.args.edited.now in let is = c.requires.edited in let g = c.take_out.ensures in
    let way = e.difference.way in let part = holds e.difference.metal in
    let drawn = subst (λ (w : Grid). IsMoved way part w c.take_out.new.sums.drawn c.move_metal.new.self.drawn) g.windows c.move_metal.ensures.drawn in
    let total = subst (λ (w : Grid). IsMoved way part w c.take_out.new.sums.total c.move_metal.new.self.total) g.windows c.move_metal.ensures.total in
    record {
      windows = c.move_metal.ensures.windows ∙ g.windows;
      drawn = edit_measured e.edit way _ _ part c.args.windows.now c.take_out.new.sums.drawn c.move_metal.new.self.drawn is.way (drawn_alone c.args.stored.now e is) g.drawn drawn;
      total = edit_measured e.edit way _ _ part c.args.windows.now c.take_out.new.sums.total c.move_metal.new.self.total is.way (all_parts c.args.stored.now e c.keeps_apart.ensures is) g.total total;
    }
