use Rattle.std.proofs.Common.{sym, subst, ◌∙◌, ℤ, ◌&&◌}
use Rattle.fill_state.specs.Layers.{is_drawn}
use Rattle.fill_area.specs.Grid.{Grid}
use Rattle.fill_sums.specs.declared.moving.Way.TheVariants.{Up}
use Rattle.fill_sums.specs.Numbers.{IsMovedBy, StaysBy}
use Rattle.fill_state.specs.Filling.{in_places, is_filled, left_by}
use Rattle.fill_book.specs.steps.Following.{taken_out}
use Rattle.fill_book.proofs.BoxParts.{rows_come, rows_come_measured}
use Rattle.fill_book.proofs.EditParts.{boxes_go}
use Rattle.fill_book.proofs.running.put_back.Goals as goal

pub move_out-requires-clause-stays : goal.move_out-requires-clause-stays
move_out-requires-clause-stays c =
    let s = c.args.stored.now in let e = c.args.edited.now in let f = s.filled in
    let out = (λ (i j : ℤ). is_filled f i j && in_places e.out i j) in
    subst (λ (w : Grid). StaysBy Up (taken_out s e.out w) w c.args.sums.now.total) (sym c.requires.stands.windows)
    (rows_come f.raster (is_filled f) (left_by f e.out) out (is_drawn s.drawn) _ _ _ _ c.args._windows.now c.args.sums.now.total (boxes_go s e c.keeps_apart.ensures c.requires.edited) c.requires.stands.total)

pub returns : goal.returns
returns c =
    let s = c.args.stored.now in let e = c.args.edited.now in let f = s.filled in
    let out = (λ (i j : ℤ). is_filled f i j && in_places e.out i j) in
    record {
      windows = c.move_out.ensures.windows ∙ c.requires.stands.windows;
      drawn = rw c.move_out.ensures.drawn c.requires.stands.drawn;
      total = rows_come_measured f.raster (is_filled f) (left_by f e.out) out (is_drawn s.drawn) _ _ _ _ c.args._windows.now c.args.sums.now.total c.move_out.new.sums.total (boxes_go s e c.keeps_apart.ensures c.requires.edited) c.requires.stands.total
          (subst (λ (w : Grid). IsMovedBy Up (taken_out s e.out w) w c.args.sums.now.total c.move_out.new.sums.total) c.requires.stands.windows c.move_out.ensures.total);
    }
