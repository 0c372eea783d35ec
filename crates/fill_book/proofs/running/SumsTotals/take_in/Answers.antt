use Rattle.std.proofs.Common.{sym, subst, ◌∙◌, ℤ, ◌&&◌, ◌||◌}
use Rattle.std.specs.Prelude.{not, ◌==◌}
use Rattle.std.proofs.lemmas.Bool.{and_parts}
use Rattle.fill_state.specs.Layers.{is_drawn}
use Rattle.fill_base.proofs.Signed.{lt_le}
use Rattle.fill_area.specs.Grid.{Grid}
use Rattle.fill_raster.specs.Lattice.{in_raster, tile_of}
use Rattle.fill_raster.specs.Marks.{is_marked}
use Rattle.fill_sums.specs.declared.moving.Way.TheVariants.{Up}
use Rattle.fill_sums.specs.Numbers.{IsMovedBy, StaysBy}
use Rattle.fill_state.specs.Filling.{is_filled}
use Rattle.fill_book.specs.steps.Following.{taken_of_rows}
use Rattle.fill_book.proofs.BoxParts.{rows_come, rows_come_measured, tile_marks_come}
use Rattle.fill_book.proofs.running.SumsTotals.take_in.Goals as goal

pub move_rows-requires-clause-places : goal.move_rows-requires-clause-places
move_rows-requires-clause-places c =
    let r = c.raster-raster.result in
    λ i j h. (and_parts (in_raster r i j) (tile_of r i j == c.args.tile) (sym (c.places.ensures.places i j) ∙ h)).0

pub move_rows-requires-clause-stays : goal.move_rows-requires-clause-stays
move_rows-requires-clause-stays c =
    let f = c.args.stored.now.filled in let of = c.marks.result.now in let m = c.args.marks.now in
    let new = (λ (i j : ℤ). is_marked m i j && not (is_marked of i j)) in
    let places = rw c.raster-raster.ensures at c.places.ensures.places in
    let come = tile_marks_come f of m (is_drawn c.args.stored.now.drawn) c.args.tile _ _ _ _ c.keeps_apart.ensures (lt_le _ _ c.places.ensures.columns) (lt_le _ _ c.places.ensures.rows) places c.marks.ensures.marked c.requires.marked c.requires.clear in
    rw c.raster-raster.ensures
    (subst (λ (w : Grid). StaysBy Up (taken_of_rows f.raster new w c.places.result.0.start c.places.result.0.end c.places.result.1.start c.places.result.1.end) w c.args.self.now.total) (sym c.requires.stands.windows)
    (rows_come f.raster (λ i j. is_filled f i j || is_marked m i j) (is_filled f) new (is_drawn c.args.stored.now.drawn) _ _ _ _ c.args._windows.now c.args.self.now.total come c.requires.stands.total))

pub returns : goal.returns
returns c =
    let f = c.args.stored.now.filled in let of = c.marks.result.now in let m = c.args.marks.now in
    let new = (λ (i j : ℤ). is_marked m i j && not (is_marked of i j)) in
    let places = rw c.raster-raster.ensures at c.places.ensures.places in
    let come = tile_marks_come f of m (is_drawn c.args.stored.now.drawn) c.args.tile _ _ _ _ c.keeps_apart.ensures (lt_le _ _ c.places.ensures.columns) (lt_le _ _ c.places.ensures.rows) places c.marks.ensures.marked c.requires.marked c.requires.clear in
    let total = rw c.raster-raster.ensures at c.move_rows.ensures.total in
    record {
      windows = c.move_rows.ensures.windows ∙ c.requires.stands.windows;
      drawn = rw c.move_rows.ensures.drawn c.requires.stands.drawn;
      total = rows_come_measured f.raster (λ i j. is_filled f i j || is_marked m i j) (is_filled f) new (is_drawn c.args.stored.now.drawn) _ _ _ _ c.args._windows.now c.args.self.now.total c.move_rows.new.sums.total come c.requires.stands.total
          (subst (λ (w : Grid). IsMovedBy Up (taken_of_rows f.raster new w c.places.result.0.start c.places.result.0.end c.places.result.1.start c.places.result.1.end) w c.args.self.now.total c.move_rows.new.sums.total) c.requires.stands.windows total);
    }
