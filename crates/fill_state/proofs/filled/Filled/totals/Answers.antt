use Rattle.std.proofs.Common.{◌≡◌, ◌∙◌, ◌*◌, ◌%◌, ap, pos, arith, rules}
use Rattle.fill_state.specs.Layers.{is_drawn}
use Rattle.fill_area.specs.Density.{window_area}
use Rattle.fill_area.proofs.Measuring.{bounded, measured}
use Rattle.fill_state.specs.Filling.{boxes_of, left_by, drawn_or_box}
use Rattle.fill_state.proofs.Totals.{counted_together}
use Rattle.fill_state.proofs.WindowTotals.{areas_more}
use Rattle.fill_state.proofs.filled.Filled.totals.Goals as goal

pub overflow_add-area : goal.overflow_add-area
overflow_add-area c =
    let sum = counted_together (is_drawn c.args.drawn.now) (boxes_of c.args.self.now.raster (left_by c.args.self.now c.args.out.now)) c.args.windows.now c.column_and_row-column.result.0 c.column_and_row-column.result.1 c.counted_in-area.result c.boxes_counted.result
    c.counted_in-area.ensures c.boxes_counted.ensures.area c.requires c.boxes_counted.ensures.few in
    sum.fits

pub loop-k-preserved : goal.loop-k-preserved
loop-k-preserved c =
    let p = drawn_or_box c.args.self.now.raster (left_by c.args.self.now c.args.out.now) (is_drawn c.args.drawn.now) in
    let g = c.args.windows.now in let k = c.loop-k.k in
    let sum = counted_together (is_drawn c.args.drawn.now) (boxes_of c.args.self.now.raster (left_by c.args.self.now c.args.out.now)) c.args.windows.now c.column_and_row-column.result.0 c.column_and_row-column.result.1 c.counted_in-area.result c.boxes_counted.result
    c.counted_in-area.ensures c.boxes_counted.ensures.area c.requires c.boxes_counted.ensures.few in
    let all = areas_more p g c.loop-k.totals.items c.push.new.self.items k _ c.in_ok-push.ensures.items c.loop-k.invariant.count c.loop-k.invariant.each
    (sum.total ∙ (ap (λ n. pos (window_area p g n c.column_and_row-column.result.1)) c.column_and_row-column.ensures.column ∙ ap (λ n. pos (window_area p g (k % g.across.count) n)) c.column_and_row-column.ensures.row)) in
    record { count = all.count; each = all.each }

pub returns-clause-areas : goal.returns-clause-areas
returns-clause-areas c =
    let g = c.args.windows.now in
    let past : c.loop-k.k ≡ g.across.count * g.up.count = grind (arith, rules) in
    measured (drawn_or_box c.args.self.now.raster (left_by c.args.self.now c.args.out.now) (is_drawn c.args.drawn.now)) g c.loop-k.totals.items c.len-k-end.ensures.grid
    (c.loop-k.invariant.count ∙ past) (λ k d lt. c.loop-k.invariant.each k d (rw past lt))

pub returns-clause-bounded : goal.returns-clause-bounded
returns-clause-bounded c =
    let g = c.args.windows.now in
    let past : c.loop-k.k ≡ g.across.count * g.up.count = grind (arith, rules) in
    bounded (drawn_or_box c.args.self.now.raster (left_by c.args.self.now c.args.out.now) (is_drawn c.args.drawn.now)) g c.loop-k.totals.items c.len-k-end.ensures.grid
    (c.loop-k.invariant.count ∙ past) (λ k d lt. c.loop-k.invariant.each k d (rw past lt))
