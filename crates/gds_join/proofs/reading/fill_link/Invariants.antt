-- The single references so far have their places filled.
use Rattle.std.proofs.Common.{◌≡◌, ◌||◌, ℤ, map}
use Rattle.std.specs.List.{range_with_len}
use Rattle.gds_out.specs.Laws.{raster_in}
use Rattle.gds_cells.specs.Links.{single}
use Rattle.fill_state.specs.Filling.{is_filled}
use Rattle.gds_join.specs.steps.Far.{origin_of, stands_at}
use Rattle.gds_join.proofs.reading.fill_link.Given as goal

abbrev pub invariant-loop-index : goal.invariant-loop-index
invariant-loop-index l = record {
  raster : l.filled.raster ≡ raster_in l.rules;
  filled : (i j : ℤ) → is_filled l.filled i j ≡ (is_filled l.fn.filled i j || stands_at (raster_in l.rules) (map origin_of (map (single l.link) (range_with_len 0 l.index))) i j);
}
