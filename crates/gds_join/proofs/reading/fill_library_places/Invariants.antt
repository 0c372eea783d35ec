-- The cells so far have the places of their references filled.
use Rattle.std.proofs.Common.{◌≡◌, ◌||◌, ℤ, map, take}
use Rattle.std.specs.List.{flat_map}
use Rattle.fill_state.specs.Filling.{is_filled}
use Rattle.gds_grammar.specs.Values.{Cell, cell_of}
use Rattle.gds_out.specs.Laws.{raster_in}
use Rattle.gds_join.specs.Reading.{corners_of}
use Rattle.gds_join.specs.steps.Far.{stands_at}
use Rattle.gds_join.proofs.reading.fill_library_places.Given as goal

abbrev pub invariant-loop-index : goal.invariant-loop-index
invariant-loop-index l = record {
  raster : l.filled.raster ≡ raster_in l.rules;
  filled : (i j : ℤ) → is_filled l.filled i j ≡ (is_filled l.fn.filled i j || stands_at (raster_in l.rules) (flat_map corners_of (flat_map (λ (c : Cell). c.shapes) (take l.index (map cell_of l.library.cells.entries)))) i j);
}
