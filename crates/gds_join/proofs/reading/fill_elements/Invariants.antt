-- The elements so far have the places of their references filled.
use Rattle.std.proofs.Common.{◌≡◌, ◌||◌, ℤ, map, take}
use Rattle.std.specs.List.{flat_map}
use Rattle.fill_state.specs.Filling.{is_filled}
use Rattle.gds_grammar.specs.Values.{shape_of}
use Rattle.gds_out.specs.Laws.{raster_in}
use Rattle.gds_join.specs.Reading.{corners_of}
use Rattle.gds_join.specs.steps.Far.{stands_at}
use Rattle.gds_join.proofs.reading.fill_elements.Given as goal

abbrev pub invariant-loop-element : goal.invariant-loop-element
invariant-loop-element l = record {
  raster : l.filled.raster ≡ raster_in l.rules;
  filled : (i j : ℤ) → is_filled l.filled i j ≡ (is_filled l.fn.filled i j || stands_at (raster_in l.rules) (flat_map corners_of (map shape_of (take l.element-index l.elements))) i j);
}
