use Rattle.std.proofs.Common.{ℕ, arith}
use Rattle.fill_text.specs.ValuesOfChips.{chip_values}
use Rattle.fill_text.specs.ValuesOfRules.{values_of}
use Rattle.fill_parts.specs.Smaller.{Rows}
use Rattle.fill_parts.proofs.Chipping.{coordinate_kept}
use Rattle.fill_parts.proofs.PartRules.{alone_here, below_here, bottom_coordinate, count_here, places_refused, rows_here, rules_given, top_coordinate, windows_refused}
use Rattle.fill_parts.proofs.part_rules.rules_alone.Goals as goal

abbrev rows : ℕ → ℕ → Rows
rows from to = record { from = from; to = to }

pub extent-first_window-requires-clause-index : goal.extent-first_window-requires-clause-index
extent-first_window-requires-clause-index c = below_here (chip_values c.args.chip.now) (rows c.args.tiles.now.start c.args.tiles.now.end) (rows c.args.windows.now.start c.args.windows.now.end) c.place_rows-places.result c.window_rows.result c.place_rows-places.ensures.axis c.window_rows.ensures.axis c.place_rows-places.ensures.value c.window_rows.ensures.value c.requires.tiles c.requires.windows

pub bottom_of-requires-clause-tiles : goal.bottom_of-requires-clause-tiles
bottom_of-requires-clause-tiles c = rows_here (chip_values c.args.chip.now) (rows c.args.tiles.now.start c.args.tiles.now.end) (rows c.args.windows.now.start c.args.windows.now.end) c.place_rows-places.result c.window_rows.result c.place_rows-places.ensures.axis c.window_rows.ensures.axis c.place_rows-places.ensures.value c.window_rows.ensures.value c.requires.tiles c.requires.windows

pub top_of-requires-clause-tiles : goal.top_of-requires-clause-tiles
top_of-requires-clause-tiles c = rows_here (chip_values c.args.chip.now) (rows c.args.tiles.now.start c.args.tiles.now.end) (rows c.args.windows.now.start c.args.windows.now.end) c.place_rows-places.result c.window_rows.result c.place_rows-places.ensures.axis c.window_rows.ensures.axis c.place_rows-places.ensures.value c.window_rows.ensures.value c.requires.tiles c.requires.windows

pub overflow_sub-alone : goal.overflow_sub-alone
overflow_sub-alone c = (let some = c.requires.windows.some in omega (arith, some))

pub with_rows-requires-clause-bottom : goal.with_rows-requires-clause-bottom
with_rows-requires-clause-bottom c = coordinate_kept _ _ c.bottom_of.ensures (bottom_coordinate c.place_rows-places.result _ c.place_rows-places.ensures.axis (rows_here (chip_values c.args.chip.now) (rows c.args.tiles.now.start c.args.tiles.now.end) (rows c.args.windows.now.start c.args.windows.now.end) c.place_rows-places.result c.window_rows.result c.place_rows-places.ensures.axis c.window_rows.ensures.axis c.place_rows-places.ensures.value c.window_rows.ensures.value c.requires.tiles c.requires.windows))

pub with_rows-requires-clause-top : goal.with_rows-requires-clause-top
with_rows-requires-clause-top c = coordinate_kept _ _ c.top_of.ensures (top_coordinate c.place_rows-places.result _ c.place_rows-places.ensures.axis (rows_here (chip_values c.args.chip.now) (rows c.args.tiles.now.start c.args.tiles.now.end) (rows c.args.windows.now.start c.args.windows.now.end) c.place_rows-places.result c.window_rows.result c.place_rows-places.ensures.axis c.window_rows.ensures.axis c.place_rows-places.ensures.value c.window_rows.ensures.value c.requires.tiles c.requires.windows))

pub with_rows-requires-clause-windows : goal.with_rows-requires-clause-windows
with_rows-requires-clause-windows c = count_here (chip_values c.args.chip.now) (rows c.args.tiles.now.start c.args.tiles.now.end) (rows c.args.windows.now.start c.args.windows.now.end) c.place_rows-places.result c.window_rows.result c.place_rows-places.ensures.axis c.window_rows.ensures.axis c.place_rows-places.ensures.value c.window_rows.ensures.value c.requires.tiles c.requires.windows

pub returns-in-Ok : goal.returns-in-Ok
returns-in-Ok c = rules_given (chip_values c.args.chip.now) (rows c.args.tiles.now.start c.args.tiles.now.end) (rows c.args.windows.now.start c.args.windows.now.end) _ c.keeps_faultless.ensures.faultless c.keeps_faultless.ensures.numbers c.requires.tiles c.requires.windows (alone_here (chip_values c.args.chip.now) (rows c.args.tiles.now.start c.args.tiles.now.end) (rows c.args.windows.now.start c.args.windows.now.end) c.place_rows-places.result c.window_rows.result c.place_rows-places.ensures.axis c.window_rows.ensures.axis c.place_rows-places.ensures.value c.window_rows.ensures.value c.requires.tiles c.requires.windows c.bottom_of.result c.top_of.result c.extent-first_window.result.0 c.extent-first_window.result.1 c.bottom_of.ensures c.top_of.ensures c.extent-first_window.ensures) (values_of c.in-Ok.rules) c.in-Ok.ensures

pub returns-in-Err-BadWindows : goal.returns-in-Err-BadWindows
returns-in-Err-BadWindows c = windows_refused (chip_values c.args.chip.now) (rows c.args.tiles.now.start c.args.tiles.now.end) (rows c.args.windows.now.start c.args.windows.now.end) _ c.keeps_faultless.ensures.faultless c.keeps_faultless.ensures.numbers c.requires.tiles c.requires.windows (alone_here (chip_values c.args.chip.now) (rows c.args.tiles.now.start c.args.tiles.now.end) (rows c.args.windows.now.start c.args.windows.now.end) c.place_rows-places.result c.window_rows.result c.place_rows-places.ensures.axis c.window_rows.ensures.axis c.place_rows-places.ensures.value c.window_rows.ensures.value c.requires.tiles c.requires.windows c.bottom_of.result c.top_of.result c.extent-first_window.result.0 c.extent-first_window.result.1 c.bottom_of.ensures c.top_of.ensures c.extent-first_window.ensures) (rw c.in-Err-BadWindows.field-0-is at c.in-Err-BadWindows.ensures)

pub returns-in-Err-TooManyPlaces : goal.returns-in-Err-TooManyPlaces
returns-in-Err-TooManyPlaces c = places_refused (chip_values c.args.chip.now) (rows c.args.tiles.now.start c.args.tiles.now.end) (rows c.args.windows.now.start c.args.windows.now.end) _ c.keeps_faultless.ensures.faultless c.keeps_faultless.ensures.numbers c.requires.tiles c.requires.windows (alone_here (chip_values c.args.chip.now) (rows c.args.tiles.now.start c.args.tiles.now.end) (rows c.args.windows.now.start c.args.windows.now.end) c.place_rows-places.result c.window_rows.result c.place_rows-places.ensures.axis c.window_rows.ensures.axis c.place_rows-places.ensures.value c.window_rows.ensures.value c.requires.tiles c.requires.windows c.bottom_of.result c.top_of.result c.extent-first_window.result.0 c.extent-first_window.result.1 c.bottom_of.ensures c.top_of.ensures c.extent-first_window.ensures) (rw c.in-Err-TooManyPlaces.field-0-is at c.in-Err-TooManyPlaces.ensures)
