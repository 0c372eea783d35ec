-- The rows of tiles and of windows that are told of a chip.
use Rattle.fill_parts.specs.Smaller.{Rows}
use Rattle.fill_parts.specs.declared.part_rules.ToldRows.{ToldRows}

abbrev pub tiles_in : ToldRows → Rows
tiles_in told = record { from = told.tiles.start; to = told.tiles.end }

abbrev pub windows_in : ToldRows → Rows
windows_in told = record { from = told.windows.start; to = told.windows.end }
