-- The records of a text: those of `csv` with its defaults, of any number of fields, and none of them a header.
use Rattle.std.specs.Prelude.{ℕ, List}
use Rattle.csv.specs.Reading.{default_config, records, strip_bom}

-- a text's records, a record a list of its fields
abbrev pub rows_of : List ℕ → List (List (List ℕ))
rows_of text = records default_config (strip_bom text)
