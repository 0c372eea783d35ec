-- How a record of a script is read, field by field. This serves the private functions; what a script says is `edits_of`.
use Rattle.std.specs.Prelude.{ℕ, ℤ, ◌==◌, List, [], length, get_or, ok_or, Result, Ok, Err, if◌then◌else◌}
use Rattle.fill_base.specs.Sequence.{◌>>=◌}
use Rattle.fill_base.specs.Sides.{sides}
use Rattle.fill_text.specs.RectTests.{rect_with}
use Rattle.fill_text.specs.Script.{Change, kind_of, number_at}
use Rattle.fill_text.specs.declared.script.ScriptError.{ScriptError}
use Rattle.fill_text.specs.declared.script.ScriptError.TheVariants.{BadRow, BadNumber}

-- the number in a field of a record
abbrev pub number_in : ℕ → List (List ℕ) → ℕ → Result ℤ ScriptError
number_in line fields i = ok_or (number_at fields i) (BadNumber line)

-- the change that a record writes
unfoldable pub change_at : ℕ → List (List ℕ) → Result Change ScriptError
change_at line fields = if length fields == 5 then (do
  kind ← ok_or (kind_of (get_or fields 0 [])) (BadRow line)
  x1 ← number_in line fields 1
  y1 ← number_in line fields 2
  x2 ← number_in line fields 3
  y2 ← number_in line fields 4
  rect ← ok_or (rect_with (sides x1 y1 x2 y2)) (BadRow line)
  Ok (record { kind = kind; rect = rect })) else Err (BadRow line)
