-- What a script says: the changes that its records ask for, in turn, or the first rule that it breaks.
use Rattle.std.specs.Prelude.{ℕ, ℤ, pos, ◌+◌, ◌==◌, List, [], ◌∷◌, length, get_or, map, Option, Some, None, is_some, unwrap_or, Result, bytes_eq, codes, nat_lt, if◌then◌else◌}
use Rattle.fill_base.specs.Sides.{Sides, sides_of, sides}
use Rattle.fill_text.specs.RectTests.{is_rect}
use Rattle.fill_text.specs.Numbers.{number_of}
use Rattle.fill_text.specs.Refusals.{each_fault, fault_unless, first_some, refused_or}
use Rattle.fill_text.specs.Rows.{rows_of}
use Rattle.fill_text.specs.declared.script.Edit.{Edit}
use Rattle.fill_text.specs.declared.script.Edit.TheVariants as edit
use Rattle.fill_text.specs.declared.script.Kind.{Kind}
use Rattle.fill_text.specs.declared.script.Kind.TheVariants as kind
use Rattle.fill_text.specs.declared.script.ScriptError.{ScriptError}
use Rattle.fill_text.specs.declared.script.ScriptError.TheVariants.{BadRow, BadNumber, TooManyLines}

-- a change of the metal or of the keep-outs: a kind and a rectangle
pub record Change : Type 0 where
  pub kind : Kind
  pub rect : Sides

abbrev pub change_of : Edit → Change
change_of (edit.Add r) = record { kind = kind.Add; rect = sides_of r }
change_of (edit.Cut r) = record { kind = kind.Cut; rect = sides_of r }
change_of (edit.Keep r) = record { kind = kind.Keep; rect = sides_of r }

-- the kind that a record's first field names
abbrev pub kind_of : List ℕ → Option Kind
kind_of word = if bytes_eq word (codes "add") then Some kind.Add else (if bytes_eq word (codes "cut") then Some kind.Cut else (if bytes_eq word (codes "keep") then Some kind.Keep else None))

-- the number that a field of a record writes, if it writes one
abbrev pub number_at : List (List ℕ) → ℕ → Option ℤ
number_at fields i = number_of (get_or fields i [])

abbrev pub corner : List (List ℕ) → ℕ → ℤ
corner fields i = unwrap_or (number_at fields i) (pos 0)

-- the rectangle of a record, and its change
abbrev pub sides_in : List (List ℕ) → Sides
sides_in fields = sides (corner fields 1) (corner fields 2) (corner fields 3) (corner fields 4)

abbrev pub change_in : List (List ℕ) → Change
change_in fields = record { kind = unwrap_or (kind_of (get_or fields 0 [])) kind.Add; rect = sides_in fields }

-- what is asked of a record of this number, in this order: five fields, of which the first is `add`, `cut` or `keep` and the others
-- are numbers, which make a rectangle
abbrev pub change_faults : ℕ → List (List ℕ) → List (Option ScriptError)
change_faults line fields =
    fault_unless (length fields == 5) (BadRow line)
    ∷ fault_unless (is_some (kind_of (get_or fields 0 []))) (BadRow line)
    ∷ fault_unless (is_some (number_at fields 1)) (BadNumber line)
    ∷ fault_unless (is_some (number_at fields 2)) (BadNumber line)
    ∷ fault_unless (is_some (number_at fields 3)) (BadNumber line)
    ∷ fault_unless (is_some (number_at fields 4)) (BadNumber line)
    ∷ fault_unless (is_rect (sides_in fields)) (BadRow line)
    ∷ []

-- the first rule that a record breaks, behind the records before; behind 100,000 it breaks one whatever it holds
abbrev pub change_fault : List (List (List ℕ)) → List (List ℕ) → Option ScriptError
change_fault before fields = if nat_lt (length before) 100000 then first_some (change_faults (length before + 1) fields) else Some TooManyLines

-- the changes of a script, one for each record, or its first fault
unfoldable pub edits_of : List ℕ → Result (List Change) ScriptError
edits_of text = let rows = rows_of text in refused_or (first_some (each_fault change_fault [] rows)) (map change_in rows)
