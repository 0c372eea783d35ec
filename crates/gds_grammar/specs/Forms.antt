-- Which data type and how much data a record of each kind has.
use Rattle.std.specs.Prelude.{◌≡◌, ℕ, Bool, true, List, [], ◌∷◌, length, ◌==◌, ◌&&◌, ◌||◌, not, if◌then◌else◌}
use Rattle.std.specs.List.{list_any}
use Rattle.gds_record.specs.declared.kind.TheConstants.{BGNLIB, UNITS, BGNSTR, STRNAME, LAYER, DATATYPE, WIDTH, SNAME, COLROW, STRANS, MAG, ANGLE, PATHTYPE, BGNEXTN, ENDEXTN}
use Rattle.gds_record.specs.Records.{Rec}
use Rattle.gds_record.specs.Numbers.{trimmed}
use Rattle.gds_record.specs.Table.{manual, of_any_form}

abbrev pub among : List ℕ → ℕ → Bool
among kinds kind = list_any (λ k. k == kind) kinds

-- some row of the manual's table has this kind and this data type
abbrev pub has_row : ℕ → ℕ → Bool
has_row kind form = list_any (λ row. row.0 == kind && row.1 == form) manual

-- whether a record of the kind has that data type
unfoldable pub has_form : ℕ → ℕ → Bool
has_form kind form = among of_any_form kind || has_row kind form

-- kinds whose data has this many bytes; the data of others has any number
abbrev pub kinds_of_24 : List ℕ
kinds_of_24 = BGNLIB ∷ BGNSTR ∷ []

abbrev pub kinds_of_16 : List ℕ
kinds_of_16 = UNITS ∷ []

abbrev pub kinds_of_8 : List ℕ
kinds_of_8 = MAG ∷ ANGLE ∷ []

abbrev pub kinds_of_4 : List ℕ
kinds_of_4 = WIDTH ∷ BGNEXTN ∷ ENDEXTN ∷ COLROW ∷ []

abbrev pub kinds_of_2 : List ℕ
kinds_of_2 = LAYER ∷ DATATYPE ∷ PATHTYPE ∷ STRANS ∷ []

unfoldable pub has_size : ℕ → ℕ → Bool
has_size kind size =
    if among kinds_of_24 kind then size == 24
    else if among kinds_of_16 kind then size == 16
    else if among kinds_of_8 kind then size == 8
    else if among kinds_of_4 kind then size == 4
    else if among kinds_of_2 kind then size == 2
    else true

-- the names of cells are not empty once the zero bytes at their end are taken off
abbrev pub naming_kinds : List ℕ
naming_kinds = STRNAME ∷ SNAME ∷ []

unfoldable pub has_name_if_asked : ℕ → List ℕ → Bool
has_name_if_asked kind body =
    if among naming_kinds kind then not (length (trimmed body) == 0) else true

-- a record as the manual has those of its kind
abbrev pub is_well : Rec → Bool
is_well r =
    has_form r.kind r.form && has_size r.kind (length r.body) && has_name_if_asked r.kind r.body

abbrev pub IsWell : Rec → Type 0
IsWell r = is_well r ≡ true
