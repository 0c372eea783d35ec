-- The text of a fill library: which records stand in it, by the numbers of the manual (Calma GDSII Stream Format Manual, release
-- 6.0), and their bytes.
use Rattle.std.specs.Prelude.{ℕ, ◌%◌, ◌==◌, ℤ, pos, ◌+ℤ◌, ◌*ℤ◌, ◌&&◌, if◌then◌else◌, List, [], ◌∷◌, ◌++◌, length}
use Rattle.std.specs.List.{flat_map}
use Rattle.std.specs.Int.{w16, w32, to_be_bytes, cast_unsigned}
use Rattle.gds_record.specs.Records.{Rec, spelling}
use Rattle.fill_base.specs.declared.place.Point.{Point}
use Rattle.fill_raster.specs.Axes.{box_begin}
use Rattle.fill_raster.specs.Lattice.{Lattice}
use Rattle.fill_text.specs.Rules.{Values, fill_layer, raster_of}
use Rattle.fill_stacks.specs.Places.{PlaceSet}
use Rattle.fill_stacks.specs.Stacks.{stacks}
use Rattle.fill_stacks.specs.declared.pieces.Stack.{Stack}

-- a record of this kind and data type, with this data
abbrev pub rec : ℕ → ℕ → List ℕ → Rec
rec kind form body = record { kind = kind; form = form; body = body }

-- ---- data

-- an unsigned number of two bytes
abbrev pub word_bytes : ℕ → List ℕ
word_bytes n = to_be_bytes w16 n

-- a signed number of four bytes, in two's complement
abbrev pub number_bytes : ℤ → List ℕ
number_bytes z = to_be_bytes w32 (cast_unsigned w32 z)

-- a point: x, then y
abbrev pub point_bytes : ℤ × ℤ → List ℕ
point_bytes p = number_bytes p.0 ++ number_bytes p.1

abbrev pub coordinates : Point → ℤ × ℤ
coordinates p = (p.x, p.y)

abbrev pub points_bytes : List (ℤ × ℤ) → List ℕ
points_bytes points = flat_map point_bytes points

-- a text, with a zero byte behind it where its length is odd
abbrev pub padded : List ℕ → List ℕ
padded text = if length text % 2 == 0 then text else text ++ 0 ∷ []

-- ---- the cell of one box: a boundary round it, its lower left corner at the origin

abbrev pub box_corners : Lattice → List (ℤ × ℤ)
box_corners r =
    (pos 0, pos 0) ∷ (pos 0, r.up.length) ∷ (r.across.length, r.up.length) ∷ (r.across.length, pos 0) ∷ (pos 0, pos 0) ∷ []

-- BGNSTR, STRNAME, BOUNDARY, LAYER, DATATYPE, XY, ENDEL, ENDSTR
abbrev pub cell_records : List ℕ → Values → List Rec
cell_records dates v =
    rec 0x05 0x02 dates ∷ rec 0x06 0x06 (padded v.fill_cell)
    ∷ rec 0x08 0x00 [] ∷ rec 0x0d 0x02 (word_bytes (fill_layer v).layer)
    ∷ rec 0x0e 0x02 (word_bytes (fill_layer v).data_type)
    ∷ rec 0x10 0x03 (points_bytes (box_corners (raster_of v.numbers))) ∷ rec 0x11 0x00 []
    ∷ rec 0x07 0x00 [] ∷ []

-- ---- the top cell: one reference for a box alone, one array for boxes that stand in columns and rows

-- SREF, SNAME, XY, ENDEL
abbrev pub reference_records : List ℕ → ℤ → ℤ → List Rec
reference_records cell x y =
    rec 0x0a 0x00 [] ∷ rec 0x12 0x06 (padded cell) ∷ rec 0x10 0x03 (points_bytes ((x, y) ∷ [])) ∷ rec 0x11 0x00 [] ∷ []

-- AREF, SNAME, COLROW, XY, ENDEL; the points are the first box's corner, the corner behind the last column, and the corner above
-- the last row
abbrev pub array_records : List ℕ → ℕ → ℕ → ℤ → ℤ → ℤ → ℤ → List Rec
array_records cell columns rows step_x step_y x y =
    rec 0x0b 0x00 [] ∷ rec 0x12 0x06 (padded cell) ∷ rec 0x13 0x02 (word_bytes columns ++ word_bytes rows)
    ∷ rec 0x10 0x03 (points_bytes ((x, y) ∷ (x +ℤ (pos columns *ℤ step_x), y) ∷ (x, y +ℤ (pos rows *ℤ step_y)) ∷ []))
    ∷ rec 0x11 0x00 [] ∷ []

-- a stack of boxes
abbrev pub stack_records : List ℕ → Lattice → Stack → List Rec
stack_records cell r s =
    if (s.columns == 1) && (s.rows == 1) then reference_records cell (box_begin r.across s.column) (box_begin r.up s.row)
    else array_records cell s.columns s.rows r.across.step r.up.step (box_begin r.across s.column) (box_begin r.up s.row)

-- the stacks of the filled places by their lowest rows upwards, and from left to right
abbrev pub stacks_records : List ℕ → Lattice → PlaceSet → List Rec
stacks_records cell r filled = flat_map (stack_records cell r) (stacks filled r)

-- BGNSTR, STRNAME, the stacks of places of a raster, ENDSTR
abbrev pub top_records_on : List ℕ → Values → Lattice → PlaceSet → List Rec
top_records_on dates v r filled =
    rec 0x05 0x02 dates ∷ rec 0x06 0x06 (padded v.fill_top)
    ∷ (stacks_records v.fill_cell r filled ++ rec 0x07 0x00 [] ∷ [])

abbrev pub top_records : List ℕ → Values → PlaceSet → List Rec
top_records dates v filled = top_records_on dates v (raster_of v.numbers) filled

-- ---- the library: HEADER with the number 600, BGNLIB, LIBNAME, UNITS, the two cells, ENDLIB

abbrev pub head_records : List ℕ → List ℕ → Values → List Rec
head_records units dates v =
    rec 0x00 0x02 (0x02 ∷ 0x58 ∷ []) ∷ rec 0x01 0x02 dates ∷ rec 0x02 0x06 (padded v.fill_lib) ∷ rec 0x03 0x05 units ∷ []

abbrev pub fill_records_on : List ℕ → List ℕ → Values → Lattice → PlaceSet → List Rec
fill_records_on units dates v r filled =
    head_records units dates v ++ (cell_records dates v ++ (top_records_on dates v r filled ++ rec 0x04 0x00 [] ∷ []))

abbrev pub fill_records : List ℕ → List ℕ → Values → PlaceSet → List Rec
fill_records units dates v filled = fill_records_on units dates v (raster_of v.numbers) filled

-- the text of the fill library with these units, dates and rules and this set of filled places of a raster
abbrev pub fill_text_on : List ℕ → List ℕ → Values → Lattice → PlaceSet → List ℕ
fill_text_on units dates v r filled = flat_map spelling (fill_records_on units dates v r filled)

-- and of the rules' raster
abbrev pub fill_text : List ℕ → List ℕ → Values → PlaceSet → List ℕ
fill_text units dates v filled = fill_text_on units dates v (raster_of v.numbers) filled
