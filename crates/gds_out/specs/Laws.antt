-- What holds of where the references of a fill library stand, and of its text once it is read.
use Rattle.std.specs.Prelude.{◌≡◌, ℕ, length, ◌*◌, ◌/◌, ◌%◌, ◌==◌, ◌<◌, ℤ, Bool, ◌&&◌, if◌then◌else◌, List, [], ◌∷◌, map, filter}
use Rattle.std.specs.List.{flat_map, range_with_len}
use Rattle.std.specs.List.Sorted.{IsPermutation}
use Rattle.std.specs.Ordering.{int_eq}
use Rattle.fill_base.specs.declared.place.Point.{Point}
use Rattle.fill_raster.specs.Axes.{box_begin}
use Rattle.fill_raster.specs.Lattice.{Lattice, IsLattice, in_raster, box_squares}
use Rattle.fill_text.specs.Chips.{with_rows}
use Rattle.fill_text.specs.Rules.{Values, fill_layer, raster_of}
use Rattle.fill_text.specs.ValuesOfRules.{values_of}
use Rattle.fill_text.specs.declared.chip.ChipRows.{ChipRows}
use Rattle.fill_text.specs.declared.rules.Rules.{Rules}
use Rattle.fill_stacks.specs.Laws.{AreItsRows}
use Rattle.fill_stacks.specs.Places.{PlaceSet, filled_places}
use Rattle.fill_stacks.specs.Stacks.{stacks, stack_places}
use Rattle.fill_stacks.specs.declared.pieces.Stack.{Stack}
use Rattle.gds_cells.specs.Copies.{copy_covers}
use Rattle.gds_cells.specs.Designs.{copies_of}
use Rattle.gds_cells.specs.Placements.{carried, shift}
use Rattle.gds_cells.specs.References.{grid_point}
use Rattle.gds_grammar.specs.Grammar.{IsLibrary, all_rules}
use Rattle.gds_grammar.specs.Outcomes.{Spells}
use Rattle.gds_grammar.specs.Values.{Contents}
use Rattle.gds_shape.specs.Winding.{covers}
use Rattle.gds_out.specs.FillContents.{box_points, corner_of, stack_points, fill_contents}
use Rattle.gds_out.specs.FillText.{fill_records, fill_text}

-- where the single references of a stack stand: an array's as flattening finds them from its points
abbrev pub stack_corners : Lattice → Stack → List Point
stack_corners r s =
    if (s.columns == 1) && (s.rows == 1) then corner_of r s.column s.row ∷ []
    else map (λ k. grid_point (stack_points r s) s.columns s.rows (k % s.columns) (k / s.columns)) (range_with_len 0 (s.columns * s.rows))

abbrev pub StacksStandAtTheirPlaces : Type 0
StacksStandAtTheirPlaces = (r : Lattice) (s : Stack) → 0 < s.columns → 0 < s.rows → stack_corners r s ≡ map (λ p. corner_of r p.0 p.1) (stack_places s)

-- the place (i, j)
abbrev pub is_place : ℤ → ℤ → ℤ × ℤ → Bool
is_place i j p = int_eq p.0 i && int_eq p.1 j

-- the raster of a rule file
abbrev pub raster_in : Rules → Lattice
raster_in rules = raster_of (values_of rules).numbers

-- a place stands in the list of the filled places once where it is on the raster and filled, and else not at all
abbrev pub EachPlaceStandsOnce : Type 0
EachPlaceStandsOnce = (rules : Rules) (filled : PlaceSet) (i j : ℤ)
    → filter (is_place i j) (filled_places filled (raster_in rules)) ≡ (if in_raster (raster_in rules) i j && filled i j then (i, j) ∷ [] else [])

-- the single references of all stacks stand at the corners of the filled places' boxes, at each once, and nowhere else
abbrev pub ReferencesStandAtTheirPlaces : Type 0
ReferencesStandAtTheirPlaces = (r : Lattice) (filled : PlaceSet)
    → IsPermutation (flat_map (stack_corners r) (stacks filled r)) (map (λ p. corner_of r p.0 p.1) (filled_places filled r))

-- the boundary of the one box, moved to the corner of a place's box, covers that box's squares and no other
abbrev pub MovedBoxIsThePlaces : Type 0
MovedBoxIsThePlaces = (r : Lattice) → IsLattice r → (i j x y : ℤ)
    → carried (shift (box_begin r.across i) (box_begin r.up j)) (covers (box_points r)) x y ≡ box_squares r i j x y

-- the records of the text, all of them, are a library that says what a fill library is to say, for any rules
abbrev pub TextIsALibrary : Type 0
TextIsALibrary = (rules : Rules) (units dates : List ℕ) (filled : PlaceSet) → length units ≡ 16 → length dates ≡ 24
    → IsLibrary all_rules (fill_records units dates (values_of rules) filled) (fill_contents units dates (values_of rules) filled)

-- the squares of each shape copy of a library from fill_top on, on the fill layer, in the order of flattening
abbrev pub boxes_of : Values → Contents → List (ℤ → ℤ → Bool)
boxes_of v library = map copy_covers (copies_of library.cells v.fill_top (fill_layer v ∷ []))

-- of any library that the text spells these are the boxes of the filled places, each once, in another order, and no other
abbrev pub BoxesAreThePlaces : Type 0
BoxesAreThePlaces = (rules : Rules) (units dates : List ℕ) (filled : PlaceSet) (library : Contents) → length units ≡ 16 → length dates ≡ 24
    → Spells (fill_text units dates (values_of rules) filled) library
    → IsPermutation (boxes_of (values_of rules) library) (map (λ p. box_squares (raster_in rules) p.0 p.1) (filled_places filled (raster_in rules)))

-- the text of places that stand in some rows alone is the same by the rules of these rows
abbrev pub TextOfSomeRows : Type 0
TextOfSomeRows = (values : Values) (rows : ChipRows) (units dates : List ℕ) (filled : PlaceSet) → AreItsRows filled (raster_of values.numbers) (raster_of (with_rows values rows).numbers)
    → fill_text units dates (with_rows values rows) filled ≡ fill_text units dates values filled
