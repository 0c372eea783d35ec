-- Which places a fill library says are filled.
use Rattle.std.specs.Prelude.{◌≡◌, ℕ, ◌*◌, ◌/◌, ◌%◌, ℤ, Bool, true, ◌&&◌, List, [], ◌∷◌, length, map, if◌then◌else◌}
use Rattle.std.specs.List.{flat_map, list_any, range_with_len}
use Rattle.std.specs.Ordering.{int_eq}
use Rattle.fill_base.specs.declared.place.Point.{Point}
use Rattle.fill_raster.specs.Lattice.{Lattice, in_raster}
use Rattle.fill_text.specs.Rules.{Values, raster_of}
use Rattle.fill_text.specs.ValuesOfRules.{values_of}
use Rattle.fill_text.specs.declared.rules.Rules.{Rules}
use Rattle.gds_cells.specs.References.{grid_point, is_bad_array, is_bad_transform}
use Rattle.gds_grammar.specs.Values.{Shape, Contents, boundary, path, reference, array}
use Rattle.gds_out.specs.FillContents.{corner_of}
use Rattle.gds_out.specs.FillText.{fill_text}
use Rattle.gds_out.specs.Places.{PlaceSet}

-- where the single references of a shape stand; a reference that flattening refuses stands nowhere
abbrev pub corners_of : Shape → List Point
corners_of (boundary layer points) = []
corners_of (path layer wire) = []
corners_of (reference cell transform origin) = if is_bad_transform transform then [] else origin ∷ []
corners_of (array cell transform columns rows points) =
    if is_bad_transform transform then []
    else if is_bad_array columns rows points then []
    else map (λ k. grid_point points columns rows (k % columns) (k / columns)) (range_with_len 0 (columns * rows))

-- and those of all cells
abbrev pub corners_in : Contents → List Point
corners_in contents = flat_map corners_of (flat_map (λ c. c.shapes) contents.cells)

abbrev pub is_point : Point → Point → Bool
is_point p q = int_eq q.x p.x && int_eq q.y p.y

-- the places of the raster at whose corner a reference stands
abbrev pub places_in : Lattice → Contents → PlaceSet
places_in r contents i j = in_raster r i j && list_any (is_point (corner_of r i j)) (corners_in contents)

-- the bytes are the fill library of these rules, with these units and dates, of these places of the raster
pub record IsFillOf (values : Values) (bytes units dates : List ℕ) (filled : PlaceSet) : Type 0 where
  pub units_size : length units ≡ 16
  pub dates_size : length dates ≡ 24
  pub on_raster : (i j : ℤ) → filled i j ≡ true → in_raster (raster_of values.numbers) i j ≡ true
  pub text : bytes ≡ fill_text units dates values filled

-- the bytes are no fill library of these rules
abbrev pub IsNoFill : Values → List ℕ → Type 0
IsNoFill values bytes = (units dates : List ℕ) (filled : PlaceSet) → IsFillOf values bytes units dates filled → ⊥

-- so by a rule file that one run takes
abbrev pub IsFillText : Rules → List ℕ → List ℕ → List ℕ → PlaceSet → Type 0
IsFillText rules = IsFillOf (values_of rules)
