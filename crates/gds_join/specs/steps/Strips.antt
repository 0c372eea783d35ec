-- Fills as strips, and a reading that may ask for no place.
use Rattle.std.specs.Prelude.{◌≡◌, ℕ, ℤ, Bool, false, List, length, slice_get, Some}
use Rattle.fill_state.specs.Filling.{Filling, is_filled}
use Rattle.fill_text.specs.Rules.{Values}
use Rattle.gds_grammar.specs.Outcomes.{IsRefused}
use Rattle.gds_out.specs.Places.{AreOfTiles, PlaceSet, marked_by}
use Rattle.gds_out.specs.declared.sheet.Strip.{Strip}
use Rattle.gds_join.specs.Reading.{IsFillOf}
use Rattle.gds_join.specs.declared.error.PartError.{PartError}
use Rattle.gds_join.specs.declared.error.PartError.TheVariants.{Library, Memory, NotAFill, OtherDesign, OtherRows, PlaceTwice, TooManyPlaces}

-- the strip has the fill's raster and places
pub record IsStripOf (f : Filling) (s : Strip) : Type 0 where
  pub raster : s.raster ≡ f.raster
  pub tiles : AreOfTiles f.raster s.marks.items
  pub marked : marked_by s.marks.items ≡ is_filled f

-- there is a strip for each fill, in their order
pub record AreStripsOf (fills : List Filling) (strips : List Strip) : Type 0 where
  pub count : length strips ≡ length fills
  pub each : (k : ℕ) (f : Filling) (s : Strip) → slice_get fills k ≡ Some f → slice_get strips k ≡ Some s → IsStripOf f s

-- why bytes are no fill library of these rules, or none without a place
abbrev pub IsUnreadIf : Values → Bool → List ℕ → PartError → Type 0
IsUnreadIf values some bytes Memory = Unit {0}
IsUnreadIf values some bytes (Library e) = IsRefused bytes e
IsUnreadIf values some bytes NotAFill = (units dates : List ℕ) (filled : PlaceSet) → IsFillOf values bytes units dates filled → (some ≡ false → (i j : ℤ) → filled i j ≡ false) → ⊥
IsUnreadIf values some bytes TooManyPlaces = ⊥
IsUnreadIf values some bytes OtherDesign = ⊥
IsUnreadIf values some bytes PlaceTwice = ⊥
IsUnreadIf values some bytes OtherRows = ⊥
