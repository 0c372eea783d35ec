-- What holds of the fill libraries of parts.
use Rattle.std.specs.Prelude.{◌≡◌, ◌↔◌, ℕ, ◌<◌, ◌≤◌, ℤ, false, List, [], ◌∷◌, ◌++◌, length, slice_get, Option, Some, None}
use Rattle.fill_text.specs.ValuesOfRules.{values_of}
use Rattle.fill_text.specs.declared.rules.Rules.{Rules}
use Rattle.fill_job.specs.Plans.{Layers, plan_of}
use Rattle.fill_core.specs.Boxes.{low_fill}
use Rattle.fill_parts.specs.Laws.{part}
use Rattle.fill_parts.specs.PartFill.{part_fill}
use Rattle.fill_parts.specs.Smaller.{IsPlanOfAnySize}
use Rattle.fill_text.specs.Rules.{Values}
use Rattle.gds_grammar.specs.Outcomes.{Spells}
use Rattle.gds_grammar.specs.Values.{Contents}
use Rattle.gds_out.specs.FillText.{fill_text}
use Rattle.gds_out.specs.Laws.{raster_in}
use Rattle.gds_out.specs.Places.{PlaceSet}
use Rattle.gds_join.specs.Joins.{AreTaken, Design, IsJoined, IsTaken}
use Rattle.gds_join.specs.Reading.{IsFillText, places_in}

-- what a library that a fill library is read as says of its fill
pub record TellsFill (rules : Rules) (contents : Contents) (units dates : List ℕ) (filled : PlaceSet) : Type 0 where
  pub units_are : contents.units ≡ units
  pub dates_are : contents.dates ≡ dates
  pub places_are : places_in (raster_in rules) contents ≡ filled

-- whatever library a fill library is read as, it has its units and dates, and its references stand at its places
abbrev pub TextTellsItsFill : Type 0
TextTellsItsFill = (rules : Rules) (bytes units dates : List ℕ) (filled : PlaceSet) (contents : Contents) → IsFillText rules bytes units dates filled → Spells bytes contents → TellsFill rules contents units dates filled

-- a text is a fill library of one set of places only, with one pair of units and dates
pub record AreOneFill (units dates other others : List ℕ) (filled changed : PlaceSet) : Type 0 where
  pub units_are : units ≡ other
  pub dates_are : dates ≡ others
  pub places_are : filled ≡ changed

abbrev pub OneTextOneFill : Type 0
OneTextOneFill = (rules : Rules) (bytes units dates other others : List ℕ) (filled changed : PlaceSet) → IsFillText rules bytes units dates filled → IsFillText rules bytes other others changed
    → AreOneFill units dates other others filled changed

-- Bytes that are read as a library are a fill library exactly where they are the text of what its references say.
abbrev pub ReadingIsExact : Type 0
ReadingIsExact = (rules : Rules) (bytes : List ℕ) (contents : Contents) → Spells bytes contents → length contents.units ≡ 16 → length contents.dates ≡ 24
    → (bytes ≡ fill_text contents.units contents.dates (values_of rules) (places_in (raster_in rules) contents))
    ↔ ((units dates : List ℕ) × (filled : PlaceSet) × IsFillText rules bytes units dates filled)

-- the libraries of all parts of one fill, joined, are the library of that fill
abbrev pub PartsMakeTheLibrary : Type 0
PartsMakeTheLibrary = (values : Values) (units dates : List ℕ) (layers : Layers) (texts : List (List ℕ)) (out : List ℕ) → IsPlanOfAnySize (plan_of values) → 0 < length texts → length units ≡ 16 → length dates ≡ 24 → length texts ≤ 4096
    → ((k : ℕ) → k < length texts → slice_get texts k ≡ Some (fill_text units dates values (part_fill (plan_of values) layers (part k (length texts)))))
    → IsJoined values texts out → out ≡ fill_text units dates values (low_fill (plan_of values) layers)

-- Parts are taken one after another: none, one more, and all.
abbrev pub NoneAreTaken : Type 0
NoneAreTaken = (values : Values) (count : ℕ) (now : PlaceSet) → ((i j : ℤ) → now i j ≡ false) → AreTaken values count [] None now

abbrev pub OneMoreIsTaken : Type 0
OneMoreIsTaken = (values : Values) (count : ℕ) (texts : List (List ℕ)) (design : Option Design) (old new : PlaceSet) (bytes : List ℕ) (d : Design) → AreTaken values count texts design old
    → IsTaken values (part (length texts) count) design old new bytes d → AreTaken values count (texts ++ bytes ∷ []) (Some d) new

abbrev pub TakenAreJoined : Type 0
TakenAreJoined = (values : Values) (texts : List (List ℕ)) (d : Design) (now : PlaceSet) (out : List ℕ) → AreTaken values (length texts) texts (Some d) now → out ≡ fill_text d.0 d.1 values now → IsJoined values texts out
