-- Fill libraries of parts, joined.
use Rattle.std.specs.Prelude.{◌≡◌, ◌||◌, ℕ, ℤ, Bool, true, List, length, slice_get, Option, Some, None, Err}
use Rattle.fill_raster.specs.Lattice.{tile_of}
use Rattle.fill_text.specs.Rules.{Values, raster_of}
use Rattle.fill_text.specs.ValuesOfRules.{values_of}
use Rattle.fill_text.specs.declared.rules.Rules.{Rules}
use Rattle.fill_job.specs.Plans.{plan_of}
use Rattle.fill_job.specs.Searches.{some_below}
use Rattle.fill_parts.specs.Cuts.{Part}
use Rattle.fill_parts.specs.Laws.{part}
use Rattle.fill_parts.specs.Needs.{has_tile}
use Rattle.fill_parts.specs.PartChip.{by_size, own_alone}
use Rattle.fill_parts.specs.declared.part_rules.PartRulesError.TheVariants.{Places}
use Rattle.gds_out.specs.FillText.{fill_text}
use Rattle.gds_out.specs.Places.{PlaceSet}
use Rattle.gds_grammar.specs.Outcomes.{IsRefused}
use Rattle.gds_join.specs.Reading.{IsFillOf, IsNoFill}
use Rattle.gds_join.specs.declared.error.PartError.{PartError}
use Rattle.gds_join.specs.declared.error.PartError.TheVariants.{Library, Memory, NotAFill, OtherDesign, OtherRows, PlaceTwice, TooManyPlaces}

-- the place is of the part's tiles
abbrev pub is_of_part : Values → Part → PlaceSet
is_of_part values k i j = has_tile (plan_of values) k (tile_of (raster_of values.numbers) i j)

-- the bytes are the fill library of places of a part's tiles, in which a run of the part's own rows alone has few enough places
pub record IsPartText (values : Values) (k : Part) (units dates bytes : List ℕ) (filled : PlaceSet) : Type 0 where
  pub rules : Rules
  pub rules_are : values_of rules ≡ own_alone values k
  pub is_fill : IsFillOf values bytes units dates filled
  pub own : (i j : ℤ) → filled i j ≡ true → is_of_part values k i j ≡ true

-- they are no such library
abbrev pub IsNoPart : Values → Part → List ℕ → Type 0
IsNoPart values k bytes = (units dates : List ℕ) (filled : PlaceSet) → IsPartText values k units dates bytes filled → ⊥

-- some place is in both sets
pub record Common (p q : PlaceSet) : Type 0 where
  pub i : ℤ
  pub j : ℤ
  pub first : p i j ≡ true
  pub second : q i j ≡ true

abbrev pub Meets : PlaceSet → PlaceSet → Type 0
Meets p q = Common p q

-- why bytes are no fill library of these rules
abbrev pub IsUnread : Values → List ℕ → PartError → Type 0
IsUnread values bytes Memory = Unit {0}
IsUnread values bytes (Library e) = IsRefused bytes e
IsUnread values bytes NotAFill = IsNoFill values bytes
IsUnread values bytes TooManyPlaces = ⊥
IsUnread values bytes OtherDesign = ⊥
IsUnread values bytes PlaceTwice = ⊥
IsUnread values bytes OtherRows = ⊥

-- why they are no fill library of a part
abbrev pub IsUnreadOf : Values → Part → List ℕ → PartError → Type 0
IsUnreadOf values k bytes Memory = Unit {0}
IsUnreadOf values k bytes (Library e) = IsRefused bytes e
IsUnreadOf values k bytes NotAFill = IsNoPart values k bytes
IsUnreadOf values k bytes TooManyPlaces = by_size (own_alone values k) ≡ Err Places
IsUnreadOf values k bytes OtherDesign = ⊥
IsUnreadOf values k bytes PlaceTwice = ⊥
IsUnreadOf values k bytes OtherRows = ⊥

-- units and dates, as the first part has them
abbrev pub Design : Type 0
Design = List ℕ × List ℕ

abbrev pub IsOfDesign : Option Design → List ℕ → List ℕ → Type 0
IsOfDesign None units dates = Unit {0}
IsOfDesign (Some first) units dates = first ≡ (units, dates)

abbrev pub IsOtherDesign : Option Design → List ℕ → List ℕ → Type 0
IsOtherDesign design units dates = (first : Design) × (design ≡ Some first) × (first ≡ (units, dates) → ⊥)

-- a part's library is taken behind others: no place of it was there, and now all are
pub record IsTaken (values : Values) (k : Part) (design : Option Design) (old new : PlaceSet) (bytes : List ℕ) (d : Design) : Type 0 where
  pub filled : PlaceSet
  pub is_part : IsPartText values k d.0 d.1 bytes filled
  pub same : IsOfDesign design d.0 d.1
  pub union : (i j : ℤ) → new i j ≡ old i j || filled i j
  pub apart : Meets filled old → ⊥

-- the texts are those of the first of so many parts, taken one after another: the units and dates, and the places, of all
pub record AreTaken (values : Values) (count : ℕ) (texts : List (List ℕ)) (design : Option Design) (now : PlaceSet) : Type 0 where
  pub fills : ℕ → PlaceSet
  pub each : (k : ℕ) (bytes : List ℕ) → slice_get texts k ≡ Some bytes → (d : Design) × (design ≡ Some d) × IsPartText values (part k count) d.0 d.1 bytes (fills k)
  pub union : (i j : ℤ) → now i j ≡ some_below (λ k. fills k i j) (length texts)

-- Why the library of a part is refused behind others: units and dates of the first part, if this isn't it, and the places of all
-- parts before it. Of a chip that one run takes it is told whether the bytes are a fill library of another part: then a part before
-- it fills one of its places, or else some place is not this part's.
abbrev pub IsPartRefused : Values → Bool → Part → Option Design → PlaceSet → List ℕ → PartError → Type 0
IsPartRefused values one_run k design earlier bytes Memory = Unit {0}
IsPartRefused values one_run k design earlier bytes (Library e) = IsRefused bytes e
IsPartRefused values one_run k design earlier bytes NotAFill = IsNoPart values k bytes × (one_run ≡ true → IsNoFill values bytes)
IsPartRefused values one_run k design earlier bytes TooManyPlaces = by_size (own_alone values k) ≡ Err Places
IsPartRefused values one_run k design earlier bytes OtherDesign = (units dates : List ℕ) × (filled : PlaceSet) × IsFillOf values bytes units dates filled × IsOtherDesign design units dates
IsPartRefused values one_run k design earlier bytes PlaceTwice = (units dates : List ℕ) × (filled : PlaceSet) × IsFillOf values bytes units dates filled × IsOfDesign design units dates
    × Meets filled earlier
IsPartRefused values one_run k design earlier bytes OtherRows = (units dates : List ℕ) × (filled : PlaceSet) × IsFillOf values bytes units dates filled × IsOfDesign design units dates
    × (Meets filled earlier → ⊥) × IsNoPart values k bytes

-- each text is that of one of as many parts, in their order, and the bytes are the fill library of all their places
pub record IsJoined (values : Values) (texts : List (List ℕ)) (out : List ℕ) : Type 0 where
  pub units : List ℕ
  pub dates : List ℕ
  pub fills : ℕ → PlaceSet
  pub each : (k : ℕ) (bytes : List ℕ) → slice_get texts k ≡ Some bytes → IsPartText values (part k (length texts)) units dates bytes (fills k)
  pub text : out ≡ fill_text units dates values (λ i j. some_below (λ k. fills k i j) (length texts))
