-- The grammar: which lists of records are a library, and what it says. A library is a tree of
-- parts; its records are those of its parts from left to right.
use Rattle.std.specs.Prelude.{◌≡◌, ℕ, Bool, true, false, List, [], ◌∷◌, ◌++◌, map, Some}
use Rattle.std.specs.List.{flat_map, list_any, AllByRecursion}
use Rattle.std.specs.Str.{bytes_eq}
use Rattle.gds_record.specs.declared.kind.TheConstants as kinds
use Rattle.gds_record.specs.Records.{Rec, IsRecord}
use Rattle.gds_record.specs.Numbers.{trimmed}
use Rattle.gds_grammar.specs.declared.element.ElementKind.{ElementKind}
use Rattle.gds_grammar.specs.Forms.{among, IsWell}
use Rattle.gds_grammar.specs.Values.{Shape, Cell, Contents}
use Rattle.gds_grammar.specs.Elements.{opening, may_stand, kinds_in, is_whole, are_points, is_closed, has_string, shapes_in}

-- The three rules that a list of records keeps beside its order: what points an element has, that a
-- boundary is closed, and that no two cells have one name. They are parameters, so that it can
-- be said which of them is broken.
pub record Rules : Type 0 where
  pub points : ElementKind → List ℕ → Bool
  pub closed : ElementKind → List ℕ → Bool
  pub taken : List Cell → List ℕ → Bool

abbrev pub has_name : List Cell → List ℕ → Bool
has_name cells name = list_any (λ c. bytes_eq name c.name) cells

abbrev pub no_rules : Rules
no_rules = record {
  points = λ element xy. true;
  closed = λ element xy. true;
  taken = λ cells name. false;
}

abbrev pub points_alone : Rules
points_alone = record {
  points = are_points;
  closed = λ element xy. true;
  taken = λ cells name. false;
}

abbrev pub points_and_closing : Rules
points_and_closing = record { points = are_points; closed = is_closed; taken = λ cells name. false }

abbrev pub all_rules : Rules
all_rules = record { points = are_points; closed = is_closed; taken = has_name }

-- ---- elements

pub record ElementPart : Type 0 where
  pub element : ElementKind
  pub start : Rec
  pub before : List Rec
  pub xy : Rec
  pub strings : List Rec
  pub properties : List (Rec × Rec)
  pub stop : Rec

abbrev pub property_records : Rec × Rec → List Rec
property_records p = p.0 ∷ p.1 ∷ []

abbrev pub element_records : ElementPart → List Rec
element_records e =
    e.start ∷ (e.before ++ e.xy ∷ (e.strings ++ (flat_map property_records e.properties ++ e.stop ∷ [])))

-- each record may stand behind those before it
abbrev pub MayStand : ElementKind → List ℕ → List Rec → Type 0
MayStand element seen [] = Unit {0}
MayStand element seen (r ∷ rs) =
    (may_stand element seen r.kind ≡ true) × MayStand element (seen ++ r.kind ∷ []) rs

abbrev pub AreStrings : Bool → List Rec → Type 0
AreStrings true (r ∷ []) = r.kind ≡ kinds.STRING
AreStrings true _ = ⊥
AreStrings false [] = Unit {0}
AreStrings false _ = ⊥

abbrev pub IsProperty : Rec × Rec → Type 0
IsProperty p = (p.0.kind ≡ kinds.PROPATTR) × (p.1.kind ≡ kinds.PROPVALUE)

pub record IsElement (ρ : Rules) (e : ElementPart) : Type 0 where
  pub opens : opening e.start.kind ≡ Some e.element
  pub stand : MayStand e.element [] e.before
  pub whole : is_whole e.element (kinds_in e.before) ≡ true
  pub xy : e.xy.kind ≡ kinds.XY
  pub points : ρ.points e.element e.xy.body ≡ true
  pub closed : ρ.closed e.element e.xy.body ≡ true
  pub strings : AreStrings (has_string e.element) e.strings
  pub properties : AllByRecursion IsProperty e.properties
  pub stop : e.stop.kind ≡ kinds.ENDEL

abbrev pub element_shapes : ElementPart → List Shape
element_shapes e = shapes_in e.element e.before e.xy.body

-- ---- cells

pub record CellPart : Type 0 where
  pub start : Rec
  pub name : Rec
  pub class : List Rec
  pub elements : List ElementPart
  pub stop : Rec

abbrev pub cell_records : CellPart → List Rec
cell_records c =
    c.start ∷ c.name ∷ (c.class ++ (flat_map element_records c.elements ++ c.stop ∷ []))

abbrev pub AtMostOne : ℕ → List Rec → Type 0
AtMostOne kind [] = Unit {0}
AtMostOne kind (r ∷ []) = r.kind ≡ kind
AtMostOne kind _ = ⊥

pub record IsCell (ρ : Rules) (c : CellPart) : Type 0 where
  pub start : c.start.kind ≡ kinds.BGNSTR
  pub name : c.name.kind ≡ kinds.STRNAME
  pub class : AtMostOne kinds.STRCLASS c.class
  pub elements : AllByRecursion (IsElement ρ) c.elements
  pub stop : c.stop.kind ≡ kinds.ENDSTR

abbrev pub cell_value : CellPart → Cell
cell_value c = record { name = trimmed c.name.body; shapes = flat_map element_shapes c.elements }

-- cells behind others, none with a name that is taken
abbrev pub AreCells : Rules → List Cell → List CellPart → Type 0
AreCells ρ cells [] = Unit {0}
AreCells ρ cells (c ∷ cs) =
    IsCell ρ c × (ρ.taken cells (trimmed c.name.body) ≡ false) × AreCells ρ (cells ++ cell_value c ∷ []) cs

-- ---- the library

-- what may stand between BGNLIB and UNITS, in any order and number, beside the one LIBNAME
abbrev pub library_kinds : List ℕ
library_kinds =
    kinds.REFLIBS ∷ kinds.FONTS ∷ kinds.ATTRTABLE ∷ kinds.GENERATIONS ∷ kinds.FORMAT ∷ kinds.MASK
    ∷ kinds.ENDMASKS ∷ kinds.LIBDIRSIZE ∷ kinds.SRFNAME ∷ kinds.LIBSECUR ∷ []

abbrev pub IsLibraryPart : Rec → Type 0
IsLibraryPart r = among library_kinds r.kind ≡ true

pub record LibraryPart : Type 0 where
  pub header : Rec
  pub start : Rec
  pub before : List Rec
  pub name : Rec
  pub after : List Rec
  pub units : Rec
  pub cells : List CellPart
  pub stop : Rec

abbrev pub library_records : LibraryPart → List Rec
library_records l =
    l.header ∷ l.start
    ∷ (l.before ++ l.name ∷ (l.after ++ l.units ∷ (flat_map cell_records l.cells ++ l.stop ∷ [])))

pub record IsLibraryOf (ρ : Rules) (l : LibraryPart) : Type 0 where
  pub header : l.header.kind ≡ kinds.HEADER
  pub start : l.start.kind ≡ kinds.BGNLIB
  pub before : AllByRecursion IsLibraryPart l.before
  pub name : l.name.kind ≡ kinds.LIBNAME
  pub after : AllByRecursion IsLibraryPart l.after
  pub units : l.units.kind ≡ kinds.UNITS
  pub cells : AreCells ρ [] l.cells
  pub stop : l.stop.kind ≡ kinds.ENDLIB

abbrev pub library_value : LibraryPart → Contents
library_value l =
    record { dates = l.start.body; units = l.units.body; cells = map cell_value l.cells }

-- records that fit their bytes, each as the manual has those of its kind
pub record AreWell (records : List Rec) : Type 0 where
  pub fit : AllByRecursion IsRecord records
  pub well : AllByRecursion IsWell records

-- the records are a library that says so
pub record IsLibrary (ρ : Rules) (records : List Rec) (value : Contents) : Type 0 where
  pub part : LibraryPart
  pub spelled : records ≡ library_records part
  pub well : AreWell records
  pub is_library : IsLibraryOf ρ part
  pub says : value ≡ library_value part

-- some records after these make them a library
pub record IsViable (ρ : Rules) (records : List Rec) : Type 0 where
  pub more : List Rec
  pub value : Contents
  pub library : IsLibrary ρ (records ++ more) value
