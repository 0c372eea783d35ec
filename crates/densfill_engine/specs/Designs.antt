-- What the bytes of a design draw on the layers that the rules name.
use Rattle.std.specs.Prelude.{◌≡◌, ◌⊎◌, ◌&&◌, ◌||◌, ◌^◌, ◌<◌, ◌≤◌, ℕ, ℤ, false, true, List, [], ◌∷◌, length, Option, Some, None}
use Rattle.densfill_io.specs.declared.input.InputError.TheVariants.{TooLong, Device, Memory}
use Rattle.fill_base.specs.Coordinates.{IsInRange}
use Rattle.fill_base.specs.Squares.{squares}
use Rattle.fill_base.specs.declared.layer.Layer.{Layer}
use Rattle.fill_base.specs.declared.rect.Rect.{Rect}
use Rattle.fill_text.specs.Rules.{Values, existing_layers, keep_layers, metal_layers}
use Rattle.fill_job.specs.Plans.{Layers, PointSet}
use Rattle.gds_grammar.specs.Values.{Cell, Contents}
use Rattle.gds_grammar.specs.Outcomes as library
use Rattle.gds_cells.specs.Copies.{drawn, AllStayInRange}
use Rattle.gds_cells.specs.Designs.{AllFine, copies_of, index_of}
use Rattle.gds_flatten.specs.Flattening as flatten
use Rattle.gds_cells.specs.declared.error.FlattenError.{FlattenError}
use Rattle.densfill_engine.specs.Scopes.{Size, limited, unlimited}
use Rattle.densfill_engine.specs.declared.refusal.DesignError.{DesignError}
use Rattle.densfill_engine.specs.declared.refusal.DesignError.TheVariants.{Library, Flatten, Crowded}
use Rattle.densfill_engine.specs.declared.refusal.InputFault.{InputFault}
use Rattle.densfill_engine.specs.declared.refusal.InputFault.TheVariants.{Unread, Refused}

-- the bytes spell a library that says so, and are no more than 2^31
pub record IsRead (bytes : List ℕ) (design : Contents) : Type 0 where
  pub short : length bytes ≤ 2 ^ 31
  pub spelled : library.Spells bytes design

-- references and shapes are sound, and within the limits of a run there are not too many copies
abbrev pub IsCountable : Size → List Cell → List ℕ → List Layer → Type 0
IsCountable limited cells top layers = flatten.IsCountable cells top layers
IsCountable unlimited cells top layers = flatten.IsSound cells top × AllFine cells (index_of cells top) layers

-- the squares are those that the top draws on the layers, and nothing is refused
pub record IsDrawnOn (size : Size) (cells : List Cell) (top : List ℕ) (layers : List Layer) (p : PointSet) : Type 0 where
  pub countable : IsCountable size cells top layers
  pub inside : AllStayInRange (copies_of cells top layers)
  pub squares_are : p ≡ drawn (copies_of cells top layers)

-- the same where there are layers, and no square where there are none
abbrev pub IsOnAny : Size → List Cell → List ℕ → List Layer → PointSet → Type 0
IsOnAny size cells top [] p = (x y : ℤ) → p x y ≡ false
IsOnAny size cells top (layer ∷ more) p = IsDrawnOn size cells top (layer ∷ more) p

-- the metal is what the design's top draws on the layers of the metal
pub record IsDrawn (size : Size) (bytes : List ℕ) (values : Values) (metal : PointSet) : Type 0 where
  pub design : Contents
  pub read : IsRead bytes design
  pub drawn : IsDrawnOn size design.cells values.top (metal_layers values) metal

-- so it is, and the existing fill is what the same top draws on its layers: both count
pub record AreCounted (size : Size) (bytes : List ℕ) (values : Values) (metal fill : PointSet) : Type 0 where
  pub drawn : IsDrawn size bytes values metal
  pub filled : IsOnAny size drawn.design.cells values.top (existing_layers values) fill

-- so they are, and the keep-outs are what the same top draws on theirs
pub record AreDrawn (size : Size) (bytes : List ℕ) (values : Values) (layers : Layers) : Type 0 where
  pub counted : AreCounted size bytes values layers.metal layers.fill
  pub kept : IsOnAny size counted.drawn.design.cells values.top (keep_layers values) layers.keep

-- these are metal, existing fill and keep-outs, and the library has these units and dates
pub record IsDesign (size : Size) (bytes : List ℕ) (values : Values) (layers : Layers) (units dates : List ℕ) : Type 0 where
  pub drawn : AreDrawn size bytes values layers
  pub units_are : units ≡ drawn.counted.drawn.design.units
  pub dates_are : dates ≡ drawn.counted.drawn.design.dates

-- ---- near a rectangle, where there is one: of a design of any size then

abbrev pub size_near : Option Rect → Size
size_near None = limited
size_near (Some frame) = unlimited

-- the squares within it
abbrev pub squares_within : Option Rect → PointSet → PointSet
squares_within None p = p
squares_within (Some frame) p = λ x y. p x y && squares frame x y

abbrev pub layers_within : Option Rect → Layers → Layers
layers_within frame layers = record { metal = squares_within frame layers.metal; fill = squares_within frame layers.fill; keep = squares_within frame layers.keep }

-- a part knows besides that all squares lie within the coordinates
abbrev pub IsRanged : Option Rect → PointSet → Type 0
IsRanged None p = Unit {0}
IsRanged (Some frame) p = (x y : ℤ) → p x y ≡ true → IsInRange x y

-- copies count, and are too many, where they meet it
abbrev pub IsCountableNear : Option Rect → List Cell → List ℕ → List Layer → Type 0
IsCountableNear None cells top layers = flatten.IsCountable cells top layers
IsCountableNear (Some frame) cells top layers = flatten.IsCountableOn cells top layers frame

abbrev pub IsRefusedNear : Option Rect → List Cell → List ℕ → List Layer → FlattenError → Type 0
IsRefusedNear None cells top layers e = flatten.IsRefused cells top layers e
IsRefusedNear (Some frame) cells top layers e = flatten.IsRefusedOn cells top layers frame e

-- the squares are those within it that the top draws on the layers
pub record IsDrawnNear (frame : Option Rect) (cells : List Cell) (top : List ℕ) (layers : List Layer) (p : PointSet) : Type 0 where
  pub countable : IsCountableNear frame cells top layers
  pub inside : AllStayInRange (copies_of cells top layers)
  pub ranged : IsRanged frame (drawn (copies_of cells top layers))
  pub squares_are : (x y : ℤ) → p x y ≡ squares_within frame (drawn (copies_of cells top layers)) x y

abbrev pub IsOnAnyNear : Option Rect → List Cell → List ℕ → List Layer → PointSet → Type 0
IsOnAnyNear frame cells top [] p = (x y : ℤ) → p x y ≡ false
IsOnAnyNear frame cells top (layer ∷ more) p = IsDrawnNear frame cells top (layer ∷ more) p

abbrev pub IsFewNear : Option Rect → List Cell → List ℕ → List Layer → Type 0
IsFewNear frame cells top [] = Unit {0}
IsFewNear frame cells top (layer ∷ more) = IsCountableNear frame cells top (layer ∷ more)

-- the squares are those within it of what counts of a design: metal and existing fill
pub record IsCountedNear (frame : Option Rect) (bytes : List ℕ) (values : Values) (p : PointSet) : Type 0 where
  pub metal : PointSet
  pub fill : PointSet
  pub counted : AreCounted (size_near frame) bytes values metal fill
  pub within : p ≡ squares_within frame (λ x y. metal x y || fill x y)

-- metal, existing fill and keep-outs are those within it of a design
pub record IsDesignNear (frame : Option Rect) (bytes : List ℕ) (values : Values) (near : Layers) (units dates : List ℕ) : Type 0 where
  pub layers : Layers
  pub whole : IsDesign (size_near frame) bytes values layers units dates
  pub metal_in : IsRanged frame layers.metal
  pub fill_in : IsRanged frame layers.fill
  pub keep_in : IsRanged frame layers.keep
  pub within : near ≡ layers_within frame layers

-- ---- refusals

-- why the metal of a design of these bytes can't be flattened there
pub record IsUnflattened (frame : Option Rect) (bytes : List ℕ) (values : Values) (e : FlattenError) : Type 0 where
  pub design : Contents
  pub read : IsRead bytes design
  pub refused : IsRefusedNear frame design.cells values.top (metal_layers values) e

-- why the existing fill, of which there are layers, can't be, where the metal is
pub record IsUnflattenedFill (frame : Option Rect) (bytes : List ℕ) (values : Values) (e : FlattenError) : Type 0 where
  pub metal : PointSet
  pub drawn : IsDrawn (size_near frame) bytes values metal
  pub few : IsCountableNear frame drawn.design.cells values.top (metal_layers values)
  pub some : ¬ (existing_layers values ≡ [])
  pub refused : IsRefusedNear frame drawn.design.cells values.top (existing_layers values) e

-- why the keep-outs, of which there are layers, can't be, where metal and existing fill are
pub record IsUnflattenedKeep (frame : Option Rect) (bytes : List ℕ) (values : Values) (e : FlattenError) : Type 0 where
  pub metal : PointSet
  pub fill : PointSet
  pub counted : AreCounted (size_near frame) bytes values metal fill
  pub few : IsCountableNear frame counted.drawn.design.cells values.top (metal_layers values)
  pub few_filled : IsFewNear frame counted.drawn.design.cells values.top (existing_layers values)
  pub some : ¬ (keep_layers values ≡ [])
  pub refused : IsRefusedNear frame counted.drawn.design.cells values.top (keep_layers values) e

-- why what counts can't be drawn there: the metal, or behind it the existing fill
abbrev pub IsUncounted : Option Rect → List ℕ → Values → FlattenError → Type 0
IsUncounted frame bytes values e = IsUnflattened frame bytes values e ⊎ IsUnflattenedFill frame bytes values e

-- or behind both the keep-outs
abbrev pub IsUndrawn : Option Rect → List ℕ → Values → FlattenError → Type 0
IsUndrawn frame bytes values e = IsUncounted frame bytes values e ⊎ IsUnflattenedKeep frame bytes values e

-- Why a design of these bytes gives nothing: it could not be read, or memory ran out; it's too long; it's no library, or its top
-- can't be flattened, for a cause of this kind.
abbrev pub IsFaultBy : (FlattenError → Type 0) → List ℕ → InputFault DesignError → Type 0
IsFaultBy refused bytes (Unread Device) = Unit {0}
IsFaultBy refused bytes (Unread Memory) = Unit {0}
IsFaultBy refused bytes (Unread TooLong) = 2 ^ 31 < length bytes
IsFaultBy refused bytes (Refused (Library e)) = (length bytes ≤ 2 ^ 31) × library.IsRefused bytes e
IsFaultBy refused bytes (Refused (Flatten e)) = refused e
IsFaultBy refused bytes (Refused (Crowded number count)) = ⊥
