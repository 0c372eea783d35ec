-- The cells of a library: what each draws, which cells it refers to, and why the design is refused.
use Rattle.std.specs.Prelude.{◌≡◌, ℕ, ◌<◌, List, [], ◌∷◌, map, take, slice_get, filter, if◌then◌else◌, Option, Some, None, All}
use Rattle.std.specs.List.{flat_map, position_or_len}
use Rattle.std.specs.Str.{bytes_eq}
use Rattle.fill_base.specs.declared.layer.Layer.{Layer}
use Rattle.gds_grammar.specs.Values.{Cell, Shape as Element}
use Rattle.gds_cells.specs.declared.error.FlattenError.{FlattenError}
use Rattle.gds_cells.specs.declared.placement.Placement.{Placement}
use Rattle.gds_cells.specs.References.{placements_of, name_of, reference_fault}
use Rattle.gds_cells.specs.Shapes.{is_shape, shape_fault}
use Rattle.gds_cells.specs.Graphs.{Graph, IsReached}
use Rattle.gds_cells.specs.Copies.{Copy, Hierarchy, copies}

-- a cell, as the library says it: its name and its elements
abbrev pub Entry : Type 0
Entry = Cell

-- the index of the cell of this name; the number of cells where none has it
abbrev pub index_of : List Entry → List ℕ → ℕ
index_of cells name = position_or_len (λ e. bytes_eq name e.name) cells

abbrev pub elements_in : Option Entry → List Element
elements_in (Some e) = e.shapes
elements_in None = []

abbrev pub elements_at : List Entry → ℕ → List Element
elements_at cells c = elements_in (slice_get cells c)

-- the cell that an element refers to
abbrev pub target_if : List Entry → Option (List ℕ) → List ℕ
target_if cells (Some name) = index_of cells name ∷ []
target_if cells None = []

abbrev pub targets : List Entry → List Element → List ℕ
targets cells elements = flat_map (λ e. target_if cells (name_of e)) elements

abbrev pub graph_of : List Entry → Graph
graph_of cells = map (λ e. targets cells e.shapes) cells

-- the single references that elements stand for, each with the index of its cell
abbrev pub singles_to : List Entry → Option (List ℕ) → List Placement → List (ℕ × Placement)
singles_to cells (Some name) placements = map (λ p. (index_of cells name, p)) placements
singles_to cells None placements = []

abbrev pub singles_among : List Entry → List Element → List (ℕ × Placement)
singles_among cells elements = flat_map (λ e. singles_to cells (name_of e) (placements_of e)) elements

-- what the cells draw on the layers and refer to
abbrev pub hierarchy_of : List Entry → List Layer → Hierarchy
hierarchy_of cells layers = record {
  own = λ c. filter (is_shape layers) (elements_at cells c);
  singles = λ c. singles_among cells (elements_at cells c);
}

-- the copies of shapes that the top draws, through chains of at most 256 cells
abbrev pub copies_of : List Entry → List ℕ → List Layer → List Copy
copies_of cells top layers = copies (hierarchy_of cells layers) 256 (index_of cells top)

-- why an element is refused: a reference always, a shape where it's of one of them
abbrev pub element_fault : List Layer → Element → Option FlattenError
element_fault layers e = if is_shape layers e then shape_fault e else reference_fault e

abbrev pub AreFine : List Layer → List Element → Type 0
AreFine layers elements = All (λ e. element_fault layers e ≡ None) elements

-- the first fault of the cells that the top reaches, in the order of the file
pub record IsFirstFault (cells : List Entry) (top : ℕ) (layers : List Layer) (e : FlattenError) : Type 0 where
  pub cell : ℕ
  pub index : ℕ
  pub element : Element
  pub reached : IsReached (graph_of cells) top cell
  pub stands : slice_get (elements_at cells cell) index ≡ Some element
  pub faulty : element_fault layers element ≡ Some e
  pub before : AreFine layers (take index (elements_at cells cell))
  pub earlier : (c : ℕ) → c < cell → IsReached (graph_of cells) top c → AreFine layers (elements_at cells c)

-- no cell that the top reaches has a fault
abbrev pub AllFine : List Entry → ℕ → List Layer → Type 0
AllFine cells top layers =
    (c : ℕ) → IsReached (graph_of cells) top c → AreFine layers (elements_at cells c)
