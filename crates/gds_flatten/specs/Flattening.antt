-- What flattening answers, and when each refusal comes.
use Rattle.std.specs.Prelude.{ℕ, ◌<◌, ◌≤◌, List, length}
use Rattle.fill_base.specs.declared.layer.Layer.{Layer}
use Rattle.fill_base.specs.declared.rect.Rect.{Rect}
use Rattle.gds_cells.specs.declared.error.FlattenError.{FlattenError}
use Rattle.gds_cells.specs.declared.error.FlattenError.TheVariants.{Memory, NoTop, MissingCell, Cycle, TooDeep, TooManyShapes, OutOfRange}
use Rattle.gds_cells.specs.Graphs.{IsReached, IsCyclic, IsTooDeep}
use Rattle.gds_cells.specs.Copies.{AllStayInRange}
use Rattle.gds_flatten.specs.Frames.{met}
use Rattle.gds_cells.specs.Designs.{Entry, index_of, graph_of, copies_of, IsFirstFault, AllFine}

abbrev pub HasTop : List Entry → List ℕ → Type 0
HasTop cells top = index_of cells top < length cells

-- the top refers to a cell that isn't there, itself or through others
abbrev pub LacksCell : List Entry → List ℕ → Type 0
LacksCell cells top = IsReached (graph_of cells) (index_of cells top) (length cells)

-- the cells that the top refers to are there, none refers to itself, and no chain is too long
pub record IsSound (cells : List Entry) (top : List ℕ) : Type 0 where
  pub has_top : HasTop cells top
  pub complete : LacksCell cells top → ⊥
  pub acyclic : IsCyclic (graph_of cells) (index_of cells top) → ⊥
  pub shallow : IsTooDeep (graph_of cells) (index_of cells top) → ⊥

-- references and shapes are sound, and there are not too many copies
pub record IsCountable (cells : List Entry) (top : List ℕ) (layers : List Layer) : Type 0 where
  pub sound : IsSound cells top
  pub fine : AllFine cells (index_of cells top) layers
  pub few : length (copies_of cells top layers) ≤ 4000000

-- why a design is refused: each cause is the first in this order
abbrev pub IsRefused : List Entry → List ℕ → List Layer → FlattenError → Type 0
IsRefused cells top layers Memory = Unit {0}
IsRefused cells top layers NoTop = HasTop cells top → ⊥
IsRefused cells top layers MissingCell = HasTop cells top × LacksCell cells top
IsRefused cells top layers Cycle =
    HasTop cells top × (LacksCell cells top → ⊥) × IsCyclic (graph_of cells) (index_of cells top)
IsRefused cells top layers TooDeep =
    HasTop cells top × (LacksCell cells top → ⊥) × (IsCyclic (graph_of cells) (index_of cells top) → ⊥)
    × IsTooDeep (graph_of cells) (index_of cells top)
IsRefused cells top layers TooManyShapes =
    IsSound cells top × AllFine cells (index_of cells top) layers
    × (4000000 < length (copies_of cells top layers))
IsRefused cells top layers OutOfRange =
    IsCountable cells top layers × (AllStayInRange (copies_of cells top layers) → ⊥)
IsRefused cells top layers e =
    IsSound cells top × IsFirstFault cells (index_of cells top) layers e

-- so too of a part of a design, but that only the copies count whose extents meet the frame
pub record IsCountableOn (cells : List Entry) (top : List ℕ) (layers : List Layer) (frame : Rect) : Type 0 where
  pub sound : IsSound cells top
  pub fine : AllFine cells (index_of cells top) layers
  pub few : met frame (copies_of cells top layers) ≤ 4000000

-- why a design is refused of which a part is asked for: for the same causes, but that of the copies only those
-- are too many that meet the frame; one that passes the range is a cause wherever it lies
abbrev pub IsRefusedOn : List Entry → List ℕ → List Layer → Rect → FlattenError → Type 0
IsRefusedOn cells top layers frame TooManyShapes =
    IsSound cells top × AllFine cells (index_of cells top) layers
    × (4000000 < met frame (copies_of cells top layers))
IsRefusedOn cells top layers frame OutOfRange =
    IsCountableOn cells top layers frame × (AllStayInRange (copies_of cells top layers) → ⊥)
IsRefusedOn cells top layers frame e = IsRefused cells top layers e
