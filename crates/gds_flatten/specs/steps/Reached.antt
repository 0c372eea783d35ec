-- The cells that a top reaches.
use Rattle.std.specs.Prelude.{◌≡◌, ℕ, ◌<◌, List, length}
use Rattle.fill_base.specs.declared.layer.Layer.{Layer}
use Rattle.fill_base.specs.declared.rect.Rect.{Rect}
use Rattle.gds_cells.specs.declared.cell.Cell.{Cell}
use Rattle.gds_cells.specs.declared.error.FlattenError.{FlattenError}
use Rattle.gds_cells.specs.Designs.{Entry, index_of, AllFine, copies_of}
use Rattle.gds_cells.specs.Graphs.{Graph, item, IsDeep}
use Rattle.gds_cells.specs.steps.Counting.{IsTied}
use Rattle.gds_cells.specs.steps.Searches.{IsIn, IsOrdered}
use Rattle.gds_cells.specs.steps.Walks.{top_copies}
use Rattle.gds_flatten.specs.Flattening.{IsSound, IsRefused, IsRefusedOn}

-- each cell of the order stands behind all that it refers to, no chain from one has 256 references, and the top is one of them
pub record IsArranged (cells : List Cell) (order : List ℕ) (top : ℕ) : Type 0 where
  pub graph : Graph
  pub ordered : IsOrdered graph order
  pub tied : (q : ℕ) → q < length order → IsTied graph cells (item order q)
  pub shallow : (q : ℕ) → q < length order → IsDeep graph 256 (item order q) → ⊥
  pub here : IsIn order top

-- the design has no fault, and the cells draw what it does
pub record AreReached (entries : List Entry) (top : List ℕ) (layers : List Layer) (cells : List Cell) (t : ℕ) : Type 0 where
  pub sound : IsSound entries top
  pub fine : AllFine entries (index_of entries top) layers
  pub same : top_copies cells t ≡ copies_of entries top layers

-- why the whole design is refused, and each part of it, before any copy is looked at
abbrev pub IsEarly : List Entry → List ℕ → List Layer → FlattenError → Type 0
IsEarly entries top layers e = IsRefused entries top layers e × ((frame : Rect) → IsRefusedOn entries top layers frame e)
