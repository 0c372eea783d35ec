-- Cells as they are built from their elements.
use Rattle.std.specs.Prelude.{◌≡◌, ◌⊎◌, ℕ, ◌*◌, ◌<◌, ◌≤◌, List, [], ◌∷◌, ◌++◌, map, length, take, drop, filter, get_or, slice_get, Option, Some, None, Result, IfOk, IfErr}
use Rattle.std.specs.List.{flat_map}
use Rattle.fill_base.specs.declared.layer.Layer.{Layer}
use Rattle.gds_grammar.specs.Values.{cell_of, shape_of, Shape as Element}
use Rattle.gds_cells.specs.declared.cell.Cell.{Cell}
use Rattle.gds_cells.specs.declared.cell.Chunk.{Chunk}
use Rattle.gds_cells.specs.declared.link.Link.{Link}
use Rattle.gds_cells.specs.declared.shape.Shape.{Shape}
use Rattle.gds_cells.specs.declared.chunks.Targets.{Targets}
use Rattle.gds_cells.specs.declared.chunks.Targets.TheVariants.{Row, Names}
use Rattle.gds_cells.specs.declared.error.FlattenError.{FlattenError}
use Rattle.gds_cells.specs.declared.error.FlattenError.TheVariants.{Memory}
use Rattle.gds_cells.specs.declared.placement.Placement.{Placement}
use Rattle.gds_cells.specs.Graphs.{item}
use Rattle.gds_cells.specs.References.{placements_of, name_of}
use Rattle.gds_cells.specs.Shapes.{is_shape}
use Rattle.gds_cells.specs.Designs.{Entry, elements_at, targets, singles_among, element_fault, AreFine}
use Rattle.gds_cells.specs.steps.Walks.{singles_of, shapes_in, own_in, singles_in}

-- the elements of shapes, the single references and the referenced cells of links
abbrev pub own_of : List Shape → List Element
own_of shapes = map (λ s. shape_of s.element.now) shapes

abbrev pub singles_from : List Link → List (ℕ × Placement)
singles_from links = flat_map singles_of links

abbrev pub links_from : List Link → List ℕ
links_from links = map (λ l. l.cell) links

-- the index of a referenced cell, where there is one
abbrev pub index_if : ℕ → Option (List ℕ) → List ℕ
index_if index (Some name) = index ∷ []
index_if index None = []

-- what tells the cells that elements refer to: these cells in turn, or the names of all cells
abbrev pub Leads : Targets → List Entry → List Element → Type 0
Leads (Row row) cells elements = row.now ≡ targets cells elements
Leads (Names names) cells elements = map cell_of names.now.entries ≡ cells

-- one more element, which refers to the cell at the index if it refers to any
pub record IsAdded (e : Element) (layers : List Layer) (index : ℕ) (old new : Chunk) : Type 0 where
  pub fine : element_fault layers e ≡ None
  pub own : own_of new.shapes.items ≡ own_of old.shapes.items ++ filter (is_shape layers) (e ∷ [])
  pub links : links_from new.links.items ≡ links_from old.links.items ++ index_if index (name_of e)
  pub singles : singles_from new.links.items ≡ singles_from old.links.items ++ map (λ p. (index, p)) (placements_of e)

-- shapes and references are those that the elements say
pub record AreOf (cells : List Entry) (layers : List Layer) (elements : List Element) (shapes : List Shape) (references : List Link) : Type 0 where
  pub own : own_of shapes ≡ filter (is_shape layers) elements
  pub links : links_from references ≡ targets cells elements
  pub singles : singles_from references ≡ singles_among cells elements

-- a chunk, a cell has what its elements say
abbrev pub IsChunk : List Entry → List Layer → List Element → Chunk → Type 0
IsChunk cells layers elements chunk = AreOf cells layers elements chunk.shapes.items chunk.links.items

abbrev pub IsCell : List Entry → List Layer → List Element → Cell → Type 0
IsCell cells layers elements cell = AreOf cells layers elements (shapes_in cell) cell.links.items

-- those of `size` elements at index `k`, or all that are left
abbrev pub chunk_at : {X : Type 0} → ℕ → ℕ → List X → List X
chunk_at size k elements = take size (drop (k * size) elements)

-- the first fault of a cell
pub record IsFaulty (layers : List Layer) (elements : List Element) (e : FlattenError) : Type 0 where
  pub index : ℕ
  pub element : Element
  pub stands : slice_get elements index ≡ Some element
  pub faulty : element_fault layers element ≡ Some e
  pub before : AreFine layers (take index elements)

-- what the chunks of `size` elements came to
pub record AreChunks (cells : List Entry) (layers : List Layer) (size : ℕ) (elements : List Element) (chunks : List (Result Chunk FlattenError)) : Type 0 where
  pub all : length elements ≤ length chunks * size
  pub built : (k : ℕ) (d : Result Chunk FlattenError) → k < length chunks → IfOk (get_or chunks k d) (λ chunk. IsChunk cells layers (chunk_at size k elements) chunk)
  pub fine : (k : ℕ) (d : Result Chunk FlattenError) → k < length chunks → IfOk (get_or chunks k d) (λ chunk. AreFine layers (chunk_at size k elements))
  pub refused : (k : ℕ) (d : Result Chunk FlattenError) → k < length chunks → IfErr (get_or chunks k d) (λ e. (e ≡ Memory) ⊎ IsFaulty layers (chunk_at size k elements) e)

-- the cell at the index is the one that its elements say
pub record IsCellAt (entries : List Entry) (layers : List Layer) (cells : List Cell) (c : ℕ) : Type 0 where
  pub cell : Cell
  pub stands : slice_get cells c ≡ Some cell
  pub is : IsCell entries layers (elements_at entries c) cell
  pub fine : AreFine layers (elements_at entries c)

-- the first cells are built, those without a step as empty ones
pub record AreBuilt (entries : List Entry) (layers : List Layer) (steps : List ℕ) (n : ℕ) (cells : List Cell) : Type 0 where
  pub long : length cells ≡ n
  pub built : (c : ℕ) → c < n → 0 < item steps c → IsCellAt entries layers cells c
  pub nothing_own : (c : ℕ) → item steps c ≡ 0 → own_in (slice_get cells c) ≡ []
  pub nothing_below : (c : ℕ) → item steps c ≡ 0 → singles_in (slice_get cells c) ≡ []

-- the first fault of the cells that have a step
pub record IsFaultAmong (entries : List Entry) (layers : List Layer) (steps : List ℕ) (e : FlattenError) : Type 0 where
  pub cell : ℕ
  pub marked : 0 < item steps cell
  pub fault : IsFaulty layers (elements_at entries cell) e
  pub earlier : (c : ℕ) → c < cell → 0 < item steps c → AreFine layers (elements_at entries c)
