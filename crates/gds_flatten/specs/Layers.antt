-- What a library without the shapes of other layers draws.
use Rattle.std.specs.Prelude.{◌≡◌, ℕ, Bool, true, List, map}
use Rattle.fill_base.specs.declared.layer.Layer.{Layer}
use Rattle.gds_grammar.specs.Layers.{has_layer, kept_cell}
use Rattle.fill_base.specs.declared.rect.Rect.{Rect}
use Rattle.gds_cells.specs.declared.error.FlattenError.{FlattenError}
use Rattle.gds_cells.specs.Designs.{Entry, copies_of}
use Rattle.gds_flatten.specs.Flattening.{IsCountable, IsCountableOn, IsRefused, IsRefusedOn}

-- what is told of the second library is told of the first one: the same copies, and the same refusals
pub record TellsOf (cells others : List Entry) (top : List ℕ) (layers : List Layer) : Type 0 where
  pub copies : copies_of others top layers ≡ copies_of cells top layers
  pub countable : IsCountable others top layers → IsCountable cells top layers
  pub refused : (e : FlattenError) → IsRefused others top layers e → IsRefused cells top layers e

-- each of the layers is kept
abbrev pub AreKept : (Layer → Bool) → List Layer → Type 0
AreKept keep layers = (l : Layer) → has_layer layers l ≡ true → keep l ≡ true

-- Layers are flattened the same where the shapes of others were left out, whichever those are.
abbrev pub LayersSuffice : Type 0
LayersSuffice = (keep : Layer → Bool) (cells : List Entry) (top : List ℕ) (layers : List Layer) → AreKept keep layers
    → TellsOf cells (map (kept_cell keep) cells) top layers
    × TellsOf (map (kept_cell keep) cells) cells top layers

-- so too of what lies within a frame
pub record TellsOfWithin (cells others : List Entry) (top : List ℕ) (layers : List Layer) (frame : Rect) : Type 0 where
  pub copies : copies_of others top layers ≡ copies_of cells top layers
  pub countable : IsCountableOn others top layers frame → IsCountableOn cells top layers frame
  pub refused : (e : FlattenError) → IsRefusedOn others top layers frame e → IsRefusedOn cells top layers frame e

abbrev pub LayersSufficeWithin : Type 0
LayersSufficeWithin = (keep : Layer → Bool) (cells : List Entry) (top : List ℕ) (layers : List Layer) (frame : Rect) → AreKept keep layers
    → TellsOfWithin cells (map (kept_cell keep) cells) top layers frame
