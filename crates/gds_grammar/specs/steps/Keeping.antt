-- Which shapes a reader keeps, and how it goes on past those that it leaves out.
use Rattle.std.specs.Prelude.{◌≡◌, ℕ, Bool, true, List, [], ◌++◌, map}
use Rattle.fill_base.specs.declared.layer.Layer.{Layer}
use Rattle.gds_grammar.specs.declared.element.Element.{Element}
use Rattle.gds_grammar.specs.declared.wanted.Wanted.{Wanted}
use Rattle.gds_grammar.specs.declared.wanted.Wanted.TheVariants.{Every, These}
use Rattle.gds_grammar.specs.Values.{Shape, Contents, shape_of}
use Rattle.gds_grammar.specs.Layers.{has_layer, kept_shapes, kept}
use Rattle.gds_grammar.specs.Machine.{State, Named}
use Rattle.gds_grammar.specs.steps.Reading.{Reaches, cell_state}

abbrev pub keeps : Wanted → Layer → Bool
keeps Every = λ layer. true
keeps (These layers) = has_layer layers.now

-- within a cell: these shapes were read, and those that are kept are the elements
pub record IsWithin (keep : Layer → Bool) (fresh : Bool) (bytes rest : List ℕ) (elements : List Element) : Type 0 where
  pub shapes : List Shape
  pub kept_are : map shape_of elements ≡ kept_shapes keep shapes
  pub none : fresh ≡ true → shapes ≡ []
  pub reached : (l : Contents) (n : List ℕ) → Reaches bytes (Named l n) rest (cell_state fresh l n shapes)

-- the bytes lead from one state to that of contents of which these are kept
pub record Leads (keep : Layer → Bool) (bytes : List ℕ) (s : State) (rest : List ℕ) (t : Contents → State) (new : Contents) : Type 0 where
  pub contents : Contents
  pub kept_are : kept keep contents ≡ new
  pub reached : Reaches bytes s rest (t contents)
