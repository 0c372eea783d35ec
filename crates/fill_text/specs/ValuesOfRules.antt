-- What the values of the rules show.
use Rattle.std.specs.Prelude.{◌≡◌, Bool, ℤ, List, [], ◌∷◌, get_or, Option}
use Rattle.fill_base.specs.declared.layer.Layer.{Layer}
use Rattle.fill_text.specs.Keys.{also_index}
use Rattle.fill_text.specs.Rules.{Values}
use Rattle.fill_text.specs.declared.keys.AlsoKey.{AlsoKey}
use Rattle.fill_text.specs.declared.rules.AlsoLayers.{AlsoLayers}
use Rattle.fill_text.specs.declared.rules.KeyValues.{KeyValues}
use Rattle.fill_text.specs.declared.rules.Numbers.{Numbers}
use Rattle.fill_text.specs.declared.rules.Rules.{Rules}
use Rattle.fill_text.specs.declared.rules.Texts.{Texts}

-- the layers at the index of a key
abbrev pub also_found : List (List Layer) → AlsoKey → List Layer
also_found lists key = get_or lists (also_index key) []

-- the layers of each key
abbrev pub also_of : AlsoLayers → AlsoKey → List Layer
also_of a = also_found (a.metal.items ∷ a.fill.items ∷ a.keep.items ∷ [])

abbrev pub values_from : Numbers → Texts → AlsoLayers → Option (ℤ × ℤ) → Bool → Values
values_from n t a k i = record { numbers = n.values; top = t.top.items; fill_lib = t.fill_lib.items; fill_cell = t.fill_cell.items; fill_top = t.fill_top.items; keep = k; also_metal = a.metal.items; also_fill = a.fill.items; also_keep = a.keep.items; ignores = i }

abbrev pub key_values : KeyValues → Values
key_values v = values_from v.numbers v.texts v.also v.keep v.ignores

-- the value of each key
abbrev pub values_of : Rules → Values
values_of r = values_from r.numbers r.texts r.also r.keep r.ignores

-- each text has the same bytes
pub record SameTexts (a b : Texts) : Type 0 where
  pub top : a.top.items ≡ b.top.items
  pub fill_lib : a.fill_lib.items ≡ b.fill_lib.items
  pub fill_cell : a.fill_cell.items ≡ b.fill_cell.items
  pub fill_top : a.fill_top.items ≡ b.fill_top.items

-- each list has the same layers
pub record SameLayers (a b : AlsoLayers) : Type 0 where
  pub metal : a.metal.items ≡ b.metal.items
  pub fill : a.fill.items ≡ b.fill.items
  pub keep : a.keep.items ≡ b.keep.items
