-- Each number's key stands at its index in the table, and the name of each key names that key.
use Rattle.std.proofs.Common.{◌≡◌, ◌∙◌, ◌<◌, Some, get_or, ap, lit<, refl, sym}
use Rattle.fill_text.specs.Keys.{all_number_keys, key_named, number_rule}
use Rattle.fill_text.specs.Laws.{EachNameIsOfOneKey}
use Rattle.fill_text.specs.declared.keys.AlsoKey.TheVariants as also
use Rattle.fill_text.specs.declared.keys.Key.TheVariants.{Number, Text, Optional, Also, Padding}
use Rattle.fill_text.specs.declared.keys.NumberKey.{NumberKey}
use Rattle.fill_text.specs.declared.keys.NumberKey.TheVariants.{FrameX1, FrameY1, FrameX2, FrameY2, BoxW, BoxH, StepX, StepY, OriginX, OriginY, Spacing, FillSpacing, WinW, WinH, WinStepX, WinStepY, WinX, WinY, WinNx, WinNy, Min, Max, TileNx, TileNy, Layer, Datatype, FillLayer, FillDatatype}
use Rattle.fill_text.specs.declared.keys.OptionalKey.TheVariants.{KeepLayer, KeepDatatype}
use Rattle.fill_text.specs.declared.keys.TextKey.TheVariants as text

abbrev IsRow : NumberKey → Type 0
IsRow key = (get_or all_number_keys (number_rule key).index FrameX1 ≡ key) × ((number_rule key).index < 28) × (key_named (number_rule key).name ≡ Some (Number key))

is_row : (key : NumberKey) → IsRow key
is_row FrameX1 = (refl, lit< tt, refl)
is_row FrameY1 = (refl, lit< tt, refl)
is_row FrameX2 = (refl, lit< tt, refl)
is_row FrameY2 = (refl, lit< tt, refl)
is_row BoxW = (refl, lit< tt, refl)
is_row BoxH = (refl, lit< tt, refl)
is_row StepX = (refl, lit< tt, refl)
is_row StepY = (refl, lit< tt, refl)
is_row OriginX = (refl, lit< tt, refl)
is_row OriginY = (refl, lit< tt, refl)
is_row Spacing = (refl, lit< tt, refl)
is_row FillSpacing = (refl, lit< tt, refl)
is_row WinW = (refl, lit< tt, refl)
is_row WinH = (refl, lit< tt, refl)
is_row WinStepX = (refl, lit< tt, refl)
is_row WinStepY = (refl, lit< tt, refl)
is_row WinX = (refl, lit< tt, refl)
is_row WinY = (refl, lit< tt, refl)
is_row WinNx = (refl, lit< tt, refl)
is_row WinNy = (refl, lit< tt, refl)
is_row Min = (refl, lit< tt, refl)
is_row Max = (refl, lit< tt, refl)
is_row TileNx = (refl, lit< tt, refl)
is_row TileNy = (refl, lit< tt, refl)
is_row Layer = (refl, lit< tt, refl)
is_row Datatype = (refl, lit< tt, refl)
is_row FillLayer = (refl, lit< tt, refl)
is_row FillDatatype = (refl, lit< tt, refl)

pub key_at : (key : NumberKey) → get_or all_number_keys (number_rule key).index FrameX1 ≡ key
key_at key = (is_row key).0

pub index_below : (key : NumberKey) → (number_rule key).index < 28
index_below key = (is_row key).1

pub same_index : (a b : NumberKey) → (number_rule a).index ≡ (number_rule b).index → a ≡ b
same_index a b e = sym (key_at a) ∙ ap (λ i. get_or all_number_keys i FrameX1) e ∙ key_at b

pub each_named : EachNameIsOfOneKey
each_named (Number key) = (is_row key).2
each_named (Text text.Top) = refl
each_named (Text text.FillLib) = refl
each_named (Text text.FillCell) = refl
each_named (Text text.FillTop) = refl
each_named (Optional KeepLayer) = refl
each_named (Optional KeepDatatype) = refl
each_named (Also also.Metal) = refl
each_named (Also also.Fill) = refl
each_named (Also also.Keep) = refl
each_named Padding = refl
