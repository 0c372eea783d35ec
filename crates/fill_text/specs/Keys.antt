-- The table of rules: for each key its index, its name and what its value may be. The numbers stand before the texts, and the
-- keys that may be left out behind them, last those that may stand several times.
use Rattle.std.specs.Prelude.{Bool, true, false, ℕ, ℤ, pos, ◌≤ℤ◌, List, [], ◌∷◌, ◌++◌, map, Option, Some, None, find, bytes_eq, codes}
use Rattle.fill_base.specs.Coordinates.{lowest, highest}
use Rattle.fill_text.specs.declared.keys.AlsoKey.{AlsoKey}
use Rattle.fill_text.specs.declared.keys.AlsoKey.TheVariants as also
use Rattle.fill_text.specs.declared.keys.Key.{Key}
use Rattle.fill_text.specs.declared.keys.Key.TheVariants.{Number, Text, Optional, Also, Padding}
use Rattle.fill_text.specs.declared.keys.NumberKey.{NumberKey}
use Rattle.fill_text.specs.declared.keys.NumberKey.TheVariants.{FrameX1, FrameY1, FrameX2, FrameY2, BoxW, BoxH, StepX, StepY, OriginX, OriginY, Spacing, FillSpacing, WinW, WinH, WinStepX, WinStepY, WinX, WinY, WinNx, WinNy, Min, Max, TileNx, TileNy, Layer, Datatype, FillLayer, FillDatatype}
use Rattle.fill_text.specs.declared.keys.OptionalKey.{OptionalKey}
use Rattle.fill_text.specs.declared.keys.OptionalKey.TheVariants.{KeepLayer, KeepDatatype}
use Rattle.fill_text.specs.declared.keys.TextKey.{TextKey}
use Rattle.fill_text.specs.declared.keys.TextKey.TheVariants.{Top, FillLib, FillCell, FillTop}

-- a row of the table for a number: the index from 0, the name, the least and the greatest value
pub record NumberRule : Type 0 where
  pub index : ℕ
  pub name : List ℕ
  pub low : ℤ
  pub high : ℤ

abbrev pub from_to : ℤ → ℤ → ℕ → List ℕ → NumberRule
from_to low high index name = record { index = index; name = name; low = low; high = high }

-- a coordinate
abbrev pub coordinate : ℕ → List ℕ → NumberRule
coordinate = from_to lowest highest

-- a side, a step or a count
abbrev pub size : ℕ → List ℕ → NumberRule
size = from_to (pos 1) (pos 1048576)

abbrev pub gap : ℕ → List ℕ → NumberRule
gap = from_to (pos 0) (pos 1048576)

-- a density in millionths
abbrev pub millionths : ℕ → List ℕ → NumberRule
millionths = from_to (pos 0) (pos 1000000)

-- places of a tile
abbrev pub tile_side : ℕ → List ℕ → NumberRule
tile_side = from_to (pos 1) (pos 4096)

-- a layer or a data type
abbrev pub layer_number : ℕ → List ℕ → NumberRule
layer_number = from_to (pos 0) (pos 65535)

abbrev pub number_rule : NumberKey → NumberRule
number_rule FrameX1 = coordinate 0 (codes "frame_x1")
number_rule FrameY1 = coordinate 1 (codes "frame_y1")
number_rule FrameX2 = coordinate 2 (codes "frame_x2")
number_rule FrameY2 = coordinate 3 (codes "frame_y2")
number_rule BoxW = size 4 (codes "box_w")
number_rule BoxH = size 5 (codes "box_h")
number_rule StepX = size 6 (codes "step_x")
number_rule StepY = size 7 (codes "step_y")
number_rule OriginX = coordinate 8 (codes "origin_x")
number_rule OriginY = coordinate 9 (codes "origin_y")
number_rule Spacing = gap 10 (codes "spacing")
number_rule FillSpacing = gap 11 (codes "fill_spacing")
number_rule WinW = size 12 (codes "win_w")
number_rule WinH = size 13 (codes "win_h")
number_rule WinStepX = size 14 (codes "win_step_x")
number_rule WinStepY = size 15 (codes "win_step_y")
number_rule WinX = coordinate 16 (codes "win_x")
number_rule WinY = coordinate 17 (codes "win_y")
number_rule WinNx = size 18 (codes "win_nx")
number_rule WinNy = size 19 (codes "win_ny")
number_rule Min = millionths 20 (codes "min")
number_rule Max = millionths 21 (codes "max")
number_rule TileNx = tile_side 22 (codes "tile_nx")
number_rule TileNy = tile_side 23 (codes "tile_ny")
number_rule Layer = layer_number 24 (codes "layer")
number_rule Datatype = layer_number 25 (codes "datatype")
number_rule FillLayer = layer_number 26 (codes "fill_layer")
number_rule FillDatatype = layer_number 27 (codes "fill_datatype")

-- within the range of the key
abbrev pub IsWithin : NumberKey → ℤ → Type 0
IsWithin key n = ((number_rule key).low ≤ℤ n) × (n ≤ℤ (number_rule key).high)

-- the keys of the numbers in table order
abbrev pub all_number_keys : List NumberKey
all_number_keys = FrameX1 ∷ FrameY1 ∷ FrameX2 ∷ FrameY2 ∷ BoxW ∷ BoxH ∷ StepX ∷ StepY ∷ OriginX ∷ OriginY ∷ Spacing ∷ FillSpacing ∷ WinW ∷ WinH ∷ WinStepX ∷ WinStepY ∷ WinX ∷ WinY ∷ WinNx ∷ WinNy ∷ Min ∷ Max ∷ TileNx ∷ TileNy ∷ Layer ∷ Datatype ∷ FillLayer ∷ FillDatatype ∷ []

abbrev pub text_name : TextKey → List ℕ
text_name Top = codes "top"
text_name FillLib = codes "fill_lib"
text_name FillCell = codes "fill_cell"
text_name FillTop = codes "fill_top"

-- the keys of the texts in table order
abbrev pub all_text_keys : List TextKey
all_text_keys = Top ∷ FillLib ∷ FillCell ∷ FillTop ∷ []

abbrev pub optional_name : OptionalKey → List ℕ
optional_name KeepLayer = codes "keep_layer"
optional_name KeepDatatype = codes "keep_datatype"

abbrev pub optional_index : OptionalKey → ℕ
optional_index KeepLayer = 0
optional_index KeepDatatype = 1

-- those whose values are numbers
abbrev pub all_optional_keys : List OptionalKey
all_optional_keys = KeepLayer ∷ KeepDatatype ∷ []

abbrev pub also_name : AlsoKey → List ℕ
also_name also.Metal = codes "also_metal"
also_name also.Fill = codes "also_fill"
also_name also.Keep = codes "also_keep"

abbrev pub also_index : AlsoKey → ℕ
also_index also.Metal = 0
also_index also.Fill = 1
also_index also.Keep = 2

-- those that may stand several times, with a layer in each record
abbrev pub all_also_keys : List AlsoKey
all_also_keys = also.Metal ∷ also.Fill ∷ also.Keep ∷ []

-- the keys that each rule file has, in table order
abbrev pub required_keys : List Key
required_keys = map Number all_number_keys ++ map Text all_text_keys

-- the keys that a rule file may leave out, but has in no second record, in table order
abbrev pub optional_keys : List Key
optional_keys = map Optional all_optional_keys ++ Padding ∷ []

-- the keys that stand in no second record, in table order
abbrev pub single_keys : List Key
single_keys = required_keys ++ optional_keys

abbrev pub key_name : Key → List ℕ
key_name (Number key) = (number_rule key).name
key_name (Text key) = text_name key
key_name (Optional key) = optional_name key
key_name (Also key) = also_name key
key_name Padding = codes "padding"

-- a number's key, or else a text's, or else an optional one
abbrev pub either_key : Option NumberKey → Option TextKey → Option OptionalKey → Option AlsoKey → Bool → Option Key
either_key (Some key) text optional also padding = Some (Number key)
either_key None (Some key) optional also padding = Some (Text key)
either_key None None (Some key) also padding = Some (Optional key)
either_key None None None (Some key) padding = Some (Also key)
either_key None None None None true = Some Padding
either_key None None None None false = None

-- the key of a name
abbrev pub key_named : List ℕ → Option Key
key_named word = either_key (find (λ k. bytes_eq word (number_rule k).name) all_number_keys) (find (λ k. bytes_eq word (text_name k)) all_text_keys)
    (find (λ k. bytes_eq word (optional_name k)) all_optional_keys) (find (λ k. bytes_eq word (also_name k)) all_also_keys) (bytes_eq word (codes "padding"))
