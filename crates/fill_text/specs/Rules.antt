-- What a rule file says: the value of each key, or the first rule that it breaks.
use Rattle.std.specs.Prelude.{codes, true, false, unsigned_abs, ℕ, ℤ, pos, ◌+◌, ◌==◌, ◌&&◌, ◌||◌, not, ◌++◌, Bool, List, [], ◌∷◌, length, get_or, map, find, Option, Some, None, filter, option_map, option_and_then, unwrap_or, is_some, Result, bytes_eq, int_le, int_lt, nat_lt, nat_le, if◌then◌else◌}
use Rattle.std.specs.List.{list_all}
use Rattle.fill_area.specs.Grid.{Grid, all_coordinates, clipped_to}
use Rattle.fill_raster.specs.Lattice.{Lattice}
use Rattle.fill_base.specs.Sides.{Sides, sides}
use Rattle.fill_base.specs.declared.layer.Layer.{Layer}
use Rattle.fill_text.specs.RectTests.{is_rect}
use Rattle.fill_text.specs.Grids.{is_grid}
use Rattle.fill_text.specs.Keys.{all_number_keys, key_name, key_named, number_rule, required_keys}
use Rattle.fill_text.specs.Numbers.{layer_numbers_of, number_of}
use Rattle.fill_text.specs.Rasters.{has_few_places, keeps_pitch}
use Rattle.fill_text.specs.Refusals.{each_fault, fault_if, fault_unless, first_some, refused_or}
use Rattle.fill_text.specs.Rows.{rows_of}
use Rattle.fill_text.specs.declared.keys.AlsoKey.{AlsoKey}
use Rattle.fill_text.specs.declared.keys.AlsoKey.TheVariants as also
use Rattle.fill_text.specs.declared.keys.Key.{Key}
use Rattle.fill_text.specs.declared.keys.Key.TheVariants.{Number, Text, Optional, Also, Padding}
use Rattle.fill_text.specs.declared.keys.NumberKey.{NumberKey}
use Rattle.fill_text.specs.declared.keys.NumberKey.TheVariants as number
use Rattle.fill_text.specs.declared.keys.OptionalKey.{OptionalKey}
use Rattle.fill_text.specs.declared.keys.OptionalKey.TheVariants.{KeepLayer, KeepDatatype}
use Rattle.fill_text.specs.declared.keys.TextKey.{TextKey}
use Rattle.fill_text.specs.declared.keys.TextKey.TheVariants as text
use Rattle.fill_text.specs.declared.limits.Limits.{Limits}
use Rattle.fill_text.specs.declared.rule_error.RuleError.{RuleError}
use Rattle.fill_text.specs.declared.rule_error.RuleError.TheVariants.{BadRow, BadNumber, BadRule, BadRect, BadWindows, BadPitch, TooManyPlaces}

-- the value of each key
pub record Values : Type 0 where
  pub numbers : List ℤ
  pub top : List ℕ
  pub fill_lib : List ℕ
  pub fill_cell : List ℕ
  pub fill_top : List ℕ
  -- the layer and the data type of the keep-outs
  pub keep : Option (ℤ × ℤ)
  -- the further layers of the metal, the layers of fill that the design brings, and the further ones of the keep-outs, each list in
  -- the order of the file
  pub also_metal : List Layer
  pub also_fill : List Layer
  pub also_keep : List Layer
  -- what is out of the frame counts nothing
  pub ignores : Bool

abbrev pub number_in : List ℤ → NumberKey → ℤ
number_in numbers key = get_or numbers (number_rule key).index (pos 0)

abbrev pub value_of : Values → NumberKey → ℤ
value_of values key = number_in values.numbers key

-- the least and the greatest density of a window
abbrev pub limits_of : Values → Limits
limits_of values = record { least = value_of values number.Min; most = value_of values number.Max }

-- the layer of these two numbers
abbrev pub layer_of : ℤ → ℤ → Layer
layer_of layer data_type = record { layer = unsigned_abs layer; data_type = unsigned_abs data_type }

-- the checked layer
abbrev pub metal_layer : Values → Layer
metal_layer values = layer_of (value_of values number.Layer) (value_of values number.Datatype)

-- the layer of the keep-outs, if there are any
abbrev pub keep_layer : Values → Option Layer
keep_layer values = option_map (λ k. layer_of k.0 k.1) values.keep

-- the layers of the metal: the checked one, and then the others
abbrev pub metal_layers : Values → List Layer
metal_layers values = metal_layer values ∷ values.also_metal

-- the layers of the existing fill, which the design brings
abbrev pub existing_layers : Values → List Layer
existing_layers values = values.also_fill

abbrev pub behind : Option Layer → List Layer → List Layer
behind None more = more
behind (Some first) more = first ∷ more

-- the layers of the keep-outs: the first, if there are any, and then the others
abbrev pub keep_layers : Values → List Layer
keep_layers values = behind (keep_layer values) values.also_keep

-- the layer of the fill boxes
abbrev pub fill_layer : Values → Layer
fill_layer values = layer_of (value_of values number.FillLayer) (value_of values number.FillDatatype)

abbrev pub text_of : Values → TextKey → List ℕ
text_of values text.Top = values.top
text_of values text.FillLib = values.fill_lib
text_of values text.FillCell = values.fill_cell
text_of values text.FillTop = values.fill_top

abbrev pub frame_of : List ℤ → Sides
frame_of numbers = sides (number_in numbers number.FrameX1) (number_in numbers number.FrameY1) (number_in numbers number.FrameX2) (number_in numbers number.FrameY2)

-- the windows, each of which counts whole
abbrev pub whole_windows : List ℤ → Grid
whole_windows numbers = record {
  across = record { first = number_in numbers number.WinX; length = number_in numbers number.WinW; step = number_in numbers number.WinStepX; count = unsigned_abs (number_in numbers number.WinNx) };
  up = record { first = number_in numbers number.WinY; length = number_in numbers number.WinH; step = number_in numbers number.WinStepY; count = unsigned_abs (number_in numbers number.WinNy) };
  clip = all_coordinates;
}

abbrev pub windows_with : List ℤ → Bool → Grid
windows_with numbers ignores = if ignores then clipped_to (whole_windows numbers) (frame_of numbers) else whole_windows numbers

-- of each window what is in the frame counts, or all
abbrev pub windows_of : Values → Grid
windows_of values = windows_with values.numbers values.ignores

abbrev pub raster_of : List ℤ → Lattice
raster_of numbers = record {
  across = record {
    low = number_in numbers number.FrameX1;
    high = number_in numbers number.FrameX2;
    length = number_in numbers number.BoxW;
    step = number_in numbers number.StepX;
    origin = number_in numbers number.OriginX;
    band = unsigned_abs (number_in numbers number.TileNx);
  };
  up = record {
    low = number_in numbers number.FrameY1;
    high = number_in numbers number.FrameY2;
    length = number_in numbers number.BoxH;
    step = number_in numbers number.StepY;
    origin = number_in numbers number.OriginY;
    band = unsigned_abs (number_in numbers number.TileNy);
  };
}

-- the word that the records give a key: the second field of the first that begins with its name
abbrev pub word_for : Key → List (List (List ℕ)) → Option (List ℕ)
word_for key rows = option_map (λ fields. get_or fields 1 []) (find (λ fields. bytes_eq (get_or fields 0 []) (key_name key)) rows)

-- the layers of a key
abbrev pub layers_of : Values → AlsoKey → List Layer
layers_of values also.Metal = values.also_metal
layers_of values also.Fill = values.also_fill
layers_of values also.Keep = values.also_keep

-- the words that the records give a key: the second field of each that begins with its name
abbrev pub words_for : Key → List (List (List ℕ)) → List (List ℕ)
words_for key rows = map (λ fields. get_or fields 1 []) (filter (λ fields. bytes_eq (get_or fields 0 []) (key_name key)) rows)

-- a letter, a digit, `_`, `?` or `$`
abbrev pub is_name_byte : ℕ → Bool
is_name_byte c = (nat_le 48 c && nat_le c 57) || (nat_le 65 c && nat_le c 90) || (nat_le 97 c && nat_le c 122) || (c == 95) || (c == 63) || (c == 36)

-- the bytes are a name of the fill library: 1 to 32 of these
abbrev pub is_fill_name : List ℕ → Bool
is_fill_name word = nat_lt 0 (length word) && nat_le (length word) 32 && list_all is_name_byte word

-- the bytes may be the text's value; the top's name is any 1 to 1,024 bytes
abbrev pub is_text : TextKey → List ℕ → Bool
is_text text.Top word = nat_lt 0 (length word) && nat_le (length word) 1024
is_text text.FillLib word = is_fill_name word
is_text text.FillCell word = is_fill_name word
is_text text.FillTop word = is_fill_name word

abbrev pub is_in_range : NumberKey → ℤ → Bool
is_in_range key n = int_le (number_rule key).low n && int_le n (number_rule key).high

-- what is wrong with the number that a record writes, if it writes one
abbrev pub number_fault : ℕ → NumberKey → Option ℤ → Option RuleError
number_fault line key None = Some (BadNumber line)
number_fault line key (Some n) = fault_unless (is_in_range key n) (BadRule (Number key))

-- a layer or a data type
abbrev pub is_layer : ℤ → Bool
is_layer n = int_le (pos 0) n && int_le n (pos 65535)

-- both numbers of a pair are, if there is one
abbrev pub are_layers : Option (ℤ × ℤ) → Bool
are_layers None = true
are_layers (Some k) = is_layer k.0 && is_layer k.1

-- whether the word says that padding is ignored
abbrev pub padding_of : List ℕ → Option Bool
padding_of word = if bytes_eq word (codes "zero") then Some false else (if bytes_eq word (codes "ignore") then Some true else None)

abbrev pub optional_fault : ℕ → OptionalKey → Option ℤ → Option RuleError
optional_fault line key None = Some (BadNumber line)
optional_fault line key (Some n) = fault_unless (is_layer n) (BadRule (Optional key))

-- a layer and a data type
abbrev pub is_layer_pair : ℕ × ℕ → Bool
is_layer_pair p = nat_le p.0 65535 && nat_le p.1 65535

abbrev pub also_fault : ℕ → AlsoKey → Option (ℕ × ℕ) → Option RuleError
also_fault line key None = Some (BadNumber line)
also_fault line key (Some p) = fault_unless (is_layer_pair p) (BadRule (Also key))

-- what is wrong with a word as the value of a key
abbrev pub value_fault : ℕ → Key → List ℕ → Option RuleError
value_fault line (Number key) word = number_fault line key (number_of word)
value_fault line (Text key) word = fault_unless (is_text key word) (BadRule (Text key))
value_fault line (Optional key) word = optional_fault line key (number_of word)
value_fault line (Also key) word = also_fault line key (layer_numbers_of word)
value_fault line Padding word = fault_unless (is_some (padding_of word)) (BadRule Padding)

-- no record more may begin with the key's name: one does, or 63 do where it may stand several times
abbrev pub is_full : Key → List (List (List ℕ)) → Bool
is_full (Also key) rows = nat_le 63 (length (words_for (Also key) rows))
is_full key rows = is_some (word_for key rows)

-- what is wrong with a record of this key, if its name is that of one, and this word, behind the records before
abbrev pub keyed_fault : ℕ → List (List (List ℕ)) → Option Key → List ℕ → Option RuleError
keyed_fault line before None word = Some (BadRow line)
keyed_fault line before (Some key) word = if is_full key before then Some (BadRow line) else value_fault line key word

-- the first rule that a record breaks, behind the records before: it has two fields, its key is known, no record before has
-- that key, or at most 62 where it may stand several times, and its word is a value of the key
abbrev pub record_fault : List (List (List ℕ)) → List (List ℕ) → Option RuleError
record_fault before fields =
    let line = length before + 1 in
    if length fields == 2 then keyed_fault line before (key_named (get_or fields 0 [])) (get_or fields 1 []) else Some (BadRow line)

-- each key that a rule file has stands in a record
abbrev pub missing : List (List (List ℕ)) → Key → Option RuleError
missing rows key = fault_unless (is_some (word_for key rows)) (BadRule key)

-- the keep-outs' layer and data type stand both or neither, and both where a further layer of the keep-outs does
abbrev pub pair_faults : Bool → Bool → Bool → List (Option RuleError)
pair_faults layer datatype further =
    fault_unless (layer || not (datatype || further)) (BadRule (Optional KeepLayer)) ∷ fault_unless (datatype || not (layer || further)) (BadRule (Optional KeepDatatype)) ∷ []

abbrev pub keep_faults : List (List (List ℕ)) → List (Option RuleError)
keep_faults rows = pair_faults (is_some (word_for (Optional KeepLayer) rows)) (is_some (word_for (Optional KeepDatatype) rows)) (nat_lt 0 (length (words_for (Also also.Keep) rows)))

abbrev pub key_faults : List (List (List ℕ)) → List (Option RuleError)
key_faults rows = map (missing rows) required_keys ++ keep_faults rows

-- the number and the text that the records give
abbrev pub number_for : List (List (List ℕ)) → NumberKey → ℤ
number_for rows key = unwrap_or (option_and_then number_of (word_for (Number key) rows)) (pos 0)

abbrev pub text_for : List (List (List ℕ)) → TextKey → List ℕ
text_for rows key = unwrap_or (word_for (Text key) rows) []

abbrev pub optional_for : List (List (List ℕ)) → OptionalKey → Option ℤ
optional_for rows key = option_and_then number_of (word_for (Optional key) rows)

-- the layer that a word writes
abbrev pub layer_by : List ℕ → Layer
layer_by word = let p = unwrap_or (layer_numbers_of word) (0, 0) in record { layer = p.0; data_type = p.1 }

-- the layers that the records give a key
abbrev pub layers_for : List (List (List ℕ)) → AlsoKey → List Layer
layers_for rows key = map layer_by (words_for (Also key) rows)

abbrev pub pair : Option ℤ → Option ℤ → Option (ℤ × ℤ)
pair (Some a) (Some b) = Some (a, b)
pair (Some a) None = None
pair None b = None

abbrev pub values_for : List (List (List ℕ)) → Values
values_for rows = record {
  numbers = map (number_for rows) all_number_keys;
  top = text_for rows text.Top;
  fill_lib = text_for rows text.FillLib;
  fill_cell = text_for rows text.FillCell;
  fill_top = text_for rows text.FillTop;
  keep = pair (optional_for rows KeepLayer) (optional_for rows KeepDatatype);
  also_metal = layers_for rows also.Metal;
  also_fill = layers_for rows also.Fill;
  also_keep = layers_for rows also.Keep;
  ignores = unwrap_or (option_and_then padding_of (word_for Padding rows)) false;
}

-- what is asked of the values together
abbrev pub joint_faults : Values → List (Option RuleError)
joint_faults values =
    fault_if (int_lt (value_of values number.Max) (value_of values number.Min)) (BadRule (Number number.Max))
    ∷ fault_if (bytes_eq values.fill_top values.fill_cell) (BadRule (Text text.FillTop))
    ∷ fault_unless (is_rect (frame_of values.numbers)) BadRect
    ∷ fault_unless (is_grid (whole_windows values.numbers)) BadWindows
    ∷ fault_unless (keeps_pitch (raster_of values.numbers) (value_of values number.FillSpacing)) BadPitch
    ∷ fault_unless (has_few_places (raster_of values.numbers)) TooManyPlaces
    ∷ []

-- every fault of the records and of the keys, in the order in which it is refused: of each record, of each key in table order
abbrev pub entry_faults : List (List (List ℕ)) → List (Option RuleError)
entry_faults rows = each_fault record_fault [] rows ++ key_faults rows

-- every fault of a rule file: those, and behind them those of the values together
abbrev pub rule_faults : List (List (List ℕ)) → List (Option RuleError)
rule_faults rows = entry_faults rows ++ joint_faults (values_for rows)

-- the values that a rule file gives, or its first fault
unfoldable pub rules_of : List ℕ → Result Values RuleError
rules_of file = let rows = rows_of file in refused_or (first_some (rule_faults rows)) (values_for rows)
