-- How a rule file is read: what each record adds to the entries, and what the entries then give. This serves the private
-- functions; what a rule file says is `rules_of`.
use Rattle.std.specs.Prelude.{⊤, ◌&&◌, ◌≡◌, unwrap_or, false, true, nat_le, nat_lt, ◌≤ℤ◌, IfSome, ℕ, ℤ, ◌==◌, Bool, List, [], ◌∷◌, ◌++◌, length, get_or, map, replicate, slice_set, Option, Some, None, option_map, ok_or, is_some, Result, Ok, Err, bytes_eq, int_lt, if◌then◌else◌}
use Rattle.fill_base.specs.Sequence.{◌>>=◌}
use Rattle.fill_base.specs.declared.layer.Layer.{Layer}
use Rattle.fill_text.specs.RectTests.{rect_with}
use Rattle.fill_text.specs.Grids.{grid_with, is_axis}
use Rattle.fill_text.specs.Rasters.{keeps_pitch, raster_with}
use Rattle.fill_text.specs.Keys.{all_number_keys, also_index, key_named, number_rule, optional_index}
use Rattle.fill_text.specs.Numbers.{layer_numbers_of, number_of}
use Rattle.fill_text.specs.Refusals.{first_some, refused_or}
use Rattle.fill_text.specs.Rows.{rows_of}
use Rattle.fill_text.specs.Rules.{Values, entry_faults, frame_of, is_in_range, is_layer, is_layer_pair, is_text, padding_of, value_of, values_for, raster_of, whole_windows}
use Rattle.fill_text.specs.ValuesOfRules.{also_found}
use Rattle.fill_text.specs.declared.keys.AlsoKey.{AlsoKey}
use Rattle.fill_text.specs.declared.keys.AlsoKey.TheVariants as also
use Rattle.fill_text.specs.declared.keys.Key.{Key}
use Rattle.fill_text.specs.declared.keys.Key.TheVariants.{Number, Text, Optional, Also, Padding}
use Rattle.fill_text.specs.declared.keys.NumberKey.{NumberKey}
use Rattle.fill_text.specs.declared.keys.NumberKey.TheVariants as number
use Rattle.fill_text.specs.declared.keys.OptionalKey.{OptionalKey}
use Rattle.fill_text.specs.declared.keys.OptionalKey.TheVariants.{KeepLayer, KeepDatatype}
use Rattle.fill_text.specs.declared.keys.TextKey.{TextKey}
use Rattle.fill_text.specs.declared.keys.TextKey.TheVariants as text
use Rattle.fill_text.specs.declared.rule_error.RuleError.{RuleError}
use Rattle.fill_text.specs.declared.rule_error.RuleError.TheVariants.{BadRow, BadNumber, BadRule, BadRect, BadWindows, BadPitch}
use Rattle.fill_text.specs.declared.entries.Entries.{Entries}

-- an answer that begins with this list
abbrev pub with_front : {A E : Type 0} → List A → Result (List A) E → Result (List A) E
with_front front rest = rest >>= λ more. Ok (front ++ more)

-- a number or a text for each key that has stood in a record, in table order, and the layers that the records give the others
pub record Found : Type 0 where
  pub numbers : List (Option ℤ)
  pub texts : List (Option (List ℕ))
  pub optionals : List (Option ℤ)
  pub also : List (List Layer)
  pub padding : Option Bool

abbrev pub nothing_found : Found
nothing_found = record { numbers = replicate 28 None; texts = replicate 4 None; optionals = replicate 2 None; also = [] ∷ [] ∷ [] ∷ []; padding = None }

abbrev pub text_index : TextKey → ℕ
text_index text.Top = 0
text_index text.FillLib = 1
text_index text.FillCell = 2
text_index text.FillTop = 3

abbrev pub text_found : List (Option (List ℕ)) → TextKey → Option (List ℕ)
text_found texts key = get_or texts (text_index key) None

abbrev pub number_found : List (Option ℤ) → NumberKey → Option ℤ
number_found numbers key = get_or numbers (number_rule key).index None

abbrev pub optional_found : List (Option ℤ) → OptionalKey → Option ℤ
optional_found optionals key = get_or optionals (optional_index key) None

-- each number that was found is in its key's range
abbrev pub AreRanged : List (Option ℤ) → Type 0
AreRanged numbers = (key : NumberKey) → IfSome (number_found numbers key) (λ n. ((number_rule key).low ≤ℤ n) × (n ≤ℤ (number_rule key).high))

-- each text that was found is one that its key allows
abbrev pub AreAllowed : List (Option (List ℕ)) → Type 0
AreAllowed texts = (key : TextKey) → IfSome (text_found texts key) (λ word. is_text key word ≡ true)

-- each number that was found for the keep-outs is a layer or a data type
abbrev pub AreOptional : List (Option ℤ) → Type 0
AreOptional optionals = (key : OptionalKey) → IfSome (optional_found optionals key) (λ n. is_layer n ≡ true)

-- the key has stood in a record, or in 63 where it may stand several times
abbrev pub is_found : Found → Key → Bool
is_found found (Number key) = is_some (number_found found.numbers key)
is_found found (Text key) = is_some (text_found found.texts key)
is_found found (Optional key) = is_some (optional_found found.optionals key)
is_found found (Also key) = nat_le 63 (length (also_found found.also key))
is_found found Padding = is_some found.padding

-- the number that a word gives a key
unfoldable pub ranged_number : ℕ → NumberKey → List ℕ → Result ℤ RuleError
ranged_number line key word = do
  n ← ok_or (number_of word) (BadNumber line)
  if is_in_range key n then Ok n else Err (BadRule (Number key))

unfoldable pub take_number : ℕ → NumberKey → List ℕ → Found → Result Found RuleError
take_number line key word found = do
  n ← ranged_number line key word
  Ok (record found { numbers = slice_set found.numbers (number_rule key).index (Some n) })

unfoldable pub take_text : TextKey → List ℕ → Found → Result Found RuleError
take_text key word found = if is_text key word then Ok (record found { texts = slice_set found.texts (text_index key) (Some word) }) else Err (BadRule (Text key))

unfoldable pub layer_number : ℕ → OptionalKey → List ℕ → Result ℤ RuleError
layer_number line key word = do
  n ← ok_or (number_of word) (BadNumber line)
  if is_layer n then Ok n else Err (BadRule (Optional key))

unfoldable pub take_optional : ℕ → OptionalKey → List ℕ → Found → Result Found RuleError
take_optional line key word found = do
  n ← layer_number line key word
  Ok (record found { optionals = slice_set found.optionals (optional_index key) (Some n) })

-- the layer that a word gives a key
unfoldable pub ranged_layer : ℕ → AlsoKey → List ℕ → Result Layer RuleError
ranged_layer line key word = do
  p ← ok_or (layer_numbers_of word) (BadNumber line)
  if is_layer_pair p then Ok (record { layer = p.0; data_type = p.1 }) else Err (BadRule (Also key))

unfoldable pub take_also : ℕ → AlsoKey → List ℕ → Found → Result Found RuleError
take_also line key word found = do
  layer ← ranged_layer line key word
  Ok (record found { also = slice_set found.also (also_index key) (also_found found.also key ++ layer ∷ []) })

unfoldable pub take_padding : List ℕ → Found → Result Found RuleError
take_padding word found = do
  ignores ← ok_or (padding_of word) (BadRule Padding)
  Ok (record found { padding = Some ignores })

abbrev pub take_value : ℕ → Key → List ℕ → Found → Result Found RuleError
take_value line (Number key) word found = take_number line key word found
take_value line (Text key) word found = take_text key word found
take_value line (Optional key) word found = take_optional line key word found
take_value line (Also key) word found = take_also line key word found
take_value line Padding word found = take_padding word found

-- the key that a record names, which may stand once more
unfoldable pub new_key : ℕ → List ℕ → Found → Result Key RuleError
new_key line word found = do
  key ← ok_or (key_named word) (BadRow line)
  if is_found found key then Err (BadRow line) else Ok key

-- what a record adds: two fields, a key and its value
unfoldable pub take_row : ℕ → List (List ℕ) → Found → Result Found RuleError
take_row line fields found = if length fields == 2 then (do
  key ← new_key line (get_or fields 0 []) found
  take_value line key (get_or fields 1 []) found) else Err (BadRow line)

-- the numbers of these keys, which none may miss
unfoldable pub all_numbers : List NumberKey → List (Option ℤ) → Result (List ℤ) RuleError
all_numbers [] numbers = Ok []
all_numbers (key ∷ keys) [] = Err (BadRule (Number key))
all_numbers (key ∷ keys) (n ∷ numbers) = ok_or n (BadRule (Number key)) >>= λ v. with_front (v ∷ []) (all_numbers keys numbers)

-- both or neither, and both where further layers were found
abbrev pub pair_found : Option ℤ → Option ℤ → Bool → Result (Option (ℤ × ℤ)) RuleError
pair_found (Some a) (Some b) further = Ok (Some (a, b))
pair_found (Some a) None further = Err (BadRule (Optional KeepDatatype))
pair_found None (Some b) further = Err (BadRule (Optional KeepLayer))
pair_found None None true = Err (BadRule (Optional KeepLayer))
pair_found None None false = Ok None

-- the values, none of which may miss: the first missing key in table order is refused
unfoldable pub all_values : Found → Result Values RuleError
all_values found = do
  numbers ← all_numbers all_number_keys found.numbers
  top ← ok_or (text_found found.texts text.Top) (BadRule (Text text.Top))
  fill_lib ← ok_or (text_found found.texts text.FillLib) (BadRule (Text text.FillLib))
  fill_cell ← ok_or (text_found found.texts text.FillCell) (BadRule (Text text.FillCell))
  fill_top ← ok_or (text_found found.texts text.FillTop) (BadRule (Text text.FillTop))
  keep ← pair_found (optional_found found.optionals KeepLayer) (optional_found found.optionals KeepDatatype) (nat_lt 0 (length (also_found found.also also.Keep)))
  Ok (record { numbers = numbers; top = top; fill_lib = fill_lib; fill_cell = fill_cell; fill_top = fill_top; keep = keep; also_metal = also_found found.also also.Metal; also_fill = also_found found.also also.Fill; also_keep = also_found found.also also.Keep; ignores = unwrap_or found.padding false })

-- the values that a rule file gives, whatever holds of them together, or the first fault of a record or a key
unfoldable pub values_in : List ℕ → Result Values RuleError
values_in file = let rows = rows_of file in refused_or (first_some (entry_faults rows)) (values_for rows)

-- the densities are in order, and the two cells have two names
unfoldable pub densities_and_cells : Values → Result ⊤ RuleError
densities_and_cells values =
    if int_lt (value_of values number.Max) (value_of values number.Min) then Err (BadRule (Number number.Max))
    else if bytes_eq values.fill_top values.fill_cell then Err (BadRule (Text text.FillTop))
    else Ok tt

-- what is asked of the values together, in this order
unfoldable pub checked : Values → Result Values RuleError
checked values = do
  apart ← densities_and_cells values
  frame ← ok_or (rect_with (frame_of values.numbers)) BadRect
  windows ← ok_or (grid_with (whole_windows values.numbers)) BadWindows
  raster ← raster_with (raster_of values.numbers) (value_of values number.FillSpacing)
  Ok values

-- what is asked of a chip's values together, in this order
unfoldable pub checked_chip : Values → Result Values RuleError
checked_chip values = do
  apart ← densities_and_cells values
  frame ← ok_or (rect_with (frame_of values.numbers)) BadRect
  if is_axis (whole_windows values.numbers).across && is_axis (whole_windows values.numbers).up
      then (if keeps_pitch (raster_of values.numbers) (value_of values number.FillSpacing) then Ok values else Err BadPitch)
      else Err BadWindows

-- what the entries hold
abbrev pub found_in : Entries → Found
found_in s = record { numbers = s.numbers; texts = map (option_map (λ v. v.items)) (s.top ∷ s.fill_lib ∷ s.fill_cell ∷ s.fill_top ∷ []); optionals = s.optionals; also = s.also.metal.items ∷ s.also.fill.items ∷ s.also.keep.items ∷ []; padding = s.padding }
