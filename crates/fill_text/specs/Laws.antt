-- The two texts in the words of their files: each key of the rules stands in one record, but those that may stand several times,
-- each value in a record of its own key, and each record of a script is one change.
use Rattle.std.specs.Prelude.{◌≡◌, ℕ, ℤ, List, [], ◌∷◌, length, get_or, map, filter, bytes_eq, Bool, true, false, ◌≤◌, Option, Some, None, is_some, Ok, Any, codes, ◌++◌, ◌+◌}
use Rattle.std.specs.List.{AllZip}
use Rattle.std.specs.List.Sorted.{IsPermutation}
use Rattle.fill_base.specs.declared.layer.Layer.{Layer}
use Rattle.fill_text.specs.Keys.{also_name, optional_keys, key_name, key_named, number_rule, optional_name, required_keys, text_name}
use Rattle.fill_text.specs.Numbers.{layer_numbers_of, number_of}
use Rattle.fill_text.specs.Rows.{rows_of}
use Rattle.fill_text.specs.Rules.{Values, layers_of, rules_of, text_of, value_of, word_for, words_for}
use Rattle.fill_text.specs.Script.{Change, edits_of}
use Rattle.fill_text.specs.declared.keys.AlsoKey.{AlsoKey}
use Rattle.fill_text.specs.declared.keys.AlsoKey.TheVariants as also
use Rattle.fill_text.specs.declared.keys.Key.{Key}
use Rattle.fill_text.specs.declared.keys.Key.TheVariants.{Number, Text, Optional, Also, Padding}
use Rattle.fill_text.specs.declared.keys.NumberKey.{NumberKey}
use Rattle.fill_text.specs.declared.keys.OptionalKey.{OptionalKey}
use Rattle.fill_text.specs.declared.keys.OptionalKey.TheVariants.{KeepLayer, KeepDatatype}
use Rattle.fill_text.specs.declared.keys.TextKey.{TextKey}
use Rattle.fill_text.specs.declared.script.Kind.{Kind}
use Rattle.fill_text.specs.declared.script.Kind.TheVariants as kind

-- a record of two fields: the key's name, and a word that writes the number
abbrev pub WritesNumber : NumberKey → ℤ → List (List ℕ) → Type 0
WritesNumber key n fields = (word : List ℕ) × (fields ≡ (number_rule key).name ∷ word ∷ []) × (number_of word ≡ Some n)

-- a record of two fields: the key's name, and the text
abbrev pub WritesText : TextKey → List ℕ → List (List ℕ) → Type 0
WritesText key text fields = fields ≡ text_name key ∷ text ∷ []

-- where a rule file is accepted, some record of it writes each number
abbrev pub EachNumberIsWritten : Type 0
EachNumberIsWritten = (file : List ℕ) (values : Values) → rules_of file ≡ Ok values → (key : NumberKey) → Any (WritesNumber key (value_of values key)) (rows_of file)

-- and each text
abbrev pub EachTextIsWritten : Type 0
EachTextIsWritten = (file : List ℕ) (values : Values) → rules_of file ≡ Ok values → (key : TextKey) → Any (WritesText key (text_of values key)) (rows_of file)

-- a record of two fields: the key's name, and a word that writes the number
abbrev pub WritesOptional : OptionalKey → ℤ → List (List ℕ) → Type 0
WritesOptional key n fields = (word : List ℕ) × (fields ≡ optional_name key ∷ word ∷ []) × (number_of word ≡ Some n)

-- and the keep-outs' layer and data type: both, or neither stands, nor does any further layer of theirs
abbrev pub AreWrittenOrLeftOut : Option (ℤ × ℤ) → List (List (List ℕ)) → Type 0
AreWrittenOrLeftOut (Some (layer, datatype)) rows = Any (WritesOptional KeepLayer layer) rows × Any (WritesOptional KeepDatatype datatype) rows
AreWrittenOrLeftOut None rows = (word_for (Optional KeepLayer) rows ≡ None) × (word_for (Optional KeepDatatype) rows ≡ None) × (words_for (Also also.Keep) rows ≡ [])

abbrev pub KeepIsWritten : Type 0
KeepIsWritten = (file : List ℕ) (values : Values) → rules_of file ≡ Ok values → AreWrittenOrLeftOut values.keep (rows_of file)

-- a record of two fields: the key's name, and a word that writes the layer
abbrev pub WritesLayer : AlsoKey → List (List ℕ) → Layer → Type 0
WritesLayer key fields layer = (word : List ℕ) × (fields ≡ also_name key ∷ word ∷ []) × (layer_numbers_of word ≡ Some (layer.layer, layer.data_type))

-- the records that begin with the key's name
abbrev pub records_of : AlsoKey → List (List (List ℕ)) → List (List (List ℕ))
records_of key = filter (λ fields. bytes_eq (get_or fields 0 []) (also_name key))

-- and the layers of each key that may stand several times: in their order, one in each of its records, which are at most 63
abbrev pub EachLayerIsWritten : Type 0
EachLayerIsWritten = (file : List ℕ) (values : Values) → rules_of file ≡ Ok values → (key : AlsoKey)
    → AllZip (WritesLayer key) (records_of key (rows_of file)) (layers_of values key) × (length (layers_of values key) ≤ 63)

-- the optional keys that stand in the records, in table order
abbrev pub optional_standing : List (List (List ℕ)) → List Key
optional_standing rows = filter (λ key. is_some (word_for key rows)) optional_keys

-- the names that records begin with
abbrev pub first_fields : List (List (List ℕ)) → List (List ℕ)
first_fields = map (λ fields. get_or fields 0 [])

-- the key may stand in no second record
abbrev pub is_single : Option Key → Bool
is_single (Some (Also key)) = false
is_single (Some (Number key)) = true
is_single (Some (Text key)) = true
is_single (Some (Optional key)) = true
is_single (Some Padding) = true
is_single None = true

-- the records but those of keys that may stand several times
abbrev pub single_records : List (List (List ℕ)) → List (List (List ℕ))
single_records = filter (λ fields. is_single (key_named (get_or fields 0 [])))

-- where a rule file is accepted, these records begin with the names of the keys that each has and of the optional ones that stand
-- in it, each name once, in any order
abbrev pub EachKeyStandsOnce : Type 0
EachKeyStandsOnce = (file : List ℕ) (values : Values) → rules_of file ≡ Ok values → IsPermutation (first_fields (single_records (rows_of file))) (map key_name (required_keys ++ optional_standing (rows_of file)))

-- and so it has 32 records, one for each optional key that stands and one for each layer of a list, and nothing else stands in it
abbrev pub ARecordForEachKey : Type 0
ARecordForEachKey = (file : List ℕ) (values : Values) → rules_of file ≡ Ok values
    → length (rows_of file) ≡ 32 + length (optional_standing (rows_of file)) + (length values.also_metal + length values.also_fill + length values.also_keep)

-- the name of each key names that key, so that no two keys have one name
abbrev pub EachNameIsOfOneKey : Type 0
EachNameIsOfOneKey = (key : Key) → key_named (key_name key) ≡ Some key

-- the word of a kind of change
abbrev pub kind_word : Kind → List ℕ
kind_word kind.Add = codes "add"
kind_word kind.Cut = codes "cut"
kind_word kind.Keep = codes "keep"

-- a record of five fields: the word of the change's kind, and four words that write its rectangle's numbers
abbrev pub WritesChange : List (List ℕ) → Change → Type 0
WritesChange fields change = (x1 y1 x2 y2 : List ℕ) × (fields ≡ kind_word change.kind ∷ x1 ∷ y1 ∷ x2 ∷ y2 ∷ [])
    × (number_of x1 ≡ Some change.rect.left) × (number_of y1 ≡ Some change.rect.bottom) × (number_of x2 ≡ Some change.rect.right) × (number_of y2 ≡ Some change.rect.top)

-- where a script is accepted, its changes are those that its records write, one each and in their order
abbrev pub EachRecordIsAChange : Type 0
EachRecordIsAChange = (file : List ℕ) (changes : List Change) → edits_of file ≡ Ok changes → AllZip WritesChange (rows_of file) changes
