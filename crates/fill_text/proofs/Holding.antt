-- The entries hold what the records that were read give each key, and a record adds its own.
use Rattle.std.proofs.Common.{◌≡◌, ◌⊎◌, inl, inr, ◌∙◌, ◌<◌, ◌+◌, ◌==◌, ℕ, ℤ, Bool, true, false, List, [], ◌∷◌, ◌++◌, length, get_or, map, set, cond, Option, Some, None, option_map, Result, Ok, Err, ap, sym, subst, refl, lit<}
use Rattle.std.specs.Prelude.{IfSome, bytes_eq, filter, find, nat_le, is_some, ok_or, if◌then◌else◌}
use Rattle.std.specs.Option.{option_or}
use Rattle.std.proofs.lemmas.Bool.{cases_eq}
use Rattle.std.proofs.lemmas.List.{append-nil, get_or-set_same, get_or-set_other, length-map, length-set, map-append}
use Rattle.std.proofs.lemmas.List.Elements.{filter-append}
use Rattle.std.proofs.lemmas.List.Folds.{find-append}
use Rattle.fill_base.specs.Sequence.{◌>>=◌}
use Rattle.fill_base.specs.declared.layer.Layer.{Layer}
use Rattle.fill_text.specs.Keys.{all_also_keys, all_text_keys, also_index, also_name, key_name, key_named, number_rule, optional_index}
use Rattle.fill_text.specs.Numbers.{layer_numbers_of, number_of}
use Rattle.fill_text.specs.Refusals.{fault_unless}
use Rattle.fill_text.specs.Rules.{also_fault, is_full, is_in_range, is_layer, is_layer_pair, is_text, keyed_fault, layer_by, layers_for, number_fault, optional_fault, padding_of, record_fault, value_fault, word_for, words_for}
use Rattle.fill_text.specs.ValuesOfRules.{also_found}
use Rattle.fill_text.specs.declared.keys.AlsoKey.{AlsoKey}
use Rattle.fill_text.specs.declared.keys.AlsoKey.TheVariants as also
use Rattle.fill_text.specs.declared.keys.Key.{Key}
use Rattle.fill_text.specs.declared.keys.Key.TheVariants.{Number, Text, Optional, Also, Padding}
use Rattle.fill_text.specs.declared.keys.NumberKey.{NumberKey}
use Rattle.fill_text.specs.declared.keys.OptionalKey.{OptionalKey}
use Rattle.fill_text.specs.declared.keys.OptionalKey.TheVariants.{KeepLayer, KeepDatatype}
use Rattle.fill_text.specs.declared.keys.TextKey.{TextKey}
use Rattle.fill_text.specs.declared.keys.TextKey.TheVariants as text
use Rattle.fill_text.specs.declared.rule_error.RuleError.{RuleError}
use Rattle.fill_text.specs.declared.rule_error.RuleError.TheVariants.{BadNumber, BadRow, BadRule}
use Rattle.fill_text.specs.steps.Entries.{AreAllowed, AreOptional, AreRanged, Found, is_found, layer_number, new_key, nothing_found, number_found, optional_found, ranged_layer, ranged_number, take_also, take_number, take_optional, take_padding, take_row, take_text, take_value, text_found, text_index}
use Rattle.fill_text.proofs.Names.{another_name, its_name, same_key}
use Rattle.fill_text.proofs.KeyNames.{index_below, same_index}
use Rattle.fill_text.proofs.Ranges.{in_range_facts, nothing_here, set_ranged}

-- the slots of some keys hold what the records before give these keys
abbrev pub Hold : {K V : Type 0} → (K → Key) → (K → ℕ) → (List ℕ → Option V) → List (Option V) → List (List (List ℕ)) → Type 0
Hold {K = K} key_of index read slots before = (k : K) → option_map read (word_for (key_of k) before) ≡ option_map Some (get_or slots (index k) None)

pub record Holds (found : Found) (before : List (List (List ℕ))) : Type 0 where
  pub many : length found.numbers ≡ 28
  pub four : length found.texts ≡ 4
  pub two : length found.optionals ≡ 2
  pub three : length found.also ≡ 3
  pub numbers : Hold Number (λ key. (number_rule key).index) number_of found.numbers before
  pub texts : Hold Text text_index Some found.texts before
  pub optionals : Hold Optional optional_index number_of found.optionals before
  pub also : (key : AlsoKey) → layers_for before key ≡ also_found found.also key
  pub padding : option_map padding_of (word_for Padding before) ≡ option_map Some found.padding
  pub ranged : AreRanged found.numbers
  pub allowed : AreAllowed found.texts
  pub optional : AreOptional found.optionals

pub nothing_held : Holds nothing_found []
nothing_held = record {
  many = refl;
  four = refl;
  two = refl;
  numbers = λ key. let none = nothing_here key in rw none refl;
  texts = λ key. nothing key;
  optionals = λ key. no_optional key;
  three = refl;
  also = λ key. no_layer key;
  padding = refl;
  ranged = λ key. let none = nothing_here key in rw none tt;
  allowed = λ key. none_allowed key;
  optional = λ key. none_optional key;
}
  where
    none_allowed : (key : TextKey) → IfSome (text_found nothing_found.texts key) (λ word. is_text key word ≡ true)
    none_allowed text.Top = tt
    none_allowed text.FillLib = tt
    none_allowed text.FillCell = tt
    none_allowed text.FillTop = tt

    none_optional : (key : OptionalKey) → IfSome (optional_found nothing_found.optionals key) (λ n. is_layer n ≡ true)
    none_optional KeepLayer = tt
    none_optional KeepDatatype = tt

    nothing : (key : TextKey) → option_map Some (word_for (Text key) []) ≡ option_map Some (text_found nothing_found.texts key)
    nothing text.Top = refl
    nothing text.FillLib = refl
    nothing text.FillCell = refl
    nothing text.FillTop = refl

    no_optional : (key : OptionalKey) → option_map number_of (word_for (Optional key) []) ≡ option_map Some (optional_found nothing_found.optionals key)
    no_optional KeepLayer = refl
    no_optional KeepDatatype = refl

    no_layer : (key : AlsoKey) → layers_for [] key ≡ also_found nothing_found.also key
    no_layer also.Metal = refl
    no_layer also.Fill = refl
    no_layer also.Keep = refl

-- a key may stand no more where its slot is filled
stood : (found : Found) (before : List (List (List ℕ))) → Holds found before → (key : Key) → is_full key before ≡ is_found found key
stood found before held key = by key
  where
    both : {V : Type 0} (read : List ℕ → Option V) (word : Option (List ℕ)) (slot : Option V) → option_map read word ≡ option_map Some slot → is_some word ≡ is_some slot
    both read None None e = refl
    both read (Some w) (Some v) e = refl
    both read None (Some v) e = cc e
    both read (Some w) None e = cc e

    by : (key : Key) → is_full key before ≡ is_found found key
    by (Number key) = both number_of (word_for (Number key) before) (number_found found.numbers key) (held.numbers key)
    by (Text key) = both Some (word_for (Text key) before) (text_found found.texts key) (held.texts key)
    by (Optional key) = both number_of (word_for (Optional key) before) (optional_found found.optionals key) (held.optionals key)
    by (Also key) = ap (nat_le 63) (sym (length-map (words_for (Also key) before) layer_by) ∙ ap length (held.also key))
    by Padding = both padding_of (word_for Padding before) found.padding held.padding

-- the word for a key, with one record more
word_after : (before : List (List (List ℕ))) (fields : List (List ℕ)) (key : Key)
    → word_for key (before ++ fields ∷ []) ≡ option_or (word_for key before) (cond (bytes_eq (get_or fields 0 []) (key_name key)) (Some (get_or fields 1 [])) None)
word_after before fields key =
    ap (option_map (λ r. get_or r 1 [])) (find-append (λ r. bytes_eq (get_or r 0 []) (key_name key)) before (fields ∷ []))
    ∙ by (find (λ r. bytes_eq (get_or r 0 []) (key_name key)) before) (bytes_eq (get_or fields 0 []) (key_name key))
  where
    by : (o : Option (List (List ℕ))) (b : Bool)
        → option_map (λ r. get_or r 1 []) (option_or o (cond b (Some fields) None)) ≡ option_or (option_map (λ r. get_or r 1 []) o) (cond b (Some (get_or fields 1 [])) None)
    by None true = refl
    by None false = refl
    by (Some r) b = refl

pub word_kept : (before : List (List (List ℕ))) (fields : List (List ℕ)) (key : Key) → bytes_eq (get_or fields 0 []) (key_name key) ≡ false
    → word_for key (before ++ fields ∷ []) ≡ word_for key before
word_kept before fields key test = word_after before fields key ∙ rw test (by (word_for key before))
  where
    by : (o : Option (List ℕ)) → option_or o None ≡ o
    by None = refl
    by (Some w) = refl

pub word_added : (before : List (List (List ℕ))) (fields : List (List ℕ)) (key : Key) → bytes_eq (get_or fields 0 []) (key_name key) ≡ true → word_for key before ≡ None
    → word_for key (before ++ fields ∷ []) ≡ Some (get_or fields 1 [])
word_added before fields key test fresh = word_after before fields key ∙ rw (test, fresh) refl

-- the layers for a key, with one record more
layers_after : (before : List (List (List ℕ))) (fields : List (List ℕ)) (key : AlsoKey)
    → layers_for (before ++ fields ∷ []) key ≡ layers_for before key ++ layers_for (fields ∷ []) key
layers_after before fields key =
    ap (map layer_by)
    (ap (map (λ r. get_or r 1 [])) (filter-append (λ r. bytes_eq (get_or r 0 []) (also_name key)) before (fields ∷ []))
    ∙ map-append (λ r. get_or r 1 []) (filter (λ r. bytes_eq (get_or r 0 []) (also_name key)) before) (filter (λ r. bytes_eq (get_or r 0 []) (also_name key)) (fields ∷ [])))
    ∙ map-append layer_by (words_for (Also key) before) (words_for (Also key) (fields ∷ []))

pub layers_kept : (before : List (List (List ℕ))) (fields : List (List ℕ)) (key : AlsoKey) → bytes_eq (get_or fields 0 []) (also_name key) ≡ false
    → layers_for (before ++ fields ∷ []) key ≡ layers_for before key
layers_kept before fields key test = layers_after before fields key ∙ rw test (append-nil (layers_for before key))

pub layers_added : (before : List (List (List ℕ))) (fields : List (List ℕ)) (key : AlsoKey) → bytes_eq (get_or fields 0 []) (also_name key) ≡ true
    → layers_for (before ++ fields ∷ []) key ≡ layers_for before key ++ layer_by (get_or fields 1 []) ∷ []
layers_added before fields key test = layers_after before fields key ∙ rw test refl

-- a record of another kind of key changes no list
still_also : (lists : List (List Layer)) (before : List (List (List ℕ))) (fields : List (List ℕ)) (key : Key)
    → ((k : AlsoKey) → layers_for before k ≡ also_found lists k) → key_named (get_or fields 0 []) ≡ Some key → ((k : AlsoKey) → Also k ≡ key → ⊥)
    → (k : AlsoKey) → layers_for (before ++ fields ∷ []) k ≡ also_found lists k
still_also lists before fields key held named differs k = layers_kept before fields k (another_name (get_or fields 0 []) key (Also k) named (differs k)) ∙ held k

-- a record of another kind of key changes none of these slots
still_hold : {K V : Type 0} (key_of : K → Key) (index : K → ℕ) (read : List ℕ → Option V) (slots : List (Option V)) (before : List (List (List ℕ))) (fields : List (List ℕ)) (key : Key)
    → Hold key_of index read slots before → key_named (get_or fields 0 []) ≡ Some key → ((k : K) → key_of k ≡ key → ⊥) → Hold key_of index read slots (before ++ fields ∷ [])
still_hold key_of index read slots before fields key held named differs k =
    ap (option_map read) (word_kept before fields (key_of k) (another_name (get_or fields 0 []) key (key_of k) named (differs k))) ∙ held k

-- a record of one of these keys fills its slot
one_more_held : {K V : Type 0} (key_of : K → Key) (index : K → ℕ) (read : List ℕ → Option V) (slots : List (Option V)) (before : List (List (List ℕ))) (fields : List (List ℕ)) (k : K) (v : V)
    → Hold key_of index read slots before → key_named (get_or fields 0 []) ≡ Some (key_of k) → word_for (key_of k) before ≡ None → read (get_or fields 1 []) ≡ Some v
    → index k < length slots → ((a b : K) → key_of a ≡ key_of b → a ≡ b) → ((a b : K) → index a ≡ index b → a ≡ b)
    → Hold key_of index read (set slots (index k) (Some v)) (before ++ fields ∷ [])
one_more_held {K = K} key_of index read slots before fields k v held named fresh written inside one apart other = by (bytes_eq (get_or fields 0 []) (key_name (key_of other))) refl
  where
    by : (b : Bool) → bytes_eq (get_or fields 0 []) (key_name (key_of other)) ≡ b
        → option_map read (word_for (key_of other) (before ++ fields ∷ [])) ≡ option_map Some (get_or (set slots (index k) (Some v)) (index other) None)
    by true test =
        let same : other ≡ k = one other k (same_key (get_or fields 0 []) (key_of k) (key_of other) named test) in
        rw (same, word_added before fields (key_of k) (its_name (get_or fields 0 []) (key_of k) named) fresh, written, get_or-set_same slots (index k) (Some v) None inside) refl
    by false test =
        let differ : index other ≡ index k → ⊥ = λ e. let h : true ≡ false = sym (its_name (get_or fields 0 []) (key_of k) named) ∙ ap (λ (x : K). bytes_eq (get_or fields 0 []) (key_name (key_of x))) (sym (apart other k e)) ∙ test in cc h in
        ap (option_map read) (word_kept before fields (key_of other) test) ∙ held other ∙ ap (option_map Some) (sym (get_or-set_other slots (index k) (index other) (Some v) None differ))

number_held : (found : Found) (before : List (List (List ℕ))) (fields : List (List ℕ)) (key : NumberKey) (n : ℤ)
    → Holds found before → key_named (get_or fields 0 []) ≡ Some (Number key) → word_for (Number key) before ≡ None
    → number_of (get_or fields 1 []) ≡ Some n → is_in_range key n ≡ true
    → Holds (record found { numbers = set found.numbers (number_rule key).index (Some n) }) (before ++ fields ∷ [])
number_held found before fields key n held named fresh written within = record {
  many = length-set found.numbers (number_rule key).index (Some n) ∙ held.many;
  four = held.four;
  numbers = one_more_held Number (λ key. (number_rule key).index) number_of found.numbers before fields key n held.numbers named fresh written
      (subst (λ count. (number_rule key).index < count) (sym held.many) (index_below key)) (λ a b e. cc e) same_index;
  two = held.two;
  three = held.three;
  also = still_also found.also before fields (Number key) held.also named (λ k e. cc e);
  texts = still_hold Text text_index Some found.texts before fields (Number key) held.texts named (λ k e. cc e);
  optionals = still_hold Optional optional_index number_of found.optionals before fields (Number key) held.optionals named (λ k e. cc e);
  padding = ap (option_map padding_of) (word_kept before fields Padding (another_name (get_or fields 0 []) (Number key) Padding named (λ e. cc e))) ∙ held.padding;
  ranged = set_ranged found.numbers key n held.ranged (in_range_facts key n within);
  allowed = held.allowed;
  optional = held.optional;
}

text_at : ℕ → TextKey
text_at i = get_or all_text_keys i text.Top

text_held : (found : Found) (before : List (List (List ℕ))) (fields : List (List ℕ)) (key : TextKey)
    → Holds found before → key_named (get_or fields 0 []) ≡ Some (Text key) → word_for (Text key) before ≡ None → is_text key (get_or fields 1 []) ≡ true
    → Holds (record found { texts = set found.texts (text_index key) (Some (get_or fields 1 [])) }) (before ++ fields ∷ [])
unfolding text_at
text_held found before fields key held named fresh this = record {
  many = held.many;
  four = length-set found.texts (text_index key) (Some (get_or fields 1 [])) ∙ held.four;
  two = held.two;
  three = held.three;
  also = still_also found.also before fields (Text key) held.also named (λ k e. cc e);
  numbers = still_hold Number (λ key. (number_rule key).index) number_of found.numbers before fields (Text key) held.numbers named (λ k e. cc e);
  optionals = still_hold Optional optional_index number_of found.optionals before fields (Text key) held.optionals named (λ k e. cc e);
  padding = ap (option_map padding_of) (word_kept before fields Padding (another_name (get_or fields 0 []) (Text key) Padding named (λ e. cc e))) ∙ held.padding;
  texts = one_more_held Text text_index Some found.texts before fields key (get_or fields 1 []) held.texts named fresh refl
      (subst (λ count. text_index key < count) (sym held.four) (below key)) (λ a b e. cc e) same_text;
  ranged = held.ranged;
  allowed = λ other. by other (cases_eq (text_index other) (text_index key));
  optional = held.optional;
}
  where
    at : (key : TextKey) → text_at (text_index key) ≡ key
    at text.Top = refl
    at text.FillLib = refl
    at text.FillCell = refl
    at text.FillTop = refl

    below : (key : TextKey) → text_index key < 4
    below text.Top = lit< tt
    below text.FillLib = lit< tt
    below text.FillCell = lit< tt
    below text.FillTop = lit< tt

    same_text : (a b : TextKey) → text_index a ≡ text_index b → a ≡ b
    same_text a b e = sym (at a) ∙ ap text_at e ∙ at b

    by : (other : TextKey) → (text_index other ≡ text_index key) ⊎ (text_index other ≡ text_index key → ⊥)
        → IfSome (text_found (set found.texts (text_index key) (Some (get_or fields 1 []))) other) (λ word. is_text other word ≡ true)
    by other (inl e) = rw (same_text other key e, get_or-set_same found.texts (text_index key) (Some (get_or fields 1 [])) None (subst (λ count. text_index key < count) (sym held.four) (below key))) this
    by other (inr differ) = rw (get_or-set_other found.texts (text_index key) (text_index other) (Some (get_or fields 1 [])) None differ) (held.allowed other)

optional_held : (found : Found) (before : List (List (List ℕ))) (fields : List (List ℕ)) (key : OptionalKey) (n : ℤ)
    → Holds found before → key_named (get_or fields 0 []) ≡ Some (Optional key) → word_for (Optional key) before ≡ None → number_of (get_or fields 1 []) ≡ Some n → is_layer n ≡ true
    → Holds (record found { optionals = set found.optionals (optional_index key) (Some n) }) (before ++ fields ∷ [])
optional_held found before fields key n held named fresh written within = record {
  many = held.many;
  four = held.four;
  two = length-set found.optionals (optional_index key) (Some n) ∙ held.two;
  three = held.three;
  also = still_also found.also before fields (Optional key) held.also named (λ k e. cc e);
  numbers = still_hold Number (λ key. (number_rule key).index) number_of found.numbers before fields (Optional key) held.numbers named (λ k e. cc e);
  texts = still_hold Text text_index Some found.texts before fields (Optional key) held.texts named (λ k e. cc e);
  optionals = one_more_held Optional optional_index number_of found.optionals before fields key n held.optionals named fresh written
      (subst (λ count. optional_index key < count) (sym held.two) (below key)) (λ a b e. cc e) same_optional;
  padding = ap (option_map padding_of) (word_kept before fields Padding (another_name (get_or fields 0 []) (Optional key) Padding named (λ e. cc e))) ∙ held.padding;
  ranged = held.ranged;
  allowed = held.allowed;
  optional = λ other. layer other (cases_eq (optional_index other) (optional_index key));
}
  where
    below : (key : OptionalKey) → optional_index key < 2
    below KeepLayer = lit< tt
    below KeepDatatype = lit< tt

    same_optional : (a b : OptionalKey) → optional_index a ≡ optional_index b → a ≡ b
    same_optional KeepLayer KeepLayer e = refl
    same_optional KeepDatatype KeepDatatype e = refl
    same_optional KeepLayer KeepDatatype e = cc e
    same_optional KeepDatatype KeepLayer e = cc e

    layer : (other : OptionalKey) → (optional_index other ≡ optional_index key) ⊎ (optional_index other ≡ optional_index key → ⊥)
        → IfSome (optional_found (set found.optionals (optional_index key) (Some n)) other) (λ n. is_layer n ≡ true)
    layer other (inl e) = rw (same_optional other key e, get_or-set_same found.optionals (optional_index key) (Some n) None (subst (λ count. optional_index key < count) (sym held.two) (below key))) within
    layer other (inr differ) = rw (get_or-set_other found.optionals (optional_index key) (optional_index other) (Some n) None differ) (held.optional other)

also_held : (found : Found) (before : List (List (List ℕ))) (fields : List (List ℕ)) (key : AlsoKey) (layer : Layer)
    → Holds found before → key_named (get_or fields 0 []) ≡ Some (Also key) → layer_by (get_or fields 1 []) ≡ layer
    → Holds (record found { also = set found.also (also_index key) (also_found found.also key ++ layer ∷ []) }) (before ++ fields ∷ [])
also_held found before fields key layer held named written = record {
  many = held.many;
  four = held.four;
  two = held.two;
  three = length-set found.also (also_index key) (also_found found.also key ++ layer ∷ []) ∙ held.three;
  numbers = still_hold Number (λ key. (number_rule key).index) number_of found.numbers before fields (Also key) held.numbers named (λ k e. cc e);
  texts = still_hold Text text_index Some found.texts before fields (Also key) held.texts named (λ k e. cc e);
  optionals = still_hold Optional optional_index number_of found.optionals before fields (Also key) held.optionals named (λ k e. cc e);
  also = λ other. by other (cases_eq (also_index other) (also_index key));
  padding = ap (option_map padding_of) (word_kept before fields Padding (another_name (get_or fields 0 []) (Also key) Padding named (λ e. cc e))) ∙ held.padding;
  ranged = held.ranged;
  allowed = held.allowed;
  optional = held.optional;
}
  where
    below : (key : AlsoKey) → also_index key < 3
    below also.Metal = lit< tt
    below also.Fill = lit< tt
    below also.Keep = lit< tt

    same_also : (a b : AlsoKey) → also_index a ≡ also_index b → a ≡ b
    same_also a b e = sym (at a) ∙ ap (λ i. get_or all_also_keys i also.Metal) e ∙ at b
      where
        at : (key : AlsoKey) → get_or all_also_keys (also_index key) also.Metal ≡ key
        at also.Metal = refl
        at also.Fill = refl
        at also.Keep = refl

    by : (other : AlsoKey) → (also_index other ≡ also_index key) ⊎ (also_index other ≡ also_index key → ⊥)
        → layers_for (before ++ fields ∷ []) other ≡ also_found (set found.also (also_index key) (also_found found.also key ++ layer ∷ [])) other
    by other (inl e) =
        rw (same_also other key e, get_or-set_same found.also (also_index key) (also_found found.also key ++ layer ∷ []) [] (subst (λ count. also_index key < count) (sym held.three) (below key)), layers_added before fields key (its_name (get_or fields 0 []) (Also key) named), held.also key, written) refl
    by other (inr differ) =
        layers_kept before fields other (another_name (get_or fields 0 []) (Also key) (Also other) named (λ e. let same : other ≡ key = cc e in differ (ap also_index same)))
        ∙ held.also other ∙ sym (get_or-set_other found.also (also_index key) (also_index other) (also_found found.also key ++ layer ∷ []) [] differ)

padding_held : (found : Found) (before : List (List (List ℕ))) (fields : List (List ℕ)) (ignores : Bool)
    → Holds found before → key_named (get_or fields 0 []) ≡ Some Padding → word_for Padding before ≡ None → padding_of (get_or fields 1 []) ≡ Some ignores
    → Holds (record found { padding = Some ignores }) (before ++ fields ∷ [])
padding_held found before fields ignores held named fresh written = record {
  many = held.many;
  four = held.four;
  two = held.two;
  three = held.three;
  also = still_also found.also before fields Padding held.also named (λ k e. cc e);
  numbers = still_hold Number (λ key. (number_rule key).index) number_of found.numbers before fields Padding held.numbers named (λ k e. cc e);
  texts = still_hold Text text_index Some found.texts before fields Padding held.texts named (λ k e. cc e);
  optionals = still_hold Optional optional_index number_of found.optionals before fields Padding held.optionals named (λ k e. cc e);
  padding = ap (option_map padding_of) (word_added before fields Padding (its_name (get_or fields 0 []) Padding named) fresh) ∙ ap Some written;
  ranged = held.ranged;
  allowed = held.allowed;
  optional = held.optional;
}

-- a step that is refused with this fault, or takes the records so far
abbrev pub Takes : Option RuleError → Result Found RuleError → List (List (List ℕ)) → Type 0
Takes (Some e) taken rows = taken ≡ Err e
Takes None taken rows = (new : Found) × (taken ≡ Ok new) × Holds new rows

pub none_there : {X : Type 0} (o : Option X) → is_some o ≡ false → o ≡ None
none_there None e = refl
none_there (Some x) e = cc e

value_taken : (found : Found) (before : List (List (List ℕ))) (fields : List (List ℕ)) (line : ℕ) (key : Key) → Holds found before
    → key_named (get_or fields 0 []) ≡ Some key → is_full key before ≡ false
    → Takes (value_fault line key (get_or fields 1 [])) (take_value line key (get_or fields 1 []) found) (before ++ fields ∷ [])
unfolding take_also take_number take_optional take_padding take_text ranged_layer ranged_number layer_number
value_taken found before fields line (Number key) held named stands = by (number_of (get_or fields 1 [])) refl
  where
    ranged : (n : ℤ) → number_of (get_or fields 1 []) ≡ Some n → (b : Bool) → is_in_range key n ≡ b
        → Takes (fault_unless b (BadRule (Number key)))
        ((if b then Ok n else Err (BadRule (Number key))) >>= λ n. Ok (record found { numbers = set found.numbers (number_rule key).index (Some n) })) (before ++ fields ∷ [])
    ranged n written true within = (record found { numbers = set found.numbers (number_rule key).index (Some n) }, refl, number_held found before fields key n held named (none_there (word_for (Number key) before) stands) written within)
    ranged n written false within = refl

    by : (o : Option ℤ) → number_of (get_or fields 1 []) ≡ o
        → Takes (number_fault line key o)
        ((ok_or o (BadNumber line) >>= λ n. if is_in_range key n then Ok n else Err (BadRule (Number key))) >>= λ n. Ok (record found { numbers = set found.numbers (number_rule key).index (Some n) })) (before ++ fields ∷ [])
    by None written = refl
    by (Some n) written = ranged n written (is_in_range key n) refl
value_taken found before fields line (Text key) held named stands = by (is_text key (get_or fields 1 [])) refl
  where
    by : (b : Bool) → is_text key (get_or fields 1 []) ≡ b
        → Takes (fault_unless b (BadRule (Text key))) (if b then Ok (record found { texts = set found.texts (text_index key) (Some (get_or fields 1 [])) }) else Err (BadRule (Text key))) (before ++ fields ∷ [])
    by true allowed = (record found { texts = set found.texts (text_index key) (Some (get_or fields 1 [])) }, refl, text_held found before fields key held named (none_there (word_for (Text key) before) stands) allowed)
    by false allowed = refl
value_taken found before fields line (Optional key) held named stands = by (number_of (get_or fields 1 [])) refl
  where
    layer : (n : ℤ) → number_of (get_or fields 1 []) ≡ Some n → (b : Bool) → is_layer n ≡ b
        → Takes (fault_unless b (BadRule (Optional key)))
        ((if b then Ok n else Err (BadRule (Optional key))) >>= λ n. Ok (record found { optionals = set found.optionals (optional_index key) (Some n) })) (before ++ fields ∷ [])
    layer n written true within = (record found { optionals = set found.optionals (optional_index key) (Some n) }, refl, optional_held found before fields key n held named (none_there (word_for (Optional key) before) stands) written within)
    layer n written false within = refl

    by : (o : Option ℤ) → number_of (get_or fields 1 []) ≡ o
        → Takes (optional_fault line key o)
        ((ok_or o (BadNumber line) >>= λ n. if is_layer n then Ok n else Err (BadRule (Optional key))) >>= λ n. Ok (record found { optionals = set found.optionals (optional_index key) (Some n) })) (before ++ fields ∷ [])
    by None written = refl
    by (Some n) written = layer n written (is_layer n) refl
value_taken found before fields line (Also key) held named stands = by (layer_numbers_of (get_or fields 1 [])) refl
  where
    added : (p : ℕ × ℕ) → layer_numbers_of (get_or fields 1 []) ≡ Some p → (b : Bool)
        → Takes (fault_unless b (BadRule (Also key)))
        ((if b then Ok (record { layer = p.0; data_type = p.1 }) else Err (BadRule (Also key))) >>= λ layer. Ok (record found { also = set found.also (also_index key) (also_found found.also key ++ layer ∷ []) })) (before ++ fields ∷ [])
    added p written true = (record found { also = set found.also (also_index key) (also_found found.also key ++ record { layer = p.0; data_type = p.1 } ∷ []) }, refl, also_held found before fields key _ held named (rw written refl))
    added p written false = refl

    by : (o : Option (ℕ × ℕ)) → layer_numbers_of (get_or fields 1 []) ≡ o
        → Takes (also_fault line key o)
        ((ok_or o (BadNumber line) >>= λ (p : ℕ × ℕ). if is_layer_pair p then Ok (record { layer = p.0; data_type = p.1 }) else Err (BadRule (Also key))) >>= λ layer. Ok (record found { also = set found.also (also_index key) (also_found found.also key ++ layer ∷ []) })) (before ++ fields ∷ [])
    by None written = refl
    by (Some p) written = added p written (is_layer_pair p)
value_taken found before fields line Padding held named stands = by (padding_of (get_or fields 1 [])) refl
  where
    by : (o : Option Bool) → padding_of (get_or fields 1 []) ≡ o
        → Takes (fault_unless (is_some o) (BadRule Padding)) (ok_or o (BadRule Padding) >>= λ ignores. Ok (record found { padding = Some ignores })) (before ++ fields ∷ [])
    by None written = refl
    by (Some ignores) written = (record found { padding = Some ignores }, refl, padding_held found before fields ignores held named (none_there (word_for Padding before) stands) written)

-- what taking a record does: it is refused with its fault, or adds its word
row_taken : (found : Found) (before : List (List (List ℕ))) (fields : List (List ℕ)) → Holds found before
    → Takes (record_fault before fields) (take_row (length before + 1) fields found) (before ++ fields ∷ [])
unfolding take_row new_key
row_taken found before fields held = by (length fields == 2)
  where
    fresh : (key : Key) → key_named (get_or fields 0 []) ≡ Some key → (b : Bool) → is_full key before ≡ b
        → Takes (if b then Some (BadRow (length before + 1)) else value_fault (length before + 1) key (get_or fields 1 []))
        ((if b then Err (BadRow (length before + 1)) else Ok key) >>= λ key. take_value (length before + 1) key (get_or fields 1 []) found) (before ++ fields ∷ [])
    fresh key named true stands = refl
    fresh key named false stands = value_taken found before fields (length before + 1) key held named stands

    named : (o : Option Key) → key_named (get_or fields 0 []) ≡ o
        → Takes (keyed_fault (length before + 1) before o (get_or fields 1 []))
        ((ok_or o (BadRow (length before + 1)) >>= λ key. if is_found found key then Err (BadRow (length before + 1)) else Ok key) >>= λ key. take_value (length before + 1) key (get_or fields 1 []) found) (before ++ fields ∷ [])
    named None e = refl
    named (Some key) e = rw (← stood found before held key) (fresh key e (is_full key before) refl)

    by : (b : Bool)
        → Takes (if b then keyed_fault (length before + 1) before (key_named (get_or fields 0 [])) (get_or fields 1 []) else Some (BadRow (length before + 1)))
        (if b then (new_key (length before + 1) (get_or fields 0 []) found >>= λ key. take_value (length before + 1) key (get_or fields 1 []) found) else Err (BadRow (length before + 1))) (before ++ fields ∷ [])
    by true = named (key_named (get_or fields 0 [])) refl
    by false = refl

pub row_refused : (found : Found) (before : List (List (List ℕ))) (fields : List (List ℕ)) (line : ℕ) (e : RuleError) → Holds found before → length before ≡ line
    → take_row (line + 1) fields found ≡ Err e → record_fault before fields ≡ Some e
row_refused found before fields line e held count refused = by (record_fault before fields) (row_taken found before fields held) (rw (← count) at refused)
  where
    by : (o : Option RuleError) → Takes o (take_row (length before + 1) fields found) (before ++ fields ∷ []) → take_row (length before + 1) fields found ≡ Err e → o ≡ Some e
    by (Some f) taken refused = cc
    by None (new, taken, holds) refused = cc

pub row_added : (found new : Found) (before : List (List (List ℕ))) (fields : List (List ℕ)) (line : ℕ) → Holds found before → length before ≡ line
    → take_row (line + 1) fields found ≡ Ok new → (record_fault before fields ≡ None) × Holds new (before ++ fields ∷ [])
row_added found new before fields line held count added = by (record_fault before fields) (row_taken found before fields held) (rw (← count) at added)
  where
    by : (o : Option RuleError) → Takes o (take_row (length before + 1) fields found) (before ++ fields ∷ []) → take_row (length before + 1) fields found ≡ Ok new
        → (o ≡ None) × Holds new (before ++ fields ∷ [])
    by (Some f) taken added = let h : Err f ≡ Ok new = sym taken ∙ added in cc h
    by None (other, taken, holds) added = let same : other ≡ new = cc in (refl, rw (← same) holds)
