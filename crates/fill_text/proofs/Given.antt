-- Once every record is taken: the entries give the value of each key, and the first fault of the file is known.
use Rattle.std.proofs.Common.{◌≡◌, ◌∙◌, ◌&&◌, ℕ, ℤ, Bool, true, false, List, [], ◌∷◌, ◌++◌, length, get_or, map, Option, Some, None, option_map, Result, Ok, Err, ap, sym, refl}
use Rattle.std.specs.Prelude.{⊤, bytes_eq, int_lt, nat_lt, is_some, ok_or, option_and_then, pos, unwrap_or, if◌then◌else◌}
use Rattle.std.proofs.lemmas.List.{length-map}
use Rattle.std.proofs.lemmas.List.FromFn.{fill_by_all}
use Rattle.fill_base.specs.Sequence.{◌>>=◌}
use Rattle.fill_text.specs.Chips.{chip_faults, chip_of, judged}
use Rattle.fill_text.specs.RectTests.{is_rect, rect_with}
use Rattle.fill_text.specs.Grids.{grid_with, is_axis, is_grid}
use Rattle.fill_text.specs.Rasters.{has_few_places, keeps_pitch, raster_with}
use Rattle.fill_text.specs.Keys.{all_number_keys, all_text_keys}
use Rattle.fill_text.specs.Numbers.{number_of}
use Rattle.fill_text.specs.Refusals.{each_fault, fault_if, fault_unless, first_some, refused_or}
use Rattle.fill_text.specs.Rules.{Values, entry_faults, frame_of, joint_faults, keep_faults, key_faults, layer_by, missing, number_for, padding_of, pair, pair_faults, raster_of, record_fault, rules_of, value_of, values_for, whole_windows, word_for, words_for}
use Rattle.fill_text.specs.ValuesOfRules.{also_found}
use Rattle.fill_text.specs.Rows.{rows_of}
use Rattle.fill_base.specs.declared.layer.Layer.{Layer}
use Rattle.fill_text.specs.declared.keys.AlsoKey.TheVariants as also
use Rattle.fill_text.specs.declared.keys.Key.TheVariants.{Number, Text, Optional, Also, Padding}
use Rattle.fill_text.specs.declared.keys.NumberKey.{NumberKey}
use Rattle.fill_text.specs.declared.keys.NumberKey.TheVariants as number
use Rattle.fill_text.specs.declared.keys.OptionalKey.TheVariants.{KeepLayer, KeepDatatype}
use Rattle.fill_text.specs.declared.keys.TextKey.TheVariants as text
use Rattle.fill_text.specs.declared.rule_error.RuleError.{RuleError}
use Rattle.fill_text.specs.declared.rule_error.RuleError.TheVariants.{BadPitch, BadRect, BadRule, BadWindows, TooManyPlaces}
use Rattle.fill_text.specs.steps.Entries.{Found, all_numbers, all_values, checked, checked_chip, densities_and_cells, number_found, optional_found, pair_found, values_in, with_front}
use Rattle.fill_text.proofs.FirstFaults.{asked_in_turn, first_stays, later_first, not_refused, same_behind}
use Rattle.fill_text.proofs.Holding.{Holds}

-- the numbers of these keys, or the first key that is missing
numbers_given : (rows : List (List (List ℕ))) (found : NumberKey → Option ℤ) (keys : List NumberKey)
    → ((key : NumberKey) → option_map number_of (word_for (Number key) rows) ≡ option_map Some (found key))
    → all_numbers keys (map found keys) ≡ refused_or (first_some (map (missing rows) (map Number keys))) (map (number_for rows) keys)
unfolding all_numbers
numbers_given rows found [] held = refl
numbers_given rows found (key ∷ keys) held = by (word_for (Number key) rows) (found key) (held key) (numbers_given rows found keys held)
  where
    front : (n : ℤ) (o : Option RuleError) (more : List ℤ) → with_front (n ∷ []) (refused_or o more) ≡ refused_or o (n ∷ more)
    front n None more = refl
    front n (Some e) more = refl

    written : (word : List ℕ) (n : ℤ) → number_of word ≡ Some n → unwrap_or (option_and_then number_of (Some word)) (pos 0) ≡ n
    written word n e = rw e refl

    by : (o : Option (List ℕ)) (n : Option ℤ) → option_map number_of o ≡ option_map Some n
        → all_numbers keys (map found keys) ≡ refused_or (first_some (map (missing rows) (map Number keys))) (map (number_for rows) keys)
        → (ok_or n (BadRule (Number key)) >>= λ v. with_front (v ∷ []) (all_numbers keys (map found keys)))
        ≡ refused_or (first_some (fault_unless (is_some o) (BadRule (Number key)) ∷ map (missing rows) (map Number keys))) (unwrap_or (option_and_then number_of o) (pos 0) ∷ map (number_for rows) keys)
    by None None e later = refl
    by None (Some n) e later = cc e
    by (Some word) None e later = cc e
    by (Some word) (Some n) e later =
        let this : number_of word ≡ Some n = cc e in
        rw (written word n this, later) (front n (first_some (map (missing rows) (map Number keys))) (map (number_for rows) keys))

-- the keep-outs' two numbers, or the one that is missing
pair_given : (a b : Option (List ℕ)) (m n : Option ℤ) (further : Bool) → option_map number_of a ≡ option_map Some m → option_map number_of b ≡ option_map Some n
    → pair_found m n further ≡ refused_or (first_some (pair_faults (is_some a) (is_some b) further)) (pair (option_and_then number_of a) (option_and_then number_of b))
pair_given None None None None true e f = refl
pair_given None None None None false e f = refl
pair_given (Some a) (Some b) (Some m) (Some n) further e f =
    let g : number_of a ≡ Some m = cc e in
    let h : number_of b ≡ Some n = cc f in
    rw (g, h) refl
pair_given (Some a) None (Some m) None further e f = refl
pair_given None (Some b) None (Some n) further e f = refl
pair_given None b (Some m) n further e f = cc e
pair_given (Some a) b None n further e f = cc e
pair_given a None m (Some n) further e f = cc f
pair_given a (Some b) m None further e f = cc f

-- the four texts, or the first that is missing
abbrev made_of : List ℤ → List Layer → List Layer → List Layer → Bool → List ℕ → List ℕ → List ℕ → List ℕ → Option (ℤ × ℤ) → Values
made_of numbers metal fill kept ignores top fill_lib fill_cell fill_top keep = record { numbers = numbers; top = top; fill_lib = fill_lib; fill_cell = fill_cell; fill_top = fill_top; keep = keep; also_metal = metal; also_fill = fill; also_keep = kept; ignores = ignores }

texts_given : (numbers : List ℤ) (a b c d : Option (List ℕ)) (metal fill kept : List Layer) (ignores : Bool) (keep : Result (Option (ℤ × ℤ)) RuleError) (faults : List (Option RuleError)) (two : Option (ℤ × ℤ)) → keep ≡ refused_or (first_some faults) two
    → (ok_or a (BadRule (Text text.Top)) >>= λ top. ok_or b (BadRule (Text text.FillLib)) >>= λ fill_lib. ok_or c (BadRule (Text text.FillCell)) >>= λ fill_cell. ok_or d (BadRule (Text text.FillTop)) >>= λ fill_top. keep >>= λ keep.
    let values : Result Values RuleError = Ok (made_of numbers metal fill kept ignores top fill_lib fill_cell fill_top keep) in values)
    ≡ refused_or (first_some (fault_unless (is_some a) (BadRule (Text text.Top)) ∷ fault_unless (is_some b) (BadRule (Text text.FillLib)) ∷ fault_unless (is_some c) (BadRule (Text text.FillCell)) ∷ fault_unless (is_some d) (BadRule (Text text.FillTop)) ∷ faults))
    (made_of numbers metal fill kept ignores (unwrap_or a []) (unwrap_or b []) (unwrap_or c []) (unwrap_or d []) two)
texts_given numbers None b c d metal fill kept ignores keep faults two e = refl
texts_given numbers (Some w) None c d metal fill kept ignores keep faults two e = refl
texts_given numbers (Some w) (Some x) None d metal fill kept ignores keep faults two e = refl
texts_given numbers (Some w) (Some x) (Some y) None metal fill kept ignores keep faults two e = refl
texts_given numbers (Some w) (Some x) (Some y) (Some z) metal fill kept ignores keep faults two e = rw e (by (first_some faults))
  where
    by : (o : Option RuleError) → (refused_or o two >>= λ (keep : Option (ℤ × ℤ)). let values : Result Values RuleError = Ok (made_of numbers metal fill kept ignores w x y z keep) in values)
        ≡ refused_or o (made_of numbers metal fill kept ignores w x y z two)
    by None = refl
    by (Some f) = refl

-- a list of 28 is what its places give
listed : (numbers : List (Option ℤ)) → length numbers ≡ 28 → numbers ≡ map (number_found numbers) all_number_keys
listed numbers many = fill_by_all (λ i. get_or numbers i None) numbers 28 None many (λ i below. refl)

same_word : {X : Type 0} (a b : Option X) → option_map Some a ≡ option_map Some b → a ≡ b
same_word None None e = refl
same_word (Some x) (Some y) e = cc e
same_word None (Some y) e = cc e
same_word (Some x) None e = cc e

same_padding : (o : Option (List ℕ)) (p : Option Bool) → option_map padding_of o ≡ option_map Some p → unwrap_or p false ≡ unwrap_or (option_and_then padding_of o) false
same_padding None None e = refl
same_padding None (Some p) e = cc e
same_padding (Some w) None e = cc e
same_padding (Some w) (Some p) e = let g : padding_of w ≡ Some p = cc e in rw g refl

values_given : (rows : List (List (List ℕ))) (found : Found) → Holds found rows
    → all_values found ≡ refused_or (first_some (key_faults rows)) (values_for rows)
unfolding all_values
values_given rows found held = by (first_some (map (missing rows) (map Number all_number_keys))) refl
  where
    numbers : all_numbers all_number_keys found.numbers ≡ refused_or (first_some (map (missing rows) (map Number all_number_keys))) (map (number_for rows) all_number_keys)
    numbers = ap (all_numbers all_number_keys) (listed found.numbers held.many) ∙ numbers_given rows (number_found found.numbers) all_number_keys held.numbers

    padding : unwrap_or found.padding false ≡ unwrap_or (option_and_then padding_of (word_for Padding rows)) false
    padding = same_padding (word_for Padding rows) found.padding held.padding

    behind : List (Option RuleError)
    behind = map (missing rows) (map Text all_text_keys) ++ keep_faults rows

    further : length (also_found found.also also.Keep) ≡ length (words_for (Also also.Keep) rows)
    further = sym (ap length (held.also also.Keep)) ∙ length-map (words_for (Also also.Keep) rows) layer_by

    by : (o : Option RuleError) → first_some (map (missing rows) (map Number all_number_keys)) ≡ o
        → all_values found ≡ refused_or (first_some (key_faults rows)) (values_for rows)
    by (Some e) first = rw (numbers, first, first_stays (map (missing rows) (map Number all_number_keys)) behind e first) refl
    by None first =
        rw (numbers, first, later_first (map (missing rows) (map Number all_number_keys)) behind first, ← same_word _ _ (held.texts text.Top), ← same_word _ _ (held.texts text.FillLib), ← same_word _ _ (held.texts text.FillCell), ← same_word _ _ (held.texts text.FillTop), further, ← held.also also.Metal, ← held.also also.Fill, ← held.also also.Keep, padding)
        (texts_given (map (number_for rows) all_number_keys) (word_for (Text text.Top) rows) (word_for (Text text.FillLib) rows) (word_for (Text text.FillCell) rows) (word_for (Text text.FillTop) rows) _ _ _ _ _ _ _
        (pair_given (word_for (Optional KeepLayer) rows) (word_for (Optional KeepDatatype) rows) (optional_found found.optionals KeepLayer) (optional_found found.optionals KeepDatatype) (nat_lt 0 (length (words_for (Also also.Keep) rows))) (held.optionals KeepLayer) (held.optionals KeepDatatype)))

pub checked_given : (values : Values) → checked values ≡ judged values
unfolding checked densities_and_cells rect_with grid_with raster_with
checked_given values = by (int_lt (value_of values number.Max) (value_of values number.Min)) (bytes_eq values.fill_top values.fill_cell) (is_rect (frame_of values.numbers)) (is_grid (whole_windows values.numbers))
    (keeps_pitch (raster_of values.numbers) (value_of values number.FillSpacing)) (has_few_places (raster_of values.numbers))
  where
    by : (less same rect grid pitch few : Bool)
        → (let fine : Result ⊤ RuleError = Ok tt in (if less then Err (BadRule (Number number.Max)) else if same then Err (BadRule (Text text.FillTop)) else fine) >>= λ _.
        ok_or (if rect then Some (frame_of values.numbers) else None) BadRect >>= λ _. ok_or (if grid then Some (whole_windows values.numbers) else None) BadWindows >>= λ _.
        (if pitch then (if few then Ok (raster_of values.numbers) else Err TooManyPlaces) else Err BadPitch) >>= λ _. Ok values)
        ≡ refused_or (first_some (fault_if less (BadRule (Number number.Max)) ∷ fault_if same (BadRule (Text text.FillTop)) ∷ fault_unless rect BadRect ∷ fault_unless grid BadWindows ∷ fault_unless pitch BadPitch ∷ fault_unless few TooManyPlaces ∷ [])) values
    by true same rect grid pitch few = refl
    by false true rect grid pitch few = refl
    by false false false grid pitch few = refl
    by false false true false pitch few = refl
    by false false true true false few = refl
    by false false true true true false = refl
    by false false true true true true = refl

chip_given : (values : Values) → checked_chip values ≡ refused_or (first_some (chip_faults values)) values
unfolding checked_chip densities_and_cells rect_with
chip_given values = by (int_lt (value_of values number.Max) (value_of values number.Min)) (bytes_eq values.fill_top values.fill_cell) (is_rect (frame_of values.numbers))
    (is_axis (whole_windows values.numbers).across && is_axis (whole_windows values.numbers).up) (keeps_pitch (raster_of values.numbers) (value_of values number.FillSpacing))
  where
    by : (less same rect axes pitch : Bool)
        → (let fine : Result ⊤ RuleError = Ok tt in (if less then Err (BadRule (Number number.Max)) else if same then Err (BadRule (Text text.FillTop)) else fine) >>= λ _.
        ok_or (if rect then Some (frame_of values.numbers) else None) BadRect >>= λ _.
        (if axes then (if pitch then Ok values else Err BadPitch) else Err BadWindows))
        ≡ refused_or (first_some (fault_if less (BadRule (Number number.Max)) ∷ fault_if same (BadRule (Text text.FillTop)) ∷ fault_unless rect BadRect ∷ fault_unless axes BadWindows ∷ fault_unless pitch BadPitch ∷ [])) values
    by true same rect axes pitch = refl
    by false true rect axes pitch = refl
    by false false false axes pitch = refl
    by false false true false pitch = refl
    by false false true true false = refl
    by false false true true true = refl

-- two cells of two names
pub names_apart : (values : Values) (done : ⊤) → densities_and_cells values ≡ Ok done → bytes_eq values.fill_top values.fill_cell ≡ false
unfolding densities_and_cells
names_apart values done e = by (int_lt (value_of values number.Max) (value_of values number.Min)) (bytes_eq values.fill_top values.fill_cell) e
  where
    by : (less same : Bool) → (let fine : Result ⊤ RuleError = Ok tt in if less then Err (BadRule (Number number.Max)) else if same then Err (BadRule (Text text.FillTop)) else fine) ≡ Ok done → same ≡ false
    by true same e = cc e
    by false true e = cc e
    by false false e = refl

-- a chip's values that are kept have no fault
pub chip_faultless : (values : Values) → checked_chip values ≡ Ok values → first_some (chip_faults values) ≡ None
chip_faultless values e = (not_refused _ values values (sym (chip_given values) ∙ e)).0

-- a file with a record at fault
pub record_refused : (file : List ℕ) (e : RuleError) → first_some (each_fault record_fault [] (rows_of file)) ≡ Some e → values_in file ≡ Err e
unfolding values_in
record_refused file e first = rw (first_stays (each_fault record_fault [] (rows_of file)) (key_faults (rows_of file)) e first) refl

-- a file with none
pub values_found : (file : List ℕ) (found : Found) → first_some (each_fault record_fault [] (rows_of file)) ≡ None → Holds found (rows_of file)
    → values_in file ≡ all_values found
unfolding values_in
values_found file found sound held =
    rw (later_first (each_fault record_fault [] (rows_of file)) (key_faults (rows_of file)) sound) (sym (values_given (rows_of file) found held))

-- the values of a file are asked what rules are asked, or what a chip's are
pub rules_given : (file : List ℕ) → rules_of file ≡ (values_in file >>= checked)
unfolding rules_of values_in
rules_given file =
    asked_in_turn (entry_faults (rows_of file)) joint_faults (values_for (rows_of file))
    ∙ same_behind (values_in file) judged checked (λ v. sym (checked_given v))

pub chip_rules_given : (file : List ℕ) → chip_of file ≡ (values_in file >>= checked_chip)
unfolding chip_of values_in
chip_rules_given file =
    asked_in_turn (entry_faults (rows_of file)) chip_faults (values_for (rows_of file))
    ∙ same_behind (values_in file) (λ v. refused_or (first_some (chip_faults v)) v) checked_chip (λ v. sym (chip_given v))
