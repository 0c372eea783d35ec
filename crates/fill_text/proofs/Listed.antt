-- The layers of a key that may stand several times are what its records write, in their order, and at most 63.
use Rattle.std.proofs.Common.{◌≡◌, ◌∙◌, ◌<◌, ◌≤◌, ◌+◌, ℕ, Bool, true, false, cond, List, [], ◌∷◌, ◌++◌, length, get_or, map, Option, Some, None, ap, sym, subst, refl, arith}
use Rattle.std.specs.Prelude.{bytes_eq, nat_le}
use Rattle.std.specs.List.{AllZip}
use Rattle.std.proofs.lemmas.Bool.Decides.{nat_tests}
use Rattle.std.proofs.lemmas.List.{append-nil, append_assoc, length-append, length-map}
use Rattle.fill_text.specs.Keys.{also_name}
use Rattle.fill_text.specs.Laws.{EachLayerIsWritten, WritesLayer, records_of}
use Rattle.fill_text.specs.Numbers.{layer_numbers_of}
use Rattle.fill_text.specs.Refusals.{each_fault, first_some}
use Rattle.fill_text.specs.Rows.{rows_of}
use Rattle.fill_text.specs.Rules.{Values, also_fault, is_full, layer_by, layers_for, layers_of, record_fault, value_fault, words_for}
use Rattle.fill_text.specs.declared.keys.AlsoKey.{AlsoKey}
use Rattle.fill_text.specs.declared.keys.Key.{Key}
use Rattle.fill_text.specs.declared.keys.Key.TheVariants.{Also}
use Rattle.fill_text.proofs.FirstFaults.{first_none}
use Rattle.fill_text.proofs.Holding.{layers_added, layers_kept}
use Rattle.fill_text.proofs.Names.{named_by, same_key}
use Rattle.fill_text.proofs.Standing.{accepted, layers_listed, sound_record, two_fields}

-- a record of the key that breaks no rule: it writes a layer, and at most 62 stand before it
layer_here : (key : AlsoKey) (before : List (List (List ℕ))) (fields : List (List ℕ)) → record_fault before fields ≡ None → bytes_eq (get_or fields 0 []) (also_name key) ≡ true
    → WritesLayer key fields (layer_by (get_or fields 1 [])) × (length (layers_for before key) < 63)
layer_here key before fields sound test =
    let (found, named, two, stands, fits) = sound_record before fields sound in
    let same : Also key ≡ found = same_key (get_or fields 0 []) found (Also key) named test in
    let name : get_or fields 0 [] ≡ also_name key = named_by (get_or fields 0 []) (Also key) (rw same named) in
    let written = by (length before + 1) (layer_numbers_of (get_or fields 1 [])) refl (subst (λ (k : Key). value_fault (length before + 1) k (get_or fields 1 []) ≡ None) (sym same) fits) in
    let few = subst (λ (k : Key). is_full k before ≡ false) (sym same) stands in (
      (get_or fields 1 [], two_fields fields two ∙ ap (λ (w : List ℕ). w ∷ get_or fields 1 [] ∷ []) name, written),
      rw (length-map (words_for (Also key) before) layer_by) (below (length (words_for (Also key) before)) few),
    )
  where
    by : (line : ℕ) (o : Option (ℕ × ℕ)) → layer_numbers_of (get_or fields 1 []) ≡ o → also_fault line key o ≡ None
        → layer_numbers_of (get_or fields 1 []) ≡ Some ((layer_by (get_or fields 1 [])).layer, (layer_by (get_or fields 1 [])).data_type)
    by line None e fits = cc fits
    by line (Some p) e fits = rw e refl

    below : (n : ℕ) → nat_le 63 n ≡ false → n < 63
    below n test = grind (arith, nat_tests)

each_written : (key : AlsoKey) (before rest : List (List (List ℕ))) → first_some (each_fault record_fault before rest) ≡ None
    → AllZip (WritesLayer key) (records_of key rest) (layers_for rest key)
each_written key before [] sound = tt
each_written key before (fields ∷ rest) sound =
    let (this, later) = first_none (record_fault before fields) (each_fault record_fault (before ++ fields ∷ []) rest) sound in
    by (bytes_eq (get_or fields 0 []) (also_name key)) (λ test. (layer_here key before fields this test).0) (each_written key (before ++ fields ∷ []) rest later)
  where
    by : (b : Bool) → (b ≡ true → WritesLayer key fields (layer_by (get_or fields 1 []))) → AllZip (WritesLayer key) (records_of key rest) (layers_for rest key)
        → AllZip (WritesLayer key) (cond b (fields ∷ records_of key rest) (records_of key rest)) (map layer_by (map (λ r. get_or r 1 []) (cond b (fields ∷ records_of key rest) (records_of key rest))))
    by true this later = (this refl, later)
    by false this later = later

at_most : (key : AlsoKey) (before rest : List (List (List ℕ))) → first_some (each_fault record_fault before rest) ≡ None → length (layers_for before key) ≤ 63
    → length (layers_for (before ++ rest) key) ≤ 63
at_most key before [] sound few = rw (append-nil before) few
at_most key before (fields ∷ rest) sound few =
    let (this, later) = first_none (record_fault before fields) (each_fault record_fault (before ++ fields ∷ []) rest) sound in
    let whole = append_assoc before (fields ∷ []) rest in
    rw whole at (at_most key (before ++ fields ∷ []) rest later (by (bytes_eq (get_or fields 0 []) (also_name key)) refl (λ test. (layer_here key before fields this test).1)))
  where
    by : (b : Bool) → bytes_eq (get_or fields 0 []) (also_name key) ≡ b → (bytes_eq (get_or fields 0 []) (also_name key) ≡ true → length (layers_for before key) < 63)
        → length (layers_for (before ++ fields ∷ []) key) ≤ 63
    by true test less = let h = less test in rw (layers_added before fields key test, length-append (layers_for before key) (layer_by (get_or fields 1 []) ∷ [])) (omega (arith, h))
    by false test less = rw (layers_kept before fields key test) few

pub each_layer : EachLayerIsWritten
each_layer file values e key =
    let is = accepted file values e in
    let layers : layers_for (rows_of file) key ≡ layers_of values key = sym (layers_listed (rows_of file) key) ∙ ap (λ (v : Values). layers_of v key) is.same in
    rw (← layers) (each_written key [] (rows_of file) is.sound, at_most key [] (rows_of file) is.sound (omega arith))
