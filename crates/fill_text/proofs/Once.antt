-- The records of an accepted rule file begin with the names of the keys, each once but those that may stand several times.
use Rattle.std.proofs.Common.{◌≡◌, ◌∙◌, ◌<◌, ◌+◌, ℕ, zero, suc, Bool, true, false, ◌&&◌, cond, List, [], ◌∷◌, ◌++◌, length, get_or, map, Option, Some, None, option_map, ap, sym, subst, refl, arith}
use Rattle.std.specs.Prelude.{bytes_eq, filter, find, is_some, if◌then◌else◌}
use Rattle.std.specs.Option.{is_none, option_or}
use Rattle.std.specs.List.Sorted.{IsPermutation}
use Rattle.std.proofs.lemmas.List.{append-nil, append_assoc, get_or-map, length-append, length-map}
use Rattle.std.proofs.lemmas.List.Elements.{filter-append}
use Rattle.std.proofs.lemmas.List.Folds.{find-append}
use Rattle.std.proofs.lemmas.List.Sorted.{IsPermutation-append_right, IsPermutation-middle, IsPermutation-refl, IsPermutation-sym, IsPermutation-trans, length_permutation}
use Rattle.std.proofs.lemmas.Slice.Eq.{bytes_eq-Decides}
use Rattle.fill_text.specs.Keys.{all_number_keys, also_name, optional_keys, all_text_keys, key_name, key_named, number_rule, required_keys, single_keys}
use Rattle.fill_text.specs.Laws.{ARecordForEachKey, EachKeyStandsOnce, first_fields, is_single, optional_standing, single_records}
use Rattle.fill_text.specs.Refusals.{each_fault, first_some}
use Rattle.fill_text.specs.Rows.{rows_of}
use Rattle.fill_text.specs.Rules.{Values, is_full, layer_by, layers_of, record_fault, word_for, words_for}
use Rattle.fill_text.specs.declared.keys.AlsoKey.{AlsoKey}
use Rattle.fill_text.specs.declared.keys.AlsoKey.TheVariants as also
use Rattle.fill_text.specs.declared.keys.Key.{Key}
use Rattle.fill_text.specs.declared.keys.Key.TheVariants.{Number, Text, Optional, Also, Padding}
use Rattle.fill_text.specs.declared.keys.NumberKey.TheVariants.{FrameX1}
use Rattle.fill_text.specs.declared.keys.OptionalKey.TheVariants.{KeepLayer, KeepDatatype}
use Rattle.fill_text.specs.declared.keys.TextKey.TheVariants as text
use Rattle.fill_text.proofs.FirstFaults.{first_none}
use Rattle.fill_text.proofs.Holding.{none_there, word_added, word_kept}
use Rattle.fill_text.proofs.Names.{another_name, its_name, named_by, same_key}
use Rattle.fill_text.proofs.KeyNames.{index_below, key_at}
use Rattle.fill_text.proofs.Standing.{accepted, layers_listed, sound_record}

-- one more in a part behind is one more in the whole
behind : (front : List (List ℕ)) (x : List ℕ) (part new : List (List ℕ)) → IsPermutation (x ∷ part) new → IsPermutation (x ∷ (front ++ part)) (front ++ new)
behind front x part new p =
    let forward = IsPermutation-sym (front ++ x ∷ part) (x ∷ (front ++ part)) (IsPermutation-middle front x part) in
    IsPermutation-trans (x ∷ (front ++ part)) (front ++ x ∷ part) (front ++ new) forward (IsPermutation-append_right front (x ∷ part) new p)

-- a key of this name is among the keys; the keys without the first of this name; no name stands twice
abbrev has : List ℕ → List Key → Bool
has name [] = false
has name (k ∷ keys) = if bytes_eq name (key_name k) then true else has name keys

abbrev without : List ℕ → List Key → List Key
without name [] = []
without name (k ∷ keys) = if bytes_eq name (key_name k) then keys else k ∷ without name keys

abbrev differ : List Key → Bool
differ [] = true
differ (k ∷ keys) = if has (key_name k) keys then false else differ keys

differ_parts : (k : Key) (keys : List Key) → differ (k ∷ keys) ≡ true → (has (key_name k) keys ≡ false) × (differ keys ≡ true)
differ_parts k keys e = by (has (key_name k) keys) e
  where
    by : (b : Bool) → (if b then false else differ keys) ≡ true → (b ≡ false) × (differ keys ≡ true)
    by true e = cc e
    by false e = (refl, e)

-- the key of this name passes: then it is one more of those that pass
taken_out : (s : Key → Bool) (name : List ℕ) (keys : List Key) → has name keys ≡ true → ((k : Key) → bytes_eq name (key_name k) ≡ true → s k ≡ true)
    → IsPermutation (name ∷ map key_name (filter s (without name keys))) (map key_name (filter s keys))
taken_out s name [] e passes = cc e
taken_out s name (k ∷ keys) e passes = by (bytes_eq name (key_name k)) (bytes_eq-Decides name (key_name k)).0 (passes k) (s k) refl e (taken_out s name keys)
  where
    by : (b : Bool) → (b ≡ true → name ≡ key_name k) → (b ≡ true → s k ≡ true) → (d : Bool) → s k ≡ d → (if b then true else has name keys) ≡ true
        → (has name keys ≡ true → ((k : Key) → bytes_eq name (key_name k) ≡ true → s k ≡ true) → IsPermutation (name ∷ map key_name (filter s (without name keys))) (map key_name (filter s keys)))
        → IsPermutation (name ∷ map key_name (filter s (if b then keys else k ∷ without name keys))) (map key_name (if d then k ∷ filter s keys else filter s keys))
    by true same this true t e later = rw (← same refl) (IsPermutation-refl (name ∷ map key_name (filter s keys)))
    by true same this false t e later = let h : false ≡ true = sym t ∙ this refl in cc h
    by false same this true t e later = rw t (behind (key_name k ∷ []) name (map key_name (filter s (without name keys))) (map key_name (filter s keys)) (later e passes))
    by false same this false t e later = rw t (later e passes)

still_out : (name other : List ℕ) (keys : List Key) → has other keys ≡ false → has other (without name keys) ≡ false
still_out name other [] e = refl
still_out name other (k ∷ keys) e = by (bytes_eq name (key_name k)) (bytes_eq other (key_name k)) refl e (still_out name other keys)
  where
    by : (b d : Bool) → bytes_eq other (key_name k) ≡ d → (if d then true else has other keys) ≡ false → (has other keys ≡ false → has other (without name keys) ≡ false)
        → has other (if b then keys else k ∷ without name keys) ≡ false
    by b true t e later = cc e
    by true false t e later = e
    by false false t e later = rw t (later e)

still_differ : (name : List ℕ) (keys : List Key) → differ keys ≡ true → differ (without name keys) ≡ true
still_differ name [] e = refl
still_differ name (k ∷ keys) e = let (apart, more) = differ_parts k keys e in by (bytes_eq name (key_name k)) apart more (still_differ name keys more)
  where
    by : (b : Bool) → has (key_name k) keys ≡ false → differ keys ≡ true → differ (without name keys) ≡ true → differ (if b then keys else k ∷ without name keys) ≡ true
    by true apart more later = more
    by false apart more later = rw (still_out name (key_name k) keys apart) later

gone : (name : List ℕ) (keys : List Key) → differ keys ≡ true → has name (without name keys) ≡ false
gone name [] e = refl
gone name (k ∷ keys) e = let (apart, more) = differ_parts k keys e in by (bytes_eq name (key_name k)) refl apart (gone name keys more)
  where
    by : (b : Bool) → bytes_eq name (key_name k) ≡ b → has (key_name k) keys ≡ false → has name (without name keys) ≡ false → has name (if b then keys else k ∷ without name keys) ≡ false
    by true t apart later = rw ((bytes_eq-Decides name (key_name k)).0 t) apart
    by false t apart later = rw t later

others_stay : (name other : List ℕ) (keys : List Key) → (other ≡ name → ⊥) → has other (without name keys) ≡ has other keys
others_stay name other [] differs = refl
others_stay name other (k ∷ keys) differs = by (bytes_eq name (key_name k)) (bytes_eq-Decides name (key_name k)).0 (bytes_eq other (key_name k)) (bytes_eq-Decides other (key_name k)).0 refl (others_stay name other keys differs)
  where
    by : (b : Bool) → (b ≡ true → name ≡ key_name k) → (d : Bool) → (d ≡ true → other ≡ key_name k) → bytes_eq other (key_name k) ≡ d
        → has other (without name keys) ≡ has other keys → has other (if b then keys else k ∷ without name keys) ≡ (if d then true else has other keys)
    by true same true also t later = absurd (differs (also refl ∙ sym (same refl)))
    by true same false also t later = refl
    by false same true also t later = rw t refl
    by false same false also t later = rw t later

-- what the keys that are left are, behind the records before
record Left (before : List (List (List ℕ))) (left : List Key) : Type 0 where
  apart : differ left ≡ true
  fresh : (key : Key) → has (key_name key) left ≡ is_single (Some key) && is_none (word_for key before)

left_after : (before : List (List (List ℕ))) (fields : List (List ℕ)) (key : Key) (left : List Key) → key_named (get_or fields 0 []) ≡ Some key → is_single (Some key) ≡ true → word_for key before ≡ None
    → Left before left → Left (before ++ fields ∷ []) (without (key_name key) left)
left_after before fields key left named single new is = record {
  apart = still_differ (key_name key) left is.apart;
  fresh = λ other. by other (bytes_eq (get_or fields 0 []) (key_name other)) refl;
}
  where
    by : (other : Key) (b : Bool) → bytes_eq (get_or fields 0 []) (key_name other) ≡ b → has (key_name other) (without (key_name key) left) ≡ is_single (Some other) && is_none (word_for other (before ++ fields ∷ []))
    by other true t =
        let same = same_key (get_or fields 0 []) key other named t in
        rw (same, single, word_added before fields key (its_name (get_or fields 0 []) key named) new) (gone (key_name key) left is.apart)
    by other false t =
        let differs : key_name other ≡ key_name key → ⊥ = λ e. let h : false ≡ true = sym t ∙ ap (bytes_eq (get_or fields 0 [])) e ∙ its_name (get_or fields 0 []) key named in cc h in
        rw (word_kept before fields other t) (others_stay (key_name key) (key_name other) left differs ∙ is.fresh other)

-- a record of a key that may stand several times takes none of them
left_still : (before : List (List (List ℕ))) (fields : List (List ℕ)) (key : Key) (left : List Key) → key_named (get_or fields 0 []) ≡ Some key → is_single (Some key) ≡ false
    → Left before left → Left (before ++ fields ∷ []) left
left_still before fields key left named several is = record { apart = is.apart; fresh = λ other. by other (bytes_eq (get_or fields 0 []) (key_name other)) refl }
  where
    by : (other : Key) (b : Bool) → bytes_eq (get_or fields 0 []) (key_name other) ≡ b → has (key_name other) left ≡ is_single (Some other) && is_none (word_for other (before ++ fields ∷ []))
    by other true t = let same = same_key (get_or fields 0 []) key other named t in rw (same, several) (rw several at (is.fresh key))
    by other false t = rw (word_kept before fields other t) (is.fresh other)

-- the key stands in the records
abbrev in_records : List (List (List ℕ)) → Key → Bool
in_records rows key = is_some (word_for key rows)

none_stand : (s : Key → Bool) (keys : List Key) → ((key : Key) → has (key_name key) keys ≡ true → s key ≡ false) → filter s keys ≡ []
none_stand s [] none = refl
none_stand s (k ∷ keys) none =
    let this : s k ≡ false = none k (rw ((bytes_eq-Decides (key_name k) (key_name k)).1 refl) refl) in
    rw this (none_stand s keys (λ key inside. none key (by (bytes_eq (key_name key) (key_name k)) inside)))
  where
    by : {c : Bool} (b : Bool) → c ≡ true → (if b then true else c) ≡ true
    by true e = refl
    by false e = e

still_stands : (rows more : List (List (List ℕ))) (key : Key) (word : List ℕ) → word_for key rows ≡ Some word → in_records (rows ++ more) key ≡ true
still_stands rows more key word e =
    ap (λ (o : Option (List (List ℕ))). is_some (option_map (λ (r : List (List ℕ)). get_or r 1 []) o)) (find-append (λ r. bytes_eq (get_or r 0 []) (key_name key)) rows more)
    ∙ by (find (λ r. bytes_eq (get_or r 0 []) (key_name key)) rows) e
  where
    by : (o : Option (List (List ℕ))) → option_map (λ (r : List (List ℕ)). get_or r 1 []) o ≡ Some word
        → is_some (option_map (λ (r : List (List ℕ)). get_or r 1 []) (option_or o (find (λ r. bytes_eq (get_or r 0 []) (key_name key)) more))) ≡ true
    by None e = cc e
    by (Some r) e = refl

not_before : (rows : List (List (List ℕ))) (key : Key) → is_single (Some key) ≡ true → is_full key rows ≡ false → word_for key rows ≡ None
not_before rows (Number key) single stands = none_there (word_for (Number key) rows) stands
not_before rows (Text key) single stands = none_there (word_for (Text key) rows) stands
not_before rows (Optional key) single stands = none_there (word_for (Optional key) rows) stands
not_before rows (Also key) single stands = cc single
not_before rows Padding single stands = none_there (word_for Padding rows) stands

-- the later records begin with the names of the keys that are left and stand
once : (before rest : List (List (List ℕ))) (left : List Key) → first_some (each_fault record_fault before rest) ≡ None → Left before left
    → IsPermutation (first_fields (single_records rest)) (map key_name (filter (in_records (before ++ rest)) left))
once before [] left sound is =
    let none : filter (in_records (before ++ [])) left ≡ [] = none_stand (in_records (before ++ [])) left (λ key inside. rw (append-nil before) (not_there (is_single (Some key)) (word_for key before) (sym (is.fresh key) ∙ inside))) in
    rw none (IsPermutation-refl [])
  where
    not_there : (b : Bool) (o : Option (List ℕ)) → b && is_none o ≡ true → is_some o ≡ false
    not_there b None e = refl
    not_there true (Some w) e = cc e
    not_there false (Some w) e = cc e
once before (fields ∷ rest) left sound is =
    let (this, later) = first_none (record_fault before fields) (each_fault record_fault (before ++ fields ∷ []) rest) sound in
    let (key, named, two, stands, fits) = sound_record before fields this in
    subst (λ (o : Option Key). IsPermutation (first_fields (cond (is_single o) (fields ∷ single_records rest) (single_records rest))) (map key_name (filter (in_records (before ++ fields ∷ rest)) left))) (sym named)
    (by key named stands (is_single (Some key)) refl (λ keys left_are. once (before ++ fields ∷ []) rest keys later left_are))
  where
    whole : before ++ fields ∷ [] ++ rest ≡ before ++ fields ∷ rest
    whole = append_assoc before (fields ∷ []) rest

    by : (key : Key) → key_named (get_or fields 0 []) ≡ Some key → is_full key before ≡ false → (b : Bool) → is_single (Some key) ≡ b
        → ((keys : List Key) → Left (before ++ fields ∷ []) keys → IsPermutation (first_fields (single_records rest)) (map key_name (filter (in_records (before ++ fields ∷ [] ++ rest)) keys)))
        → IsPermutation (first_fields (cond b (fields ∷ single_records rest) (single_records rest))) (map key_name (filter (in_records (before ++ fields ∷ rest)) left))
    by key named stands true single later =
        let new = not_before before key single stands in
        let name : get_or fields 0 [] ≡ key_name key = named_by (get_or fields 0 []) key named in
        let inside : has (key_name key) left ≡ true = rw (single, new) at (is.fresh key) in
        let added = word_added before fields key (its_name (get_or fields 0 []) key named) new in
        let there : in_records (before ++ fields ∷ rest) key ≡ true = rw whole at (still_stands (before ++ fields ∷ []) rest key (get_or fields 1 []) added) in
        let behind_it = rw whole at (later (without (key_name key) left) (left_after before fields key left named single new is)) in
        let front = IsPermutation-append_right (key_name key ∷ []) (first_fields (single_records rest)) (map key_name (filter (in_records (before ++ fields ∷ rest)) (without (key_name key) left))) behind_it in
        rw name (IsPermutation-trans (key_name key ∷ first_fields (single_records rest)) (key_name key ∷ map key_name (filter (in_records (before ++ fields ∷ rest)) (without (key_name key) left))) (map key_name (filter (in_records (before ++ fields ∷ rest)) left)) front
        (taken_out (in_records (before ++ fields ∷ rest)) (key_name key) left inside (λ k test. rw (same_key (get_or fields 0 []) key k named (rw name test)) there)))
    by key named stands false several later = rw whole at (later left (left_still before fields key left named several is))

has_at : (keys : List Key) (i : ℕ) (d : Key) → i < length keys → has (key_name (get_or keys i d)) keys ≡ true
has_at [] i d below = absurd (omega arith)
has_at (k ∷ keys) zero d below = rw ((bytes_eq-Decides (key_name k) (key_name k)).1 refl) refl
has_at (k ∷ keys) (suc i) d below = by (bytes_eq (key_name (get_or keys i d)) (key_name k)) (has_at keys i d (omega arith))
  where
    by : (b : Bool) → has (key_name (get_or keys i d)) keys ≡ true → (if b then true else has (key_name (get_or keys i d)) keys) ≡ true
    by true later = refl
    by false later = later

has_front : (name : List ℕ) (keys more : List Key) → has name keys ≡ true → has name (keys ++ more) ≡ true
has_front name [] more e = cc e
has_front name (k ∷ keys) more e = by (bytes_eq name (key_name k)) e (has_front name keys more)
  where
    by : (b : Bool) → (if b then true else has name keys) ≡ true → (has name keys ≡ true → has name (keys ++ more) ≡ true) → (if b then true else has name (keys ++ more)) ≡ true
    by true e later = refl
    by false e later = later e

has_behind : (name : List ℕ) (front keys : List Key) → has name keys ≡ true → has name (front ++ keys) ≡ true
has_behind name [] keys e = e
has_behind name (k ∷ front) keys e = by (bytes_eq name (key_name k)) (has_behind name front keys e)
  where
    by : (b : Bool) → has name (front ++ keys) ≡ true → (if b then true else has name (front ++ keys)) ≡ true
    by true later = refl
    by false later = later

has_all : (key : Key) → has (key_name key) single_keys ≡ is_single (Some key) && true
has_all (Number key) =
    let there : get_or (map Number all_number_keys) (number_rule key).index (Number FrameX1) ≡ Number key = get_or-map Number all_number_keys (number_rule key).index FrameX1 (Number FrameX1) (index_below key) ∙ ap Number (key_at key) in
    has_front (key_name (Number key)) (map Number all_number_keys) (map Text all_text_keys ++ optional_keys)
    (rw there at (has_at (map Number all_number_keys) (number_rule key).index (Number FrameX1) (index_below key)))
has_all (Text text.Top) = refl
has_all (Text text.FillLib) = refl
has_all (Text text.FillCell) = refl
has_all (Text text.FillTop) = refl
has_all (Optional KeepLayer) = refl
has_all (Optional KeepDatatype) = refl
has_all (Also also.Metal) = refl
has_all (Also also.Fill) = refl
has_all (Also also.Keep) = refl
has_all Padding = refl

all_pass : {K : Type 0} (s : Key → Bool) (f : K → Key) (keys : List K) → ((k : K) → s (f k) ≡ true) → filter s (map f keys) ≡ map f keys
all_pass s f [] passes = refl
all_pass s f (k ∷ keys) passes = rw (passes k) (ap (λ ks. f k ∷ ks) (all_pass s f keys passes))

both : (a b c d : List Key) → a ≡ c → b ≡ d → a ++ b ≡ c ++ d
both a b c d e f = rw (e, f) refl

pub each_once : EachKeyStandsOnce
each_once file values e =
    let is = accepted file values e in
    let s : Key → Bool = in_records (rows_of file) in
    let numbers = all_pass s Number all_number_keys (λ k. is.all (Number k) tt) in
    let texts = all_pass s Text all_text_keys (λ k. is.all (Text k) tt) in
    let required : filter s required_keys ≡ required_keys = filter-append s (map Number all_number_keys) (map Text all_text_keys) ∙ both _ _ _ _ numbers texts in
    let all : filter s single_keys ≡ required_keys ++ optional_standing (rows_of file) = filter-append s required_keys optional_keys ∙ ap (λ ks. ks ++ optional_standing (rows_of file)) required in
    subst (λ (ks : List Key). IsPermutation (first_fields (single_records (rows_of file))) (map key_name ks)) all (once [] (rows_of file) single_keys is.sound (record { apart = refl; fresh = has_all }))

abbrev many : AlsoKey → List (List (List ℕ)) → ℕ
many key rows = length (words_for (Also key) rows)

-- each record is of a key that stands once, or adds a layer
counted : (before rest : List (List (List ℕ))) → first_some (each_fault record_fault before rest) ≡ None
    → length rest ≡ length (single_records rest) + (many also.Metal rest + many also.Fill rest + many also.Keep rest)
counted before [] sound = refl
counted before (fields ∷ rest) sound =
    let (this, later) = first_none (record_fault before fields) (each_fault record_fault (before ++ fields ∷ []) rest) sound in
    let (key, named, two, stands, fits) = sound_record before fields this in
    by key named (is_single (Some key)) refl (counted (before ++ fields ∷ []) rest later)
  where
    second : List (List ℕ) → List ℕ
    second r = get_or r 1 []

    named_as : AlsoKey → List (List (List ℕ))
    named_as key = filter (λ r. bytes_eq (get_or r 0 []) (also_name key)) rest

    other : (key : Key) (k : AlsoKey) → key_named (get_or fields 0 []) ≡ Some key → (Also k ≡ key → ⊥) → bytes_eq (get_or fields 0 []) (also_name k) ≡ false
    other key k = another_name (get_or fields 0 []) key (Also k)

    this_one : (k : AlsoKey) → key_named (get_or fields 0 []) ≡ Some (Also k) → bytes_eq (get_or fields 0 []) (also_name k) ≡ true
    this_one k = its_name (get_or fields 0 []) (Also k)

    IsCount : Bool → Bool → Bool → Bool → Type 0
    IsCount s a b c = suc (length rest) ≡ length (cond s (fields ∷ single_records rest) (single_records rest))
        + (length (map second (cond a (fields ∷ named_as also.Metal) (named_as also.Metal))) + length (map second (cond b (fields ∷ named_as also.Fill) (named_as also.Fill))) + length (map second (cond c (fields ∷ named_as also.Keep) (named_as also.Keep))))

    as_tested : (s a b c : Bool) → is_single (key_named (get_or fields 0 [])) ≡ s → bytes_eq (get_or fields 0 []) (also_name also.Metal) ≡ a → bytes_eq (get_or fields 0 []) (also_name also.Fill) ≡ b
        → bytes_eq (get_or fields 0 []) (also_name also.Keep) ≡ c → IsCount s a b c
        → IsCount (is_single (key_named (get_or fields 0 []))) (bytes_eq (get_or fields 0 []) (also_name also.Metal)) (bytes_eq (get_or fields 0 []) (also_name also.Fill)) (bytes_eq (get_or fields 0 []) (also_name also.Keep))
    as_tested s a b c e f g h is = rw (e, f, g, h) is

    by : (key : Key) → key_named (get_or fields 0 []) ≡ Some key → (s : Bool) → is_single (Some key) ≡ s
        → length rest ≡ length (single_records rest) + (length (map second (named_as also.Metal)) + length (map second (named_as also.Fill)) + length (map second (named_as also.Keep)))
        → IsCount (is_single (key_named (get_or fields 0 []))) (bytes_eq (get_or fields 0 []) (also_name also.Metal)) (bytes_eq (get_or fields 0 []) (also_name also.Fill)) (bytes_eq (get_or fields 0 []) (also_name also.Keep))
    by key named true single e =
        let none : (k : AlsoKey) → bytes_eq (get_or fields 0 []) (also_name k) ≡ false = λ k. other key k named (λ q. let h : false ≡ true = ap (λ (x : Key). is_single (Some x)) q ∙ single in cc h) in
        as_tested true false false false (ap is_single named ∙ single) (none also.Metal) (none also.Fill) (none also.Keep) (omega (arith, e))
    by (Also also.Metal) named false several e = as_tested false true false false (ap is_single named) (this_one also.Metal named) (other _ also.Fill named (λ q. cc q)) (other _ also.Keep named (λ q. cc q)) (omega (arith, e))
    by (Also also.Fill) named false several e = as_tested false false true false (ap is_single named) (other _ also.Metal named (λ q. cc q)) (this_one also.Fill named) (other _ also.Keep named (λ q. cc q)) (omega (arith, e))
    by (Also also.Keep) named false several e = as_tested false false false true (ap is_single named) (other _ also.Metal named (λ q. cc q)) (other _ also.Fill named (λ q. cc q)) (this_one also.Keep named) (omega (arith, e))
    by (Number key) named false several e = cc several
    by (Text key) named false several e = cc several
    by (Optional key) named false several e = cc several
    by Padding named false several e = cc several

pub as_many : ARecordForEachKey
as_many file values e =
    let is = accepted file values e in
    let rows = rows_of file in
    let standing = required_keys ++ optional_standing rows in
    let singles : length (single_records rows) ≡ 32 + length (optional_standing rows) =
    sym (length-map (single_records rows) (λ fields. get_or fields 0 []))
    ∙ (sym (length_permutation (first_fields (single_records rows)) (map key_name standing) (each_once file values e))
    ∙ (length-map standing key_name ∙ length-append required_keys (optional_standing rows))) in
    let layers : (k : AlsoKey) → many k rows ≡ length (layers_of values k) =
    λ k. sym (length-map (words_for (Also k) rows) layer_by) ∙ ap length (sym (layers_listed rows k) ∙ ap (λ (v : Values). layers_of v k) is.same) in
    counted [] rows is.sound ∙ rw (singles, layers also.Metal, layers also.Fill, layers also.Keep) refl
