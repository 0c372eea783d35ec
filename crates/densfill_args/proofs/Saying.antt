-- What the rows of a subcommand say, once it is known what they hold.
use Rattle.std.proofs.Common.{◌≡◌, ◌≢◌, ◌⊎◌, ◌<◌, ◌≤◌, ◌^◌, ◌∙◌, ℕ, Bool, List, Option, Some, None, true, false, inl, inr, refl, sym, ap, ap₂, subst, option_map, arith}
use Rattle.std.specs.Prelude.{IsSome, bytes_eq, codes, find, slice_get, unwrap_or}
use Rattle.std.specs.Option.{option_and_then}
use Rattle.std.specs.Str.Parse.{IsNumeral, digits_value, without_leading_plus}
use Rattle.clap.proofs.ValueTestLemmas.{Accepts-accepts, accepts-Accepts}
use Rattle.clap.specs.ValueTests.{is_unsigned_in}
use Rattle.clap.specs.Walk.{row_text}
use Rattle.clap.specs.Words.{HasKind, Row, Text, all_of, fault_of, first_of, is_simple, is_simple_and_free, kind_of, one_of, read_as}
use Rattle.clap.specs.declared.builder.value_parser.ValueParser.TheVariants.{Unsigned}
use Rattle.clap.specs.declared.error.Error.{Error}
use Rattle.clap.specs.declared.error.kind.ErrorKind.TheVariants.{OutOfMemory, ValueValidation}
use Rattle.densfill_args.specs.Grammar.{Said, alone, both, check, checking, crew, fill, filling, found_in, joined, joining, limit_by, number_of, numbers_for, numbers_in, part_by, part_if, program_words, said_by, said_in, workers_by}
use Rattle.densfill_args.specs.Lines.{IsRefusalOf, text_of}
use Rattle.densfill_args.specs.declared.Line.{Line}
use Rattle.densfill_args.specs.declared.LineError.{LineError}
use Rattle.densfill_args.specs.declared.LineError.TheVariants.{Memory, Usage}

-- what the rows of `check` say
pub no_check_rules : (rows : List Row) → first_of (codes "RULES") rows ≡ None → None ≡ checking rows
no_check_rules rows none = rw none refl

pub no_check_design : (rows : List Row) (a : Text) → first_of (codes "RULES") rows ≡ Some a → first_of (codes "DESIGN") rows ≡ None → None ≡ checking rows
no_check_design rows a rules none = rw (rules, none) refl

pub bad_part : (rows : List Row) (a b : Text) → first_of (codes "RULES") rows ≡ Some a → first_of (codes "DESIGN") rows ≡ Some b → None ≡ part_if (first_of (codes "part") rows) → None ≡ checking rows
bad_part rows a b rules design none = rw (rules, design, ← none) refl

pub checked : (rows : List Row) (a b : Text) (part : Option (ℕ × ℕ)) → first_of (codes "RULES") rows ≡ Some a → first_of (codes "DESIGN") rows ≡ Some b → Some part ≡ part_if (first_of (codes "part") rows)
    → Some (check a b part) ≡ checking rows
checked rows a b part rules design is = rw (rules, design, ← is) refl

-- what the rows of `join` say
pub no_join_rules : (rows : List Row) → first_of (codes "RULES") rows ≡ None → None ≡ joining rows
no_join_rules rows none = rw none refl

pub no_join_out : (rows : List Row) (a : Text) → first_of (codes "RULES") rows ≡ Some a → first_of (codes "OUT") rows ≡ None → None ≡ joining rows
no_join_out rows a rules none = rw (rules, none) refl

pub no_join_parts : (rows : List Row) (a b : Text) → first_of (codes "RULES") rows ≡ Some a → first_of (codes "OUT") rows ≡ Some b → all_of (codes "PART") rows ≡ None → None ≡ joining rows
no_join_parts rows a b rules out none = rw (rules, out, none) refl

pub joined_is : (rows : List Row) (a b : Text) (ps : List Text) (o : Option Said) → first_of (codes "RULES") rows ≡ Some a → first_of (codes "OUT") rows ≡ Some b → all_of (codes "PART") rows ≡ Some ps → o ≡ joined a b ps → o ≡ joining rows
joined_is rows a b ps o rules out parts is = is ∙ at
  where
    at : joined a b ps ≡ joining rows
    at = rw (rules, out, parts) refl

pub no_first : (make : Text → Text → Said) (a b : Text) (rows : List Row) → first_of a rows ≡ None → None ≡ both make a b rows
no_first make a b rows none = rw none refl

pub no_second : (make : Text → Text → Said) (a b : Text) (rows : List Row) (x : Text) → first_of a rows ≡ Some x → first_of b rows ≡ None
    → None ≡ both make a b rows
no_second make a b rows x some none = rw (some, none) refl

pub both_found : (make : Text → Text → Said) (a b : Text) (rows : List Row) (x y : Text) → first_of a rows ≡ Some x → first_of b rows ≡ Some y
    → Some (make x y) ≡ both make a b rows
both_found make a b rows x y some too = rw (some, too) refl

-- where an argument has no value, it has none that is read as a number either
pub no_number : (id : Text) (rows : List Row) → first_of id rows ≡ None → one_of id rows ≡ None
no_number id rows none = by_row (find (λ r. bytes_eq r.id id) rows) none
  where
    by_row : (o : Option Row) → option_and_then (λ (r : Row). slice_get r.values 0) o ≡ None → option_and_then row_text o ≡ None
    by_row None none = refl
    by_row (Some r) none = rw none refl

pub no_limit : (rows : List Row) → first_of (codes "limit") rows ≡ None → Some None ≡ limit_by (one_of (codes "limit") rows)
no_limit rows none = rw (no_number (codes "limit") rows none) refl

-- where it has one, there is a text that is read
pub some_text : (id : Text) (rows : List Row) (x : Text) → first_of id rows ≡ Some x → (t : Text) × (one_of id rows ≡ Some t)
some_text id rows x some = by_row (find (λ r. bytes_eq r.id id) rows) some
  where
    by_row : (o : Option Row) → option_and_then (λ (r : Row). slice_get r.values 0) o ≡ Some x → (t : Text) × (option_and_then row_text o ≡ Some t)
    by_row None some = absurd (no some)
      where
        no : None ≡ Some x → ⊥
        no h = grind (arith, h)
    by_row (Some r) some = (read_as r.reading x, rw some refl)

-- the test of a number below 2^32 is the one that `u32` makes
number_test : (text : Text) → IsNumeral 10 (without_leading_plus text) → digits_value 10 (without_leading_plus text) < 2 ^ 32 → is_unsigned_in 0 4294967295 text ≡ true
number_test text numeral few =
    Accepts-accepts false (Unsigned 0 4294967295) text (numeral, omega (arith, few), omega arith, omega (arith, few))

number_passed : (text : Text) → is_unsigned_in 0 4294967295 text ≡ true → IsNumeral 10 (without_leading_plus text) × (digits_value 10 (without_leading_plus text) < 2 ^ 32)
number_passed text h =
    let accepted = accepts-Accepts false (Unsigned 0 4294967295) text h in
    let most : digits_value 10 (without_leading_plus text) ≤ 4294967295 = accepted.3 in
    (accepted.0, omega (arith, most))

-- a number as it was read from its text
pub number_read : (t : Text) (n : ℕ) → IsNumeral 10 (without_leading_plus t) × (digits_value 10 (without_leading_plus t) < 2 ^ 32) → n ≡ digits_value 10 (without_leading_plus t)
    → number_of t ≡ Some n
number_read t n numeral is = rw (number_test t numeral.0 numeral.1, is) refl

pub number_unread : (t : Text) → (IsNumeral 10 (without_leading_plus t) × (digits_value 10 (without_leading_plus t) < 2 ^ 32) → ⊥) → number_of t ≡ None
number_unread t none = rw (failed (is_unsigned_in 0 4294967295 t) refl) refl
  where
    failed : (b : Bool) → is_unsigned_in 0 4294967295 t ≡ b → is_unsigned_in 0 4294967295 t ≡ false
    failed true h = absurd (none (number_passed t h))
    failed false h = h

pub limit_read : (o : Option Text) (t : Text) (n : ℕ) → o ≡ Some t → number_of t ≡ Some n → Some (Some n) ≡ limit_by o
limit_read o t n some is = rw (some, is) refl

pub limit_unread : (o : Option Text) (t : Text) → o ≡ Some t → number_of t ≡ None → None ≡ limit_by o
limit_unread o t some none = rw (some, none) refl

-- so of the part
pub no_part_named : (o : Option Text) → o ≡ None → Some None ≡ part_if o
no_part_named o none = rw none refl

pub part_read : (o : Option Text) (t : Text) (k : ℕ × ℕ) → o ≡ Some t → Some k ≡ part_by t → Some (Some k) ≡ part_if o
part_read o t k some is = rw (some, ← is) refl

pub part_unread : (o : Option Text) (t : Text) → o ≡ Some t → None ≡ part_by t → None ≡ part_if o
part_unread o t some none = rw (some, ← none) refl

pub no_workers : (rows : List Row) → first_of (codes "workers") rows ≡ None → Some 1 ≡ workers_by (one_of (codes "workers") rows)
no_workers rows none = rw (no_number (codes "workers") rows none) refl

pub workers_read : (o : Option Text) (t : Text) (n : ℕ) → o ≡ Some t → number_of t ≡ Some n → crew n ≡ workers_by o
workers_read o t n some is = rw (some, is) refl

pub workers_unread : (o : Option Text) (t : Text) → o ≡ Some t → number_of t ≡ None → None ≡ workers_by o
workers_unread o t some none = rw (some, none) refl

-- the two numbers, as far as they are read
pub no_crew : (rows : List Row) → None ≡ workers_by (one_of (codes "workers") rows) → None ≡ numbers_in rows
no_crew rows none = rw (← none) refl

pub no_turns : (rows : List Row) (n : ℕ) → Some n ≡ workers_by (one_of (codes "workers") rows) → None ≡ limit_by (one_of (codes "limit") rows) → None ≡ numbers_in rows
no_turns rows n workers none = rw (← workers, ← none) refl

pub both_numbers : (rows : List Row) (n : ℕ) (limit : Option ℕ) → Some n ≡ workers_by (one_of (codes "workers") rows) → Some limit ≡ limit_by (one_of (codes "limit") rows)
    → Some (n, limit) ≡ numbers_in rows
both_numbers rows n limit workers given = rw (← workers, ← given) refl

-- what the rows of `fill` say, as far as they are found
pub no_rules : (rows : List Row) → first_of (codes "RULES") rows ≡ None → None ≡ filling rows
no_rules rows none = rw none refl

pub no_design : (rows : List Row) (a : Text) → first_of (codes "RULES") rows ≡ Some a → first_of (codes "DESIGN") rows ≡ None → None ≡ filling rows
no_design rows a rules none = rw (rules, none) refl

pub no_script : (rows : List Row) (a b : Text) → first_of (codes "RULES") rows ≡ Some a → first_of (codes "DESIGN") rows ≡ Some b → first_of (codes "SCRIPT") rows ≡ None → None ≡ filling rows
no_script rows a b rules design none = rw (rules, design, none) refl

pub no_out : (rows : List Row) (a b c : Text) → first_of (codes "RULES") rows ≡ Some a → first_of (codes "DESIGN") rows ≡ Some b → first_of (codes "SCRIPT") rows ≡ Some c → first_of (codes "OUT") rows ≡ None → None ≡ filling rows
no_out rows a b c rules design script none = rw (rules, design, script, none) refl

-- the four paths
pub record Named (rows : List Row) (a b c d : Text) : Type 0 where
  pub rules : first_of (codes "RULES") rows ≡ Some a
  pub design : first_of (codes "DESIGN") rows ≡ Some b
  pub script : first_of (codes "SCRIPT") rows ≡ Some c
  pub out : first_of (codes "OUT") rows ≡ Some d

pub no_part : (rows : List Row) (a b c d : Text) → Named rows a b c d → None ≡ part_if (first_of (codes "part") rows) → None ≡ filling rows
no_part rows a b c d named none = rw (named.rules, named.design, named.script, named.out, ← none) refl

pub bad_numbers : (rows : List Row) (a b c d : Text) (part : Option (ℕ × ℕ)) → Named rows a b c d → Some part ≡ part_if (first_of (codes "part") rows) → None ≡ numbers_for part rows → None ≡ filling rows
bad_numbers rows a b c d part named is none = rw (named.rules, named.design, named.script, named.out, ← is, ← none) refl

pub all_found : (rows : List Row) (a b c d : Text) (part : Option (ℕ × ℕ)) (numbers : ℕ × Option ℕ) → Named rows a b c d → Some part ≡ part_if (first_of (codes "part") rows) → Some numbers ≡ numbers_for part rows
    → Some (fill a b c d part numbers.0 numbers.1) ≡ filling rows
all_found rows a b c d part numbers named is given = rw (named.rules, named.design, named.script, named.out, ← is, ← given) refl

-- what is alone, where it is known what was found
pub alone_is : (o p w l : Option Text) (k : Option (ℕ × Option ℕ)) → w ≡ o → l ≡ p → k ≡ alone o p → k ≡ alone w l
alone_is o p w l k workers limit is = is ∙ sym (ap₂ alone workers limit)

-- the program's grammar is one of those of which `clap` says which words it refuses
pub program_is_plain : is_simple_and_free program_words ≡ true
program_is_plain = refl

-- what a refusal of `clap` is told as
abbrev pub Told : Error → LineError → Type 0
Told e told = ((kind_of e ≡ OutOfMemory) × (told ≡ Memory)) ⊎ ((kind_of e ≢ OutOfMemory) × (told ≡ Usage e))

pub told_memory : (e : Error) (told : LineError) → Told e told → kind_of e ≡ OutOfMemory → told ≡ Memory
told_memory e told (inl (kind, is)) out = is
told_memory e told (inr (kind, is)) out = absurd (kind out)

pub told_fault : (words : List Text) (e : Error) (told : LineError) → Told e told → HasKind (fault_of program_words words) e → IsRefusalOf words told
told_fault words e told (inl (kind, is)) fault = rw is tt
told_fault words e told (inr (kind, is)) (inl out) = absurd (kind out)
told_fault words e told (inr (kind, is)) (inr among) = rw is (inl among)

pub told_no_line : (words : List Text) (e : Error) (told : LineError) → Told e told → kind_of e ≡ ValueValidation → said_in words ≡ None → IsRefusalOf words told
told_no_line words e told (inl (kind, is)) fault none = rw is tt
told_no_line words e told (inr (kind, is)) fault none = rw is (inr (fault, none))

-- the program's grammar is one of which `clap` says what it finds
pub program_is_simple : is_simple program_words ≡ true
program_is_simple = refl

from_some : {A : Type 0} (a b : A) → Some a ≡ Some b → b ≡ a
from_some a b h = sym (ap (λ o. unwrap_or o a) h)

-- a subcommand's name and rows, told apart
pub told_apart : {B : Type 0} (name : B → Text) (rows : B → List Row) (o : Option B) (n : Text) (rs : List Row) → Some n ≡ option_map name o → Some rs ≡ option_map (λ (p : Text × List Row). p.1) (option_map {U = Text × List Row} (λ b. (name b, rows b)) o)
    → option_map {U = Text × List Row} (λ b. (name b, rows b)) o ≡ Some (n, rs)
told_apart name rows None n rs first second = absurd (no first)
  where
    no : Some n ≡ None → ⊥
    no h = grind (arith, h)
told_apart name rows (Some b) n rs first second = ap₂ (λ x y. Some (x, y)) (from_some n (name b) first) (from_some rs (rows b) second)

pub none_apart : {B : Type 0} (name : B → Text) (rows : B → List Row) (o : Option B) → None ≡ option_map name o → option_map {U = Text × List Row} (λ b. (name b, rows b)) o ≡ None
none_apart name rows None none = refl
none_apart name rows (Some b) none = absurd (no none)
  where
    no : None ≡ Some (name b) → ⊥
    no h = grind (arith, h)

-- the line of a subcommand that was found, and none where none was
pub line_is : (words : List Text) (found : Option (Text × List Row)) (n : Text) (rows : List Row) (l : Option Line) → found ≡ found_in words → found ≡ Some (n, rows) → option_map text_of l ≡ said_by n rows → said_in words ≡ option_map text_of l
line_is words found n rows l here is said = ap (option_and_then (λ f. said_by f.0 f.1)) (sym here ∙ is) ∙ sym said

pub no_line_is : (words : List Text) (found : Option (Text × List Row)) → found ≡ found_in words → found ≡ None → said_in words ≡ None
no_line_is words found here none = ap (option_and_then (λ f. said_by f.0 f.1)) (sym here ∙ none)

pub none_said : (words : List Text) → said_in words ≡ None → IsSome (said_in words) → ⊥
none_said words none some = no (subst IsSome none some)
  where
    no : false ≡ true → ⊥
    no h = grind (arith, h)
