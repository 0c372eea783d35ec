-- The command lines that the program takes, as `clap` reads them.
use Rattle.std.specs.Prelude.{◌≡◌, ◌&&◌, ◌==◌, ℕ, ℤ, pos, Bool, List, [], Option, None, Some, true, bytes_eq, codes, if◌then◌else◌, length, nat_le, nat_lt, option_map, slice_index}
use Rattle.std.specs.List.{after_first, before_first, position_or_len}
use Rattle.std.specs.Option.{option_and_then}
use Rattle.std.specs.Str.Parse.{digits_value, without_leading_plus}
use Rattle.clap.specs.ValueTests.{is_unsigned_in}
use Rattle.clap.specs.Words.{App, Row, Rule, Text, all_of, fault_of, first_of, new_app, new_rule, one_of, subcommand_of, takes, with_rule, with_subcommand}
use Rattle.clap.specs.declared.builder.value_parser.ValueParser.TheVariants.{Signed}

-- a required path
abbrev pub path : Text → Rule
path name = record (new_rule name) { required = true }

-- `rects RULES SCRIPT`
abbrev pub rects_words : App
rects_words = with_rule (with_rule (new_app (codes "rects")) (path (codes "RULES"))) (path (codes "SCRIPT"))

-- `--part K/N`
abbrev pub part_option : Rule
part_option = record (new_rule (codes "part")) { long = Some (codes "part"); value_names = 1 }

-- `check RULES DESIGN [--part K/N]`
abbrev pub check_words : App
check_words = with_rule (with_rule (with_rule (new_app (codes "check")) (path (codes "RULES"))) (path (codes "DESIGN"))) part_option

-- from 1 to 4,096 paths
abbrev pub part_paths : Rule
part_paths = record (path (codes "PART")) { range = Some (record { start_inclusive = 1; end_inclusive = 4096 }) }

-- `join RULES OUT PART..`
abbrev pub join_words : App
join_words = with_rule (with_rule (with_rule (new_app (codes "join")) (path (codes "RULES"))) (path (codes "OUT"))) part_paths

-- an option that takes a whole number between two bounds
abbrev pub option : Text → ℤ → ℤ → Rule
option name least most = record (new_rule name) { long = Some name; value_names = 1; parser = Some (Signed least most) }

-- `fill RULES DESIGN SCRIPT OUT [--workers N] [--limit L] [--part K/N]`
abbrev pub fill_words : App
fill_words =
    with_rule (with_rule (with_rule (with_rule (with_rule (with_rule (with_rule (new_app (codes "fill")) (path (codes "RULES"))) (path (codes "DESIGN"))) (path (codes "SCRIPT"))) (path (codes "OUT")))
    (option (codes "workers") (pos 1) (pos 64))) (option (codes "limit") (pos 0) (pos 4294967295))) part_option

-- the program's own words: a subcommand must be there
abbrev pub own_words : App
own_words = record (new_app (codes "densfill")) { top = record (new_app (codes "densfill")).top { subcommand_required = true } }

abbrev pub program_words : App
program_words = with_subcommand (with_subcommand (with_subcommand (with_subcommand own_words rects_words.top) check_words.top) fill_words.top) join_words.top

-- what `clap` finds in the words: the subcommand's name and a row for each of its arguments
abbrev pub found_in : List Text → Option (Text × List Row)
found_in words = subcommand_of program_words words

-- a line by its paths, by the part of a chip, its number and how many there are, where one is named, and by the number of workers and the
-- limit of turns where one is given
pub data Said : Type 0 where
  rects : (rules script : Text) → Said
  check : (rules design : Text) (part : Option (ℕ × ℕ)) → Said
  join : (rules out : Text) (parts : List Text) → Said
  fill : (rules design script out : Text) (part : Option (ℕ × ℕ)) (workers : ℕ) (limit : Option ℕ) → Said

-- what the rows of two arguments make
abbrev pub both : (Text → Text → Said) → Text → Text → List Row → Option Said
both make first second rows = option_and_then (λ a. option_map (λ b. make a b) (first_of second rows)) (first_of first rows)

-- the number below 2^32 that a text says
abbrev pub number_of : Text → Option ℕ
number_of text = if is_unsigned_in 0 4294967295 text then Some (digits_value 10 (without_leading_plus text)) else None

-- the same of a text of digits alone
abbrev pub is_signed : Text → Bool
is_signed text = slice_index text 0 == 43

abbrev pub plain_number : Text → Option ℕ
plain_number text = if is_signed text then None else number_of text

-- the parts that there may be: from 1 to `count`, and at most 4,096
abbrev pub part_of : ℕ → ℕ → Option (ℕ × ℕ)
part_of number count = if nat_le 1 number && (nat_le number count && nat_le count 4096) then Some (number, count) else None

-- the part that a text names: two numbers, and between them the first slash (47)
abbrev pub is_slash : ℕ → Bool
is_slash b = b == 47

abbrev pub has_slash : Text → Bool
has_slash text = nat_lt (position_or_len is_slash text) (length text)

abbrev pub part_by : Text → Option (ℕ × ℕ)
part_by text =
    if has_slash text
    then option_and_then (λ number. option_and_then (part_of number) (plain_number (after_first is_slash text))) (plain_number (before_first is_slash text))
    else None

-- the part, where one is named
abbrev pub part_if : Option Text → Option (Option (ℕ × ℕ))
part_if None = Some None
part_if (Some text) = option_map Some (part_by text)

-- how many workers there may be
abbrev pub crew : ℕ → Option ℕ
crew n = if nat_le 1 n && nat_le n 64 then Some n else None

-- the number of workers: one, where none is given
abbrev pub workers_by : Option Text → Option ℕ
workers_by None = Some 1
workers_by (Some text) = option_and_then crew (number_of text)

-- the limit of turns, where there is one: a number
abbrev pub limit_by : Option Text → Option (Option ℕ)
limit_by None = Some None
limit_by (Some text) = option_map Some (number_of text)

-- the number of workers and the limit of turns
abbrev pub numbers_in : List Row → Option (ℕ × Option ℕ)
numbers_in rows =
    option_and_then {U = ℕ × Option ℕ} (λ workers. option_map (λ limit. (workers, limit)) (limit_by (one_of (codes "limit") rows))) (workers_by (one_of (codes "workers") rows))

-- of a part, where neither is named: one worker, without a limit
abbrev pub alone : Option Text → Option Text → Option (ℕ × Option ℕ)
alone None None = Some (1, None)
alone None (Some limit) = None
alone (Some workers) limit = None

abbrev pub numbers_for : Option (ℕ × ℕ) → List Row → Option (ℕ × Option ℕ)
numbers_for None rows = numbers_in rows
numbers_for (Some part) rows = alone (first_of (codes "workers") rows) (first_of (codes "limit") rows)

-- what the rows of `check` make
abbrev pub checking : List Row → Option Said
checking rows =
    option_and_then (λ rules. option_and_then (λ design. option_map (check rules design) (part_if (first_of (codes "part") rows))) (first_of (codes "DESIGN") rows)) (first_of (codes "RULES") rows)

-- what the rows of `join` make
abbrev pub joined : Text → Text → List Text → Option Said
joined rules out parts = if nat_le 1 (length parts) && nat_le (length parts) 4096 then Some (join rules out parts) else None

abbrev pub joining : List Row → Option Said
joining rows = option_and_then (λ rules. option_and_then (λ out. option_and_then (joined rules out) (all_of (codes "PART") rows)) (first_of (codes "OUT") rows)) (first_of (codes "RULES") rows)

-- what the rows of `fill` make
abbrev pub filling_by : Text → Text → Text → Text → List Row → Option Said
filling_by rules design script out rows =
    option_and_then (λ part. option_map (λ numbers. fill rules design script out part numbers.0 numbers.1) (numbers_for part rows)) (part_if (first_of (codes "part") rows))

abbrev pub filling : List Row → Option Said
filling rows =
    option_and_then (λ rules. option_and_then (λ design. option_and_then (λ script. option_and_then (λ out. filling_by rules design script out rows)
    (first_of (codes "OUT") rows)) (first_of (codes "SCRIPT") rows)) (first_of (codes "DESIGN") rows)) (first_of (codes "RULES") rows)

-- what the rows of the subcommand of a name say
abbrev pub said_by : Text → List Row → Option Said
said_by name rows =
    if bytes_eq name (codes "rects") then both rects (codes "RULES") (codes "SCRIPT") rows
    else if bytes_eq name (codes "check") then checking rows
    else if bytes_eq name (codes "fill") then filling rows
    else if bytes_eq name (codes "join") then joining rows
    else None

-- the line that the words make, the program's own name first
abbrev pub said_in : List Text → Option Said
said_in words = option_and_then (λ found. said_by found.0 found.1) (found_in words)

-- `clap` takes the words, but for want of memory
abbrev pub IsTaken : List Text → Type 0
IsTaken words = takes program_words words ≡ true

-- `clap` finds no fault in the words, and no call for help
abbrev pub IsFaultless : List Text → Type 0
IsFaultless words = fault_of program_words words ≡ []
