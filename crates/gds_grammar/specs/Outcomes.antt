-- What the reader of a library may answer.
use Rattle.std.specs.Prelude.{◌≡◌, ℕ, List, [], ◌∷◌, ◌++◌, length}
use Rattle.std.specs.List.{flat_map}
use Rattle.gds_record.specs.Records.{Rec, IsRecord, spelling, IsBadLength, IsTruncated}
use Rattle.gds_grammar.specs.declared.error.Refusal.{Refusal}
use Rattle.gds_grammar.specs.declared.error.Refusal.TheVariants as refusals
use Rattle.gds_grammar.specs.declared.error.LibraryError.{LibraryError}
use Rattle.gds_grammar.specs.declared.error.LibraryError.TheVariants as errors
use Rattle.gds_grammar.specs.Values.{Contents}
use Rattle.gds_grammar.specs.Grammar.{all_rules, IsLibrary, IsViable}
use Rattle.gds_grammar.specs.Laws.{IsWhy}

-- the bytes begin with the records of a library that says so; ENDLIB is the last of them, and any
-- bytes may follow
pub record Spells (bytes : List ℕ) (value : Contents) : Type 0 where
  pub records : List Rec
  pub rest : List ℕ
  pub parts : bytes ≡ flat_map spelling records ++ rest
  pub library : IsLibrary all_rules records value

-- what bytes say they say once: two readings of them agree
abbrev pub SpellsOnce : Type 0
SpellsOnce = (bytes : List ℕ) (one other : Contents) → Spells bytes one → Spells bytes other → one ≡ other

-- the bytes begin with records that some others make a library, and that are none yet
pub record SoFar (bytes : List ℕ) (records : List Rec) (rest : List ℕ) : Type 0 where
  pub parts : bytes ≡ flat_map spelling records ++ rest
  pub viable : IsViable all_rules records
  pub unfinished : (value : Contents) → IsLibrary all_rules records value → ⊥

-- where a record is needed none stands
pub record LacksRecord (bytes : List ℕ) (IsFault : List ℕ → Type 0) : Type 0 where
  pub records : List Rec
  pub rest : List ℕ
  pub so_far : SoFar bytes records rest
  pub fault : IsFault rest

-- the record at this offset is the first after which nothing makes a library, and why
pub record RefusesRecord (bytes : List ℕ) (why : Refusal) (at : ℕ) : Type 0 where
  pub records : List Rec
  pub faulty : Rec
  pub rest : List ℕ
  pub so_far : SoFar bytes records (spelling faulty ++ rest)
  pub is_record : IsRecord faulty
  pub refused : IsViable all_rules (records ++ faulty ∷ []) → ⊥
  pub because : IsWhy why (records ++ faulty ∷ [])
  pub offset : at ≡ length (flat_map spelling records)

-- which fault each error tells of; none is told by want of memory
abbrev pub IsFault : List ℕ → LibraryError → Type 0
IsFault bytes errors.Memory = ⊥
IsFault bytes errors.Truncated = LacksRecord bytes IsTruncated
IsFault bytes errors.BadLength = LacksRecord bytes IsBadLength
IsFault bytes (errors.Unexpected at) = RefusesRecord bytes refusals.Unexpected at
IsFault bytes errors.BadXY = (at : ℕ) × RefusesRecord bytes refusals.BadXY at
IsFault bytes errors.NotClosed = (at : ℕ) × RefusesRecord bytes refusals.NotClosed at
IsFault bytes errors.DuplicateCell = (at : ℕ) × RefusesRecord bytes refusals.DuplicateCell at

abbrev pub IsRefused : List ℕ → LibraryError → Type 0
IsRefused bytes errors.Memory = Unit {0}
IsRefused bytes e = IsFault bytes e
