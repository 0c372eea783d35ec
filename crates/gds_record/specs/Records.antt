-- What a record is, the one way to spell it, and where no record stands.
use Rattle.std.specs.Prelude.{◌≡◌, ℕ, ◌+◌, ◌%◌, ◌<◌, ◌≤◌, ◌⊎◌, List, [], ◌∷◌, ◌++◌, length}
use Rattle.std.specs.Int.{w16, to_be_bytes, from_be_bytes}
use Rattle.gds_record.specs.declared.records.Record.{Record}

-- a record without where it lies in memory
pub record Rec : Type 0 where
  pub kind : ℕ
  pub form : ℕ
  pub body : List ℕ

abbrev pub view : Record → Rec
view r = record { kind = r.kind; form = r.form; body = r.body.now }

abbrev pub IsEven : ℕ → Type 0
IsEven n = n % 2 ≡ 0

-- what can be spelled: its length, with the four bytes of the header, fits two bytes
pub record IsRecord (r : Rec) : Type 0 where
  pub kind_fits : r.kind < 256
  pub form_fits : r.form < 256
  pub even : IsEven (length r.body)
  pub short : length r.body ≤ 65530

-- the length in two bytes, the more significant first, the kind, the data type, the data
abbrev pub spelling : Rec → List ℕ
spelling r = to_be_bytes w16 (length r.body + 4) ++ r.kind ∷ r.form ∷ r.body

-- the length that two bytes give
abbrev pub length_of : ℕ → ℕ → ℕ
length_of high low = from_be_bytes w16 (high ∷ low ∷ [])

-- two bytes of length stand there, and it's less than a header's or odd
abbrev pub IsBadLength : List ℕ → Type 0
IsBadLength (a ∷ b ∷ rest) = (length_of a b < 4) ⊎ (length_of a b % 2 ≡ 1)
IsBadLength _ = ⊥

-- a good length stands there and passes the end, or not even a length stands there
abbrev pub IsTruncated : List ℕ → Type 0
IsTruncated (a ∷ b ∷ rest) =
    (4 ≤ length_of a b) × IsEven (length_of a b) × (length rest + 2 < length_of a b)
IsTruncated _ = Unit {0}
