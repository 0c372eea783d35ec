-- Reading a record from the front of a list of bytes.
use Rattle.std.specs.Prelude.{◌≡◌, ℕ, ◌-◌, ◌%◌, List, [], ◌∷◌, length, take, drop, Result, Ok, Err, nat_lt, ◌==◌, ◌||◌, if◌then◌else◌}
use Rattle.std.specs.Borrow.{Bor}
use Rattle.fill_base.specs.Sequence.{◌>>=◌}
use Rattle.gds_record.specs.declared.records.Record.{Record}
use Rattle.gds_record.specs.declared.records.RecordError.{RecordError}
use Rattle.gds_record.specs.declared.records.RecordError.TheVariants.{Truncated, BadLength}
use Rattle.gds_record.specs.Records.{Rec, view, length_of}

-- What a function returned, seen by view, is what reading gives.
abbrev pub Gives : {X Y E : Type 0} → (X → Y) → Result X E → Result Y E → Type 0
Gives view (Ok x) read = read ≡ Ok (view x)
Gives view (Err e) read = read ≡ Err e

-- a record and the bytes after it
abbrev pub at_front : Record × Bor (List ℕ) → Rec × List ℕ
at_front x = (view x.0, x.1.now)

-- how many bytes of data a record of this length has
abbrev pub size_of : ℕ → Result ℕ RecordError
size_of length =
    if nat_lt length 4 || (length % 2 == 1) then Err BadLength else Ok (length - 4)

-- so many bytes of data, and what follows them
abbrev pub body_at : ℕ → ℕ → List ℕ → ℕ → Result (Rec × List ℕ) RecordError
body_at kind form rest size =
    if nat_lt (length rest) size then Err Truncated
    else Ok (record { kind = kind; form = form; body = take size rest }, drop size rest)

unfoldable pub record_at : List ℕ → Result (Rec × List ℕ) RecordError
record_at [] = Err Truncated
record_at (a ∷ []) = Err Truncated
record_at (high ∷ low ∷ []) = size_of (length_of high low) >>= λ size. Err Truncated
record_at (high ∷ low ∷ kind ∷ []) = size_of (length_of high low) >>= λ size. Err Truncated
record_at (high ∷ low ∷ kind ∷ form ∷ rest) =
    size_of (length_of high low) >>= λ size. body_at kind form rest size
