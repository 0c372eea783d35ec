-- A writer of the report, between two lines.
use Rattle.std.specs.Prelude.{◌≡◌, ℕ, false, List, [], ◌∷◌, Option, Some}
use Rattle.std.specs.Global.{Vec}
use Rattle.csv.specs.declared.writer.Writer.{Writer}
use Rattle.csv.specs.Writing.{writer_setup, default_writer, fields_written, has_written, text_written, needs_quotes}

-- the writer of the text so far
abbrev pub Lines : Type 0
Lines = Writer (Vec ℕ)

-- it writes as the crate's defaults say, and no record is begun
pub record IsReady (w : Lines) : Type 0 where
  pub setup : writer_setup w ≡ default_writer
  pub fields : fields_written w ≡ 0
  pub clean : has_written w ≡ false

abbrev pub written : Lines → Option (List ℕ)
written w = text_written (λ (v : Vec ℕ). Some v.items) w

-- no field calls for quotes
abbrev pub AllPlain : List (List ℕ) → Type 0
AllPlain [] = Unit {0}
AllPlain (f ∷ fs) = (needs_quotes default_writer f ≡ false) × AllPlain fs
