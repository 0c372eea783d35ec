-- Where an iterator over records stands.
use Rattle.std.specs.Prelude.{◌≡◌, ◌⊎◌, ◌<◌, ℕ, true, List, [], length, Option, Some}
use Rattle.csv.specs.Reading.{Ready, default_config, records_from, source_of}
use Rattle.csv.specs.declared.parser.State.{State}
use Rattle.csv.specs.declared.parser.State.TheVariants as st
use Rattle.csv.specs.declared.reader.Reader.{Reader}
use Rattle.csv.specs.declared.reader.Trim.TheVariants as trim

-- a count that is above the number of records that a text still has
abbrev pub Enough : ℕ → State → List ℕ → Type 0
Enough n s text = (length text < n) ⊎ ((s ≡ st.StartRecord) × (text ≡ []))

-- a reader, with so many turns left, stands before exactly these records
pub record StandsBefore {R : Type 0} (rem : R → Option (List ℕ)) (rdr : Reader R) (left : ℕ) (rest : List (List (List ℕ))) : Type 0 where
  pub plain : rdr.trim ≡ trim.None
  pub ready : Ready rdr
  pub turns : 0 < left
  pub flexible : rdr.flexible ≡ true
  pub config : rdr.config ≡ default_config
  pub bytes : List ℕ
  pub known : source_of rem rdr ≡ Some bytes
  pub count : ℕ
  pub enough : Enough count rdr.state bytes
  pub rows : rest ≡ records_from default_config count rdr.state bytes
