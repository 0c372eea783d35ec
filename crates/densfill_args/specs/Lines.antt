-- What a line shows, and what a refusal says of the words.
use Rattle.std.specs.Prelude.{◌≡◌, ◌⊎◌, ◌<◌, ◌≤◌, ℕ, IfSome, List, None, length, map}
use Rattle.clap.specs.Words.{IsAmong, Text, fault_of, kind_of}
use Rattle.clap.specs.declared.error.kind.ErrorKind.TheVariants.{ValueValidation}
use Rattle.densfill_args.specs.Grammar.{Said, rects, check, fill, join, program_words, said_in}
use Rattle.densfill_args.specs.declared.Line.{Line}
use Rattle.densfill_args.specs.declared.Line.TheVariants.{Rects, Check, Fill, Join}
use Rattle.densfill_args.specs.declared.LineError.{LineError}
use Rattle.densfill_args.specs.declared.LineError.TheVariants.{Memory, Usage}

abbrev pub text_of : Line → Said
text_of (Rects rules script) = rects rules.now script.now
text_of (Check rules design part) = check rules.now design.now part
text_of (Join rules out parts) = join rules.now out.now (map (λ p. p.now) parts.items)
text_of (Fill rules design script out part workers limit) = fill rules.now design.now script.now out.now part workers limit

-- a part is one of 1 to 4,096
abbrev pub IsPart : ℕ × ℕ → Type 0
IsPart part = (1 ≤ part.0) × (part.0 ≤ part.1) × (part.1 ≤ 4096)

-- so many are joined, and a fill has from 1 to 64 workers, of a part one without a limit
abbrev pub IsBounded : Line → Type 0
IsBounded (Rects rules script) = Unit {0}
IsBounded (Check rules design part) = IfSome part IsPart
IsBounded (Join rules out parts) = (0 < length parts.items) × (length parts.items ≤ 4096)
IsBounded (Fill rules design script out part workers limit) = IfSome part IsPart × (0 < workers) × (workers ≤ 64)

-- a usage fault is one that `clap` finds in the words, or that they make no line
abbrev pub IsRefusalOf : List Text → LineError → Type 0
IsRefusalOf words Memory = Unit {0}
IsRefusalOf words (Usage e) = IsAmong (kind_of e) (fault_of program_words words) ⊎ ((kind_of e ≡ ValueValidation) × (said_in words ≡ None))
