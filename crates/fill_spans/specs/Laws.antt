use Rattle.std.specs.Prelude.{◌≡◌, ℤ, List}
use Rattle.fill_spans.specs.Spans.{inside, IsCanonical}

-- canonical lists with the same members are the same list
abbrev pub EqualSetsAreEqual : Type 0
EqualSetsAreEqual = (a b : List ℤ) → IsCanonical a → IsCanonical b → ((x : ℤ) → inside a x ≡ inside b x) → a ≡ b
