-- A value or a refusal: a text is refused for the first rule that it breaks.
use Rattle.std.specs.Prelude.{◌≡◌, ◌⊎◌, ◌++◌, Bool, true, false, List, [], ◌∷◌, Option, Some, None, Result, Ok, Err}

-- the first that is there
abbrev pub first_some : {E : Type 0} → List (Option E) → Option E
first_some [] = None
first_some (None ∷ more) = first_some more
first_some (Some e ∷ more) = Some e

-- a fault where something holds
abbrev pub fault_if : {E : Type 0} → Bool → E → Option E
fault_if true e = Some e
fault_if false e = None

-- a fault unless something holds
abbrev pub fault_unless : {E : Type 0} → Bool → E → Option E
fault_unless true e = None
fault_unless false e = Some e

-- the fault of each of the later records, where `fault` is told the records before
abbrev pub each_fault : {R E : Type 0} → (List R → R → Option E) → List R → List R → List (Option E)
each_fault fault before [] = []
each_fault fault before (r ∷ rs) = fault before r ∷ each_fault fault (before ++ r ∷ []) rs

-- the value, if nothing is at fault
abbrev pub refused_or : {A E : Type 0} → Option E → A → Result A E
refused_or None x = Ok x
refused_or (Some e) x = Err e

-- the same answer, of what is seen of the value
abbrev pub seen : {A B E : Type 0} → (A → B) → Result A E → Result B E
seen view (Ok x) = Ok (view x)
seen view (Err e) = Err e

-- a call that gives what is read, unless memory has run out
abbrev pub Gives : {A B E : Type 0} → E → (A → B) → Result A E → Result B E → Type 0
Gives memory view (Ok x) read = read ≡ Ok (view x)
Gives memory view (Err e) read = (e ≡ memory) ⊎ (read ≡ Err e)
