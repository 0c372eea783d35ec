-- One read more: what two reads in a row consume.
use Rattle.std.proofs.Common.{◌∙◌, ℕ, List, ◌++◌, Option, Some, None, append_assoc, ap, sym}
use Rattle.std.specs.Io.KnownBytes.{Consumes}

pub consumes_more : (old mid new : Option (List ℕ)) (a b : List ℕ) → Consumes old mid a → Consumes mid new b → Consumes old new (a ++ b)
consumes_more None mid new a b first then = tt
consumes_more (Some xs) None new a b first then = absurd first
consumes_more (Some xs) (Some ys) None a b first then = absurd then
consumes_more (Some xs) (Some ys) (Some zs) a b first then = first ∙ ap (λ l. a ++ l) then ∙ sym (append_assoc a b zs)
