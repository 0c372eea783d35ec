-- What is known of the value of a result.
use Rattle.std.proofs.Common.{Result, Ok, Err, IfOk}

-- two facts of it together give a third
pub if_both : {T E : Type 0} (r : Result T E) (P Q R : T → Type 0) → ((x : T) → P x → Q x → R x) → IfOk r P → IfOk r Q → IfOk r R
if_both (Ok x) P Q R both p q = both x p q
if_both (Err e) P Q R both p q = p
