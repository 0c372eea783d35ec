-- What an edit changes is told by what is drawn in its rectangle alone.
use Rattle.std.proofs.Common.{◌≡◌, Bool, true, false, ◌&&◌, refl}
use Rattle.std.specs.Prelude.{not}

pub beside_near : (r p : Bool) → (r && not (p && r)) ≡ (r && not p)
beside_near true true = refl
beside_near true false = refl
beside_near false p = refl

pub near_twice : (r p : Bool) → ((p && r) && r) ≡ (p && r)
near_twice true true = refl
near_twice true false = refl
near_twice false true = refl
near_twice false false = refl
