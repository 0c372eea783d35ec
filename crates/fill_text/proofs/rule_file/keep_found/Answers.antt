use Rattle.std.proofs.Common.{◌≡◌, ◌&&◌, Bool, true, FitsSigned, w64, rules, refl}
use Rattle.std.proofs.lemmas.Int.{to_z-of_z}
use Rattle.fill_text.specs.declared.keys.OptionalKey.TheVariants.{KeepLayer, KeepDatatype}
use Rattle.fill_text.proofs.rule_file.keep_found.Goals as goal

both : (a b : Bool) → a ≡ true → b ≡ true → (a && b) ≡ true
both a b e f = rw (e, f) refl

pub returns-in-Some-Some-clause-layers : goal.returns-in-Some-Some-clause-layers
returns-in-Some-Some-clause-layers c =
    let layer : FitsSigned w64 c.in-Some-Some.layer = search rules in
    let datatype : FitsSigned w64 c.in-Some-Some.datatype = search rules in
    rw (to_z-of_z w64 c.in-Some-Some.layer layer, to_z-of_z w64 c.in-Some-Some.datatype datatype)
    (both _ _ (rw c.in-Some-Some.is-0 at (c.requires KeepLayer)) (rw c.in-Some-Some.is-1 at (c.requires KeepDatatype)))
