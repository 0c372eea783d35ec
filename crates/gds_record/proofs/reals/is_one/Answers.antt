use Rattle.std.proofs.Common.{arith, false}
use Rattle.std.specs.Prelude.{IsTrue}
use Rattle.gds_record.proofs.reals.is_one.Goals as goal

false_is : IsTrue false → ⊥
false_is h = cc

-- 1 is no multiple of 16
pub returns-in-None : goal.returns-in-None
returns-in-None c = (λ h. absurd (false_is h), λ v. let p = c.in-None.ensures.none 1 v.magnitude in absurd (omega (arith, p.1)))
