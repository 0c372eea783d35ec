use Rattle.std.proofs.Common.{◌*◌}
use Rattle.gds_record.proofs.Magnitudes.{no_quarters}
use Rattle.gds_record.proofs.reals.turns.Goals as goal

pub returns-in_default-2-clause-none : goal.returns-in_default-2-clause-none
returns-in_default-2-clause-none c = λ negative k le v.
    let e = c.in_default.is in
    let p = (rw e at c.magnitude.ensures.none) (90 * k) v.magnitude in
    no_quarters k le p.0 p.1
