use Rattle.std.proofs.Common.{◌≡◌, arith, ◌-ℤ◌}
use Rattle.std.proofs.lemmas.Int.{ints, clamps}
use Rattle.fill_base.proofs.Signed.{read, not_lt}
use Rattle.gds_shape.proofs.Cornering.{corner_is}
use Rattle.gds_shape.proofs.extent.move_to_corner.Goals as goal

pub returns-clause-some : goal.returns-clause-some
returns-clause-some c =
    let b = c.args.extent in
    let width : read (read b.right -ℤ read b.left) ≡ (b.right -ℤ b.left) = omega (arith, ints, clamps) in
    let height : read (read b.top -ℤ read b.bottom) ≡ (b.top -ℤ b.bottom) = omega (arith, ints, clamps) in
    ((not_lt _ _ (rw width at c.if-extent-gt-WIDEST.false), not_lt _ _ (rw height at c.if-extent-gt-WIDEST-2.false)), corner_is b _ _ (omega (arith, ints, clamps)) (omega (arith, ints, clamps)))
