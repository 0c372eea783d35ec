use Rattle.gds_shape.proofs.Walk.{Walked}
use Rattle.gds_shape.proofs.strip.put_strip.Given as goal

abbrev pub invariant-walk : goal.invariant-walk
invariant-walk l = Walked l.initial.out.items l.crossing l.bottom l.top l.edge-index l.left l.ups l.downs l.out.items
