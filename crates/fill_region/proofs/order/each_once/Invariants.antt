use Rattle.fill_region.proofs.Ordered.{ArePut}
use Rattle.fill_region.proofs.order.each_once.Given as goal

abbrev pub invariant-rects : goal.invariant-rects
invariant-rects l = ArePut l.rects l.k l.ordered.items
