use Rattle.fill_region.proofs.Ordered.{ordered_squares, ordered_canonical}
use Rattle.fill_region.proofs.order.in_order.Goals as goal

pub returns : goal.returns
returns c =
    let once = rw (c.deref.ensures.value) at c.in_ok-ordered.ensures in
    record {
      canonical = λ p are. ordered_canonical p c.args.runs.items c.in_ok-sorted.sorted.items c.in_ok-ordered.ordered.items c.in_ok-sorted.ensures.same once are;
      squares = λ p are. ordered_squares p c.args.runs.items c.in_ok-sorted.sorted.items c.in_ok-ordered.ordered.items c.in_ok-sorted.ensures.same once are;
    }
