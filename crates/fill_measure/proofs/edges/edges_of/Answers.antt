use Rattle.fill_measure.proofs.Edging.{lists_more}
use Rattle.fill_measure.proofs.edges.edges_of.Goals as goal

pub loop-list-preserved : goal.loop-list-preserved
loop-list-preserved c =
    let put = c.in_ok-put_edges.ensures in
    (put.coordinates, lists_more c.args.direction c.args.lists.now c.list-item.result c.deref.result.now c.loop-list.list-index c.loop-list.edges.items c.put_edges.new.numbers.items c.loop-list-test.true c.list-item.is c.deref.ensures.value put.kept put.edges c.loop-list.invariant.1)
