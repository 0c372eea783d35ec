use Rattle.std.proofs.Common.{ap, ◌∙◌}
use Rattle.std.specs.List.{flat_map}
use Rattle.std.specs.Vec.{vec_items}
use Rattle.std.proofs.lemmas.List.{take_all}
use Rattle.fill_region.specs.Squares.{covered}
use Rattle.fill_measure.proofs.Chunking.{list_more}
use Rattle.fill_measure.proofs.lists.chunks_of.Goals as goal

pub loop-list-preserved : goal.loop-list-preserved
loop-list-preserved c = record {
  few = c.in_ok-put_chunks.ensures.few;
  whole = list_more c.loop-list.chunks.items c.put_chunks.new.chunks.items c.args.lists.now c.list-item.result _ c.loop-list.list-index c.loop-list-test.true c.list-item.is c.deref.ensures.value c.loop-list.invariant.whole c.in_ok-put_chunks.ensures.whole;
}

pub returns-clause-whole : goal.returns-clause-whole
returns-clause-whole c = λ x y. c.loop-list.invariant.whole x y ∙ ap (λ ls. covered (flat_map vec_items ls) x y) (take_all c.loop-list.list-index c.args.lists.now c.loop-list-test.false)
