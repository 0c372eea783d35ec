use Rattle.std.specs.List.{flat_map}
use Rattle.std.specs.Vec.{vec_items}
use Rattle.std.proofs.lemmas.Result.{IfOk-weaker}
use Rattle.fill_region.specs.Squares.{covered}
use Rattle.fill_measure.proofs.measure.sum_rects.Goals as goal

pub returns-clause-sums : goal.returns-clause-sums
returns-clause-sums g c = IfOk-weaker c.new.result _ _ (λ s sums. sums (covered (flat_map vec_items c.args.lists.now)) (record {
  numbers = rw (c.deref.ensures.value, c.deref-2.ensures.value) at c.in_ok-prefix_sums.ensures;
  columns = rw c.parts_across.ensures.value at c.in_ok-across.ensures.uniform;
  rows = rw c.parts_up.ensures.value at c.in_ok-up.ensures.uniform;
})) c.new.ensures.sums
