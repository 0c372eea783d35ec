use Rattle.densfill_engine.proofs.Patches.{none_added, none_more_added, one_more_added}
use Rattle.densfill_engine.proofs.metal.rects_added.Goals as goal
use Rattle.densfill_engine.proofs.metal.rects_added.Goals.{in-Add+in_ok-push-in-Add, in-Keep}

pub loop-edit-init : goal.loop-edit-init
loop-edit-init c = rw c.new-rects.ensures.items none_added

pub loop-edit-preserved : goal.loop-edit-preserved
loop-edit-preserved c = elim c.match-edit.branch [
  | in-Add+in_ok-push-in-Add w ↦ rw w.rects-is (one_more_added c.args.edits.now c.loop-edit.edit-index c.edit-item.result w.in-Add.rect c.loop-edit.rects.items w.push.new.self.items
      c.loop-edit-test.true c.edit-item.is w.in-Add.is w.in_ok-push-in-Add.ensures.items c.loop-edit.invariant)
  | in-Keep w ↦ rw w.rects-is (none_more_added c.args.edits.now c.loop-edit.edit-index c.edit-item.result w.in-Keep.field-0 c.loop-edit.rects.items
      c.loop-edit-test.true c.edit-item.is w.in-Keep.is c.loop-edit.invariant)
]
