use Rattle.densfill_engine.proofs.EditedLayers.{add_keeps, cut_keeps, none_kept, none_more_kept, one_more_kept}
use Rattle.densfill_engine.proofs.edited.rects_kept.Goals as goal
use Rattle.densfill_engine.proofs.edited.rects_kept.Goals.{in-Keep+in_ok-push-in-Keep, in-Add, in-Cut}

pub loop-edit-init : goal.loop-edit-init
loop-edit-init c = rw c.new-rects.ensures.items none_kept

pub loop-edit-preserved : goal.loop-edit-preserved
loop-edit-preserved c = elim c.match-edit.branch [
  | in-Keep+in_ok-push-in-Keep w ↦ rw w.rects-is (one_more_kept c.args.edits.now c.loop-edit.edit-index c.edit-item.result c.loop-edit-test.true c.edit-item.is c.loop-edit.rects.items c.loop-edit.invariant
      w.in-Keep.rect w.push.new.self.items w.in-Keep.is w.in_ok-push-in-Keep.ensures.items)
  | in-Add w ↦ rw w.rects-is (none_more_kept c.args.edits.now c.loop-edit.edit-index c.edit-item.result c.loop-edit-test.true c.edit-item.is c.loop-edit.rects.items c.loop-edit.invariant
      (add_keeps c.edit-item.result w.in-Add.field-0 w.in-Add.is))
  | in-Cut w ↦ rw w.rects-is (none_more_kept c.args.edits.now c.loop-edit.edit-index c.edit-item.result c.loop-edit-test.true c.edit-item.is c.loop-edit.rects.items c.loop-edit.invariant
      (cut_keeps c.edit-item.result w.in-Cut.field-0 w.in-Cut.is))
]
