use Rattle.fill_cells.proofs.Lists.{none_within, more_within, all_within}
use Rattle.fill_cells.proofs.pieces.within.Goals as goal

pub loop-rect-init : goal.loop-rect-init
loop-rect-init c = none_within c.args.part.now c.args.rects.now c.new-list.result.items c.new-list.ensures.items

pub loop-rect-preserved : goal.loop-rect-preserved
loop-rect-preserved c = more_within c.args.part.now c.rect-item.result c.args.rects.now c.loop-rect.list.items c.hold.new.list.items c.loop-rect.rect-index
    c.loop-rect-test.true c.rect-item.is c.loop-rect.invariant c.in_ok-hold.ensures

pub returns : goal.returns
returns c = all_within c.args.part.now c.args.rects.now c.loop-rect.list.items c.loop-rect.rect-index c.loop-rect-test.false c.loop-rect.invariant
