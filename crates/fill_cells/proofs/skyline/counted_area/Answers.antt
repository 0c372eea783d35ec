use Rattle.std.proofs.Common.{refl, to_z, w64}
use Rattle.fill_cells.proofs.SkylineAreas.{raised_start, raised_sum, raised_more, raised_same, raised_all, skyline_for}
use Rattle.fill_cells.proofs.skyline.counted_area.Goals.{in-Some+in_ok-area, in_default}
use Rattle.fill_cells.proofs.skyline.counted_area.Goals as goal

pub loop-rect-init : goal.loop-rect-init
loop-rect-init c = raised_start c.args.rects.now c.sort_by_bottom.new.rects c.sort_by_bottom.new.rects c.clear.new.self.items c.args.part.now
    c.sort_by_bottom.ensures.same c.sort_by_bottom.ensures.rising refl c.clear.ensures.items

pub overflow_add-area : goal.overflow_add-area
overflow_add-area c = (raised_sum c.args.rects.now c.sort_by_bottom.new.rects c.loop-rect.towers.items c.args.part.now c.rect-item.result c.in-Some.piece
    c.loop-rect.rect-index (to_z w64 c.loop-rect.area-bits) c.in_ok-area.field-0 c.loop-rect.invariant c.loop-rect-test.true c.rect-item.is c.in-Some.ensures.some
    c.in_ok-area.ensures.added).0

pub loop-rect-preserved : goal.loop-rect-preserved
loop-rect-preserved c = elim c.match-clip.branch [
  | in-Some+in_ok-area w ↦ rw (w.towers-is, w.area-is) (raised_more c.args.rects.now c.sort_by_bottom.new.rects c.loop-rect.towers.items w.raise.new.towers.items c.args.part.now c.rect-item.result w.in-Some.piece
      c.loop-rect.rect-index (to_z w64 c.loop-rect.area-bits) w.in_ok-area.field-0 c.loop-rect.invariant c.loop-rect-test.true c.rect-item.is w.in-Some.ensures.some
      w.in_ok-area.ensures.added w.in_ok-area.ensures.settled)
  | in_default w ↦ rw (w.towers-is, w.area-is) (raised_same c.args.rects.now c.sort_by_bottom.new.rects c.loop-rect.towers.items c.args.part.now c.rect-item.result
      c.loop-rect.rect-index (to_z w64 c.loop-rect.area-bits) c.loop-rect.invariant c.loop-rect-test.true c.rect-item.is w.in_default.ensures.none)
]

pub raise-requires : goal.raise-requires
raise-requires c = skyline_for c.args.rects.now c.sort_by_bottom.new.rects c.loop-rect.towers.items c.args.part.now c.loop-rect.rect-index (to_z w64 c.loop-rect.area-bits)
    c.rect-item.result c.in-Some.piece c.loop-rect.invariant c.loop-rect-test.true c.rect-item.is c.in-Some.ensures.some

pub returns : goal.returns
returns c = raised_all c.args.rects.now c.sort_by_bottom.new.rects c.loop-rect.towers.items c.args.part.now c.loop-rect.rect-index (to_z w64 c.loop-rect.area-bits)
    c.loop-rect-test.false c.loop-rect.invariant
