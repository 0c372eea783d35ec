use Rattle.std.proofs.Common.{◌+◌, to_z, w64, take, arith, subst}
use Rattle.std.proofs.lemmas.List.{take_all}
use Rattle.fill_base.proofs.Areas.{read_y1, read_y2}
use Rattle.fill_region.specs.Near.{IsTallest}
use Rattle.fill_region.proofs.RowCuts.{none_tall, one_taller, height_read, height_of}
use Rattle.fill_region.proofs.level.tallest.Goals as goal

pub rects-init : goal.rects-init
rects-init c = none_tall

pub rects-preserved : goal.rects-preserved
rects-preserved c =
    let d = c.rect-item.result in
    let more = one_taller c.args.rects.now c.rects.rect-index d (to_z w64 c.rects.height-bits) c.max-height.result c.rects-test.true c.rect-item.is
    (height_of d (to_z w64 c.rects.height-bits) c.max-height.result (rw (c.y2.ensures, c.y1.ensures, read_y2 d, read_y1 d) at c.max-height.ensures.value)) c.rects.invariant in
    rw (height_read (take (c.rects.rect-index + 1) c.args.rects.now) c.max-height.result more) more

pub returns : goal.returns
returns c = subst (λ rs. IsTallest rs (to_z w64 c.rects.height-bits)) (take_all c.rects.rect-index c.args.rects.now (omega (arith, c.rects-test.false))) c.rects.invariant
