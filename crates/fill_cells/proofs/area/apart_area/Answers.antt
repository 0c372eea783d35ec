use Rattle.std.proofs.Common.{◌≡◌, ◌+◌, ◌+ℤ◌, ap, sym, pos, take, to_z, w64, FitsSigned}
use Rattle.fill_base.specs.Squares.{area_of}
use Rattle.fill_base.proofs.Signed.{read}
use Rattle.fill_region.specs.Squares.{covered}
use Rattle.fill_area.proofs.SharedAreas.{apart_more, of_none}
use Rattle.fill_cells.proofs.area.apart_area.Goals as goal

pub loop-k-init : goal.loop-k-init
loop-k-init c = ap (λ n. pos n) (of_none c.args.part.now)

more : (c : goal.After-shared_area-area) → FitsSigned w64 (to_z w64 c.loop-k.area-bits +ℤ read c.shared_area-area.result) × (read (to_z w64 c.loop-k.area-bits +ℤ read c.shared_area-area.result) ≡ pos (area_of (covered (take (c.loop-k.k + 1) c.args.rects.now)) c.args.part.now))
more c = apart_more c.args.rects.now c.loop-k.k c.index-rects-k.result c.args.part.now (to_z w64 c.loop-k.area-bits) c.shared_area-area.result c.loop-k-test.true c.index-rects-k.is
    (c.meets_any.ensures (sym c.if-meets_any.false)) c.loop-k.invariant c.shared_area-area.ensures

pub overflow_add-area : goal.overflow_add-area
overflow_add-area c = (more c).0

pub loop-k-preserved : goal.loop-k-preserved
loop-k-preserved c = (more c).1
