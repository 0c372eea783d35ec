use Rattle.std.proofs.Common.{◌≡◌, ◌∙◌, ◌+◌, ◌+ℤ◌, ap, pos, take, to_z, w64, FitsSigned}
use Rattle.fill_base.specs.Squares.{area_of}
use Rattle.std.proofs.lemmas.List.{take_all}
use Rattle.fill_base.proofs.Areas.{read_y1, read_y2}
use Rattle.fill_base.proofs.Signed.{read}
use Rattle.fill_region.specs.Squares.{covered}
use Rattle.fill_region.specs.Runs.{holds}
use Rattle.fill_region.proofs.Members.{square_within}
use Rattle.fill_area.proofs.SharedAreas.{apart_at, apart_more, of_none, same_within}
use Rattle.fill_area.proofs.area.area_in.Goals as goal

pub loop-run-init : goal.loop-run-init
loop-run-init c = ap (λ n. pos n) (of_none c.args.window.now)

more : (c : goal.After-shared_area-total) → FitsSigned w64 (to_z w64 c.loop-run.total-bits +ℤ read c.shared_area-total.result) × (read (to_z w64 c.loop-run.total-bits +ℤ read c.shared_area-total.result) ≡ pos (area_of (covered (take (c.loop-run.run-index + 1) c.runs_level-run-items.result.now)) c.args.window.now))
more c = apart_more c.runs_level-run-items.result.now c.loop-run.run-index c.run-item.result c.args.window.now (to_z w64 c.loop-run.total-bits) c.shared_area-total.result c.loop-run-test.true c.run-item.is
    (apart_at c.runs_level-run-items.result.now c.loop-run.run-index c.run-item.result c.runs_level-run-items.ensures.apart c.loop-run-test.true c.run-item.is) c.loop-run.invariant c.shared_area-total.ensures

pub overflow_add-total : goal.overflow_add-total
overflow_add-total c = (more c).0

pub loop-run-preserved : goal.loop-run-preserved
loop-run-preserved c = (more c).1

-- runs that lie outside of its rows hold nothing of the window
pub returns : goal.returns
returns c = c.loop-run.invariant ∙ (rw (take_all c.loop-run.run-index c.runs_level-run-items.result.now c.loop-run-test.false)
    (ap (λ n. pos n) (same_within (covered c.runs_level-run-items.result.now) (holds c.args.region.now) c.args.window.now (λ x y is.
    let w = square_within c.args.window.now x y is in
    (rw (c.y1.ensures, c.y2.ensures, read_y1 c.args.window.now, read_y2 c.args.window.now) at c.runs_level-run-items.ensures.cover) x y w.1.0 w.1.1))))
