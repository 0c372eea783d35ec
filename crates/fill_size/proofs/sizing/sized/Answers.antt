use Rattle.std.proofs.lemmas.Result.{IfOk-weaker}
use Rattle.fill_region.specs.Runs.{holds}
use Rattle.fill_size.proofs.Growing.{run_fits, turn_sized, all_sized}
use Rattle.fill_size.proofs.sizing.sized.Goals as goal

pub grown_rect-requires-clause-fits : goal.grown_rect-requires-clause-fits
grown_rect-requires-clause-fits c = run_fits c.args.region.now c.runs-run-items.result.now c.loop-run.run-index c.run-item.result c.args.d
    c.requires.growth c.requires.fits c.runs-run-items.ensures.cover c.loop-run-test.true c.run-item.is

pub loop-run-preserved : goal.loop-run-preserved
loop-run-preserved c = turn_sized c.runs-run-items.result.now c.loop-run.grown.items c.push.new.self.items c.loop-run.run-index c.run-item.result c.grown_rect.result c.args.d
    c.requires.growth c.loop-run-test.true c.run-item.is c.in_ok-push.ensures.items c.grown_rect.ensures.left c.grown_rect.ensures.bottom c.grown_rect.ensures.right c.grown_rect.ensures.top c.loop-run.invariant

pub returns : goal.returns
returns c = IfOk-weaker c.from_rects.result _ _ (λ r squares_now. all_sized (holds c.args.region.now) (holds r) c.runs-run-items.result.now c.loop-run.grown.items c.deref.result.now c.loop-run.run-index c.args.d
    c.requires.growth c.loop-run-test.false c.deref.ensures.value c.runs-run-items.ensures.cover squares_now c.loop-run.invariant) c.from_rects.ensures.squares
