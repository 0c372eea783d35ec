use Rattle.std.proofs.Common.{ap, ◌∙◌, pos}
use Rattle.std.proofs.lemmas.Result.{IfOk-weaker}
use Rattle.fill_base.proofs.Signed.{read_is}
use Rattle.fill_region.specs.Squares.{covered}
use Rattle.fill_state.proofs.low.low_windows.Goals as goal

pub returns : goal.returns
returns c =
    let low = rw (read_is c.args.least c.ranges.least) at c.in_ok-low.ensures in
    IfOk-weaker c.from_rects.result _ _ (λ r h a b. h (pos a) (pos b) ∙ (ap (λ rects. covered rects (pos a) (pos b)) c.deref.ensures.value ∙ low a b)) c.from_rects.ensures.squares
