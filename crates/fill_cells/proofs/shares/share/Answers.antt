use Rattle.std.proofs.Common.{arith}
use Rattle.std.specs.Global.{Vec}
use Rattle.fill_base.specs.declared.rect.Rect.{Rect}
use Rattle.fill_region.specs.Squares.{covered}
use Rattle.fill_cells.specs.steps.Parts.{cell_squares}
use Rattle.fill_cells.proofs.Sharing.{more_to_none, more_to_more, shared_all}
use Rattle.fill_cells.proofs.shares.share.Goals as goal

pub loop-k-init : goal.loop-k-init
loop-k-init c = (omega arith, more_to_none (Vec Rect) (λ v. covered v.items) (cell_squares c.args.row.now) c.args.cuts.now c.args.rect.now c.gaps_met-met.result.start c.args.lists.now)

pub loop-k-preserved : goal.loop-k-preserved
loop-k-preserved c =
    let more = more_to_more (Vec Rect) (λ v. covered v.items) (cell_squares c.args.row.now) c.args.cuts.now c.args.rect.now c.gaps_met-met.result.start c.loop-k.k c.args.lists.now c.loop-k.lists c.share_at.new.lists
    c.loop-k.invariant.0 c.loop-k.invariant.1 c.in_ok-share_at.ensures in
    (omega (arith, c.loop-k.invariant.0), more)

pub returns : goal.returns
returns c = shared_all c.args.row.now c.args.rect.now c.args.cuts.now c.x1.result c.x2.result c.gaps_met-met.result.start c.loop-k.k c.gaps_met-met.result.end c.args.lists.now c.loop-k.lists
    c.x1.ensures c.x2.ensures c.gaps_met-met.ensures c.loop-k-test.false c.loop-k.invariant.1
