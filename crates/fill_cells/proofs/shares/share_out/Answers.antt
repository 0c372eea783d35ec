use Rattle.std.proofs.Common.{ap, subst, sym, take, ◌+◌, ◌∙◌}
use Rattle.std.specs.Global.{Vec}
use Rattle.fill_base.specs.declared.rect.Rect.{Rect}
use Rattle.fill_region.specs.Squares.{covered}
use Rattle.fill_cells.specs.steps.Parts.{cell_squares, AreShares, AreShared}
use Rattle.fill_cells.proofs.Sharing.{lists_none, lists_more, lists_all, kept_after}
use Rattle.fill_cells.proofs.shares.share_out.Goals as goal

pub loop-rect-init : goal.loop-rect-init
loop-rect-init c = lists_none (Vec Rect) (λ v. covered v.items) (cell_squares c.args.row.now) c.args.cuts.now c.args.rects.now c.empty_all.new.lists.items c.in_ok-empty_all.ensures.count
    (λ k e k_in x y. ap (λ zs. covered zs x y) (c.in_ok-empty_all.ensures.empty k e k_in))

pub loop-rect-preserved : goal.loop-rect-preserved
loop-rect-preserved c =
    kept_after (λ xs. AreShares c.args.row.now c.args.cuts.now (covered (take (c.loop-rect.rect-index + 1) c.args.rects.now)) xs) c.loop-rect.lists.len c.share.new.lists _
    (sym c.deref_mut.ensures.len ∙ sym c.share.auto.lists)
    (lists_more (Vec Rect) (λ v. covered v.items) (cell_squares c.args.row.now) c.args.cuts.now c.args.rects.now c.rect-item.result c.loop-rect.rect-index c.loop-rect.lists.items c.share.new.lists
    c.loop-rect-test.true c.rect-item.is c.loop-rect.invariant
    (subst (λ xs. AreShared c.args.row.now c.args.cuts.now c.rect-item.result xs c.share.new.lists) c.deref_mut.ensures.value c.in_ok-share.ensures))

pub returns : goal.returns
returns c = lists_all (Vec Rect) (λ v. covered v.items) (cell_squares c.args.row.now) c.args.cuts.now c.args.rects.now c.loop-rect.rect-index c.loop-rect.lists.items c.loop-rect-test.false c.loop-rect.invariant
