use Rattle.std.proofs.Common.{◌≡◌, ℕ, arith, get_or, ap, ◌∙◌}
use Rattle.std.specs.Global.{Vec}
use Rattle.std.proofs.lemmas.List.{get_or_default}
use Rattle.fill_base.specs.declared.rect.Rect.{Rect}
use Rattle.fill_cells.specs.Mesh.{covered_at, row_squares}
use Rattle.fill_cells.proofs.Sharing.{more_to_none, more_to_more, listed_all}
use Rattle.fill_cells.proofs.rows.put.Goals as goal

pub loop-k-init : goal.loop-k-init
loop-k-init c = (omega arith, λ d. more_to_none (Vec ℕ) (λ v. covered_at c.args.rects.now v.items) row_squares c.args.up.now (get_or c.args.rects.now c.args.place d) c.gaps_met-met.result.start c.args.lists.now)

pub loop-k-preserved : goal.loop-k-preserved
loop-k-preserved c = (
  omega (arith, c.loop-k.invariant.0),
  λ d.
      more_to_more (Vec ℕ) (λ v. covered_at c.args.rects.now v.items) row_squares c.args.up.now (get_or c.args.rects.now c.args.place d) c.gaps_met-met.result.start c.loop-k.k c.args.lists.now c.loop-k.lists c.put_at.new.lists
      c.loop-k.invariant.0 (c.loop-k.invariant.1 d) (c.in_ok-put_at.ensures c.args.rects.now c.args.up.now d c.requires.place),
)

pub returns : goal.returns
returns c =
    let item : (d : Rect) → c.index-rects-place.result ≡ get_or c.args.rects.now c.args.place d = λ d. c.index-rects-place.is ∙ get_or_default c.args.rects.now c.args.place c.index-rects-place.result d c.requires.place in
    λ d. listed_all c.args.rects.now (get_or c.args.rects.now c.args.place d) c.args.up.now c.y1.result c.y2.result c.gaps_met-met.result.start c.loop-k.k c.gaps_met-met.result.end c.args.lists.now c.loop-k.lists
    (c.y1.ensures ∙ ap (λ (q : Rect). q.y1) (item d)) (c.y2.ensures ∙ ap (λ (q : Rect). q.y2) (item d)) c.gaps_met-met.ensures c.loop-k-test.false (c.loop-k.invariant.1 d)
