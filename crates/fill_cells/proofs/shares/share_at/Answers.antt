use Rattle.std.proofs.Common.{arith, ap, subst, ◌<◌, ◌≡◌, ◌∙◌, ℤ, length, w64, FitsSigned}
use Rattle.std.specs.Global.{Vec}
use Rattle.std.proofs.lemmas.List.{get_or_default}
use Rattle.fill_base.specs.declared.rect.Rect.{Rect}
use Rattle.fill_base.proofs.Signed.{read, read_is}
use Rattle.fill_region.specs.Squares.{covered}
use Rattle.fill_cells.specs.steps.Parts.{cell_squares}
use Rattle.fill_cells.specs.steps.Within.{AreMore}
use Rattle.fill_cells.proofs.Lists.{y1_fits, y2_fits}
use Rattle.fill_cells.proofs.Sharing.{more_at, cell_within}
use Rattle.fill_cells.proofs.shares.share_at.Goals as goal

pub returns : goal.returns
returns c =
    let within : c.args.k < length c.args.lists.now = omega (arith, c.requires.count, c.requires.within) in
    more_at (Vec Rect) (λ v. covered v.items) (cell_squares c.args.row.now) c.args.cuts.now c.args.rect.now c.args.k c.args.lists.now c.hold.new.list within
    (λ d e x y inside. subst (λ (v : Vec Rect). AreMore c.from_edges-cell.result c.args.rect.now v.items c.hold.new.list.items) (get_or_default c.args.lists.now c.args.k c.index-lists-k.result e within) c.in_ok-hold.ensures x y
    (cell_within c.args.row.now c.from_edges-cell.result c.args.cuts.now c.args.k c.requires.cuts c.requires.within (
      c.from_edges-cell.ensures.0,
      edge c.y1.result c.args.row.now.y1 c.from_edges-cell.result.y1 (y1_fits c.args.row.now) c.y1.ensures c.from_edges-cell.ensures.1,
      c.from_edges-cell.ensures.2,
      edge c.y2.result c.args.row.now.y2 c.from_edges-cell.result.y2 (y2_fits c.args.row.now) c.y2.ensures c.from_edges-cell.ensures.3,
    ) d x y inside))
  where
    edge : (z y e : ℤ) → FitsSigned w64 y → z ≡ y → e ≡ read z → e ≡ y
    edge z y e fits is at = at ∙ (ap read is ∙ read_is y fits)
