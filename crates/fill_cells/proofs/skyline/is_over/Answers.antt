use Rattle.std.proofs.Common.{sym, ◌∙◌}
use Rattle.fill_cells.proofs.Lists.{x1_fits, x2_fits, y2_fits}
use Rattle.fill_cells.proofs.Towers.{edge_below, edge_upto, no_more_over}
use Rattle.fill_cells.proofs.skyline.is_over.Goals.{then-y2, else-y2}
use Rattle.fill_cells.proofs.skyline.is_over.Goals as goal

pub returns-then-x1-clause-over : goal.returns-then-x1-clause-over
returns-then-x1-clause-over c high = let yes = c.if-x1.true in elim c.if-y2.branch [
  | then-y2 w ↦ no_more_over c.args.tower.now c.args.rect.now
      (edge_upto c.args.rect.now.x1 c.args.tower.now.x1 w.x1.result w.x1-then-y2.result (x1_fits c.args.rect.now) (x1_fits c.args.tower.now) w.x1.ensures w.x1-then-y2.ensures (sym w.value-is ∙ yes))
      (edge_upto c.args.tower.now.x2 c.args.rect.now.x2 c.x2.result c.x2-then-x1.result (x2_fits c.args.tower.now) (x2_fits c.args.rect.now) c.x2.ensures c.x2-then-x1.ensures high)
      (edge_below c.args.tower.now.y2 c.args.rect.now.y2 c.y2-else-y2-y1.result c.y2-else-y2-y1-2.result (y2_fits c.args.tower.now) (y2_fits c.args.rect.now) c.y2-else-y2-y1.ensures c.y2-else-y2-y1-2.ensures w.if-y2.true)
  | else-y2 w ↦ (let no = w.value-is in absurd (cc (yes, no)))
]
