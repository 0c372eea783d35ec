use Rattle.gds_cells.proofs.Pointing.{moved_along}
use Rattle.gds_cells.proofs.placement.Placement.point_y.Goals as goal
use Rattle.gds_cells.proofs.placement.Placement.point_y.Goals.{then-self, else-self}

pub returns : goal.returns
returns c =
    let p = c.args.self.now in
    elim c.if-self.branch [
      | then-self w ↦ rw w.if-self.true (moved_along p.flip_y c.args.x p.y _ _ c.requires.x c.requires.within.y w.along-is c.signed.ensures)
      | else-self w ↦ rw w.if-self.false (moved_along p.flip_y c.args.y p.y _ _ c.requires.y c.requires.within.y w.along-is c.signed.ensures)
    ]
