use Rattle.std.proofs.Common.{◌≡◌, ℤ, ◌||◌, take}
use Rattle.fill_region.specs.Squares.{covered}
use Rattle.gds_cells.specs.Placements.{carried}
use Rattle.gds_cells.proofs.shapes.carry_pieces.Given as goal

abbrev pub invariant-pieces : goal.invariant-pieces
invariant-pieces l = (x y : ℤ) → covered l.out.items x y ≡ (covered l.initial.out.items x y || carried l.at (covered (take l.piece-index l.pieces)) x y)
