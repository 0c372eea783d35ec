use Rattle.std.proofs.Common.{◌∙◌, ap, arith}
use Rattle.gds_cells.specs.Placements.{composed}
use Rattle.gds_cells.specs.steps.Prepared.{way_back}
use Rattle.gds_cells.proofs.Within.{within_next}
use Rattle.gds_cells.proofs.Placing.{way_read, way_short}
use Rattle.gds_cells.proofs.shapes.from_corner.Goals as goal

pub after-requires-clause-inner : goal.after-requires-clause-inner
after-requires-clause-inner c =
    let b = c.args.extent.now in
    let short = way_short b c.requires.near in
    rw (way_read b c.shift.result c.requires.near c.shift.ensures) (record { x = omega arith; y = omega arith })

pub returns-clause-is : goal.returns-clause-is
returns-clause-is c = c.after.ensures ∙ ap (composed c.args.at.now) (way_read c.args.extent.now c.shift.result c.requires.near c.shift.ensures)

pub returns-clause-within : goal.returns-clause-within
returns-clause-within c =
    let b = c.args.extent.now in
    rw (c.after.ensures, way_read b c.shift.result c.requires.near c.shift.ensures) (within_next 257 c.args.at.now (way_back b) c.requires.within (way_short b c.requires.near))
