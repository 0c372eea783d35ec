use Rattle.std.proofs.Common.{rules}
use Rattle.fill_raster.specs.Lattice.{IsLattice}
use Rattle.fill_raster.proofs.Reading.{has_reckoned}
use Rattle.gds_out.proofs.sheet.has_row.Goals as goal

pub returns : goal.returns
returns c =
    let is : IsLattice c.args.raster = search rules in
    has_reckoned c.args.raster.up c.args.j c.rows-rows.result.start c.rows-rows.result.end is.up c.ranges.j c.rows-rows.ensures.first c.rows-rows.ensures.past
