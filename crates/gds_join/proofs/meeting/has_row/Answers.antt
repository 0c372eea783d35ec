use Rattle.std.proofs.Common.{ap, ◌∙◌, rules}
use Rattle.fill_raster.specs.Axes.{is_on}
use Rattle.fill_raster.specs.Lattice.{IsLattice, Lattice}
use Rattle.fill_raster.proofs.Reading.{has_reckoned}
use Rattle.gds_join.proofs.meeting.has_row.Goals as goal

pub returns : goal.returns
returns c =
    let is : IsLattice c.raster.result = search rules in
    has_reckoned c.raster.result.up c.args.j c.rows-rows.result.start c.rows-rows.result.end is.up c.ranges.j c.rows-rows.ensures.first c.rows-rows.ensures.past
    ∙ ap (λ (r : Lattice). is_on r.up c.args.j) c.raster.ensures
