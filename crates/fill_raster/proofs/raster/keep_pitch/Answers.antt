use Rattle.fill_base.proofs.Signed.{read_is}
use Rattle.fill_raster.proofs.Tiling.{both_hold}
use Rattle.fill_raster.proofs.raster.keep_pitch.Goals as goal

pub returns : goal.returns
returns c = both_hold c.keeps_pitch.result c.keeps_pitch-2.result (rw (read_is c.args.fill_spacing c.ranges.fill_spacing) at c.keeps_pitch.ensures) (rw (read_is c.args.fill_spacing c.ranges.fill_spacing) at c.keeps_pitch-2.ensures)
