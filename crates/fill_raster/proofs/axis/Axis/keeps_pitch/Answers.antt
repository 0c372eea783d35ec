use Rattle.fill_raster.proofs.Reading.{pitch_test}
use Rattle.fill_raster.proofs.axis.Axis.keeps_pitch.Goals as goal

pub returns : goal.returns
returns c = pitch_test c.args.self c.args.spacing c.requires.axis c.requires.spacing
