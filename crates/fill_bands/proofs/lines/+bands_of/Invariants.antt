use Rattle.std.specs.Prelude.{length}
use Rattle.fill_bands.proofs.lines.+bands_of.Given as goal

abbrev pub decreases-bands_of : goal.decreases-bands_of
decreases-bands_of l = length l.rects.now
