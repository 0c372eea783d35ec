use Rattle.fill_raster.proofs.Clearing.{bit_cleared}
use Rattle.fill_raster.proofs.bits.clear_bit.Goals as goal

pub returns-clause-bits : goal.returns-clause-bits
returns-clause-bits c = λ n. bit_cleared c.args.words.now c.args.k n c.requires
