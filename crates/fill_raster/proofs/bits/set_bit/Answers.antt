use Rattle.fill_raster.proofs.Setting.{bit_set}
use Rattle.fill_raster.proofs.bits.set_bit.Goals as goal

pub returns-clause-bits : goal.returns-clause-bits
returns-clause-bits c = λ n. bit_set c.args.words.now c.args.k n c.requires
