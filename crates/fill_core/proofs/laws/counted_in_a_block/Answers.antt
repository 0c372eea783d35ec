use Rattle.fill_core.proofs.Blocks.{counted_in_block}
use Rattle.fill_core.proofs.laws.counted_in_a_block.Goals as goal

pub returns : goal.returns
returns c = counted_in_block
