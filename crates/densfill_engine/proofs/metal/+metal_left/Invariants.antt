use Rattle.std.proofs.Common.{length}
use Rattle.densfill_engine.proofs.metal.+metal_left.Given as goal

abbrev pub decreases-metal_left : goal.decreases-metal_left
decreases-metal_left l = length l.edits.now
