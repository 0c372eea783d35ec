use Rattle.std.proofs.Common.{length}
use Rattle.densfill_engine.proofs.metal.+patch_of.Given as goal

abbrev pub decreases-patch_of : goal.decreases-patch_of
decreases-patch_of l = length l.edits.now
