use Rattle.std.proofs.Common.{◌+◌, ◌*◌}
use Rattle.fill_region.proofs.cuts.+parts.Given as goal

abbrev pub decreases-runs_within : goal.decreases-runs_within
decreases-runs_within g l = 2 * l.cuts

abbrev pub decreases-first : goal.decreases-first
decreases-first g l = 2 * l.left + 1

abbrev pub decreases-second : goal.decreases-second
decreases-second g l = 2 * l.left + 1
