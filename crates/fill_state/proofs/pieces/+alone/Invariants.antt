use Rattle.std.proofs.Common.{◌-◌}
use Rattle.fill_state.proofs.pieces.+alone.Given as goal

abbrev pub decreases-pieces_alone : goal.decreases-pieces_alone
decreases-pieces_alone l = l.to - l.from
