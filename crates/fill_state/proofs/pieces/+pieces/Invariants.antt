-- How many tiles there are, twice: a half that goes to a thread of its own has one step more.
use Rattle.std.proofs.Common.{◌+◌, ◌-◌, ◌*◌}
use Rattle.fill_state.proofs.pieces.+pieces.Given as goal

abbrev pub decreases-pieces_between : goal.decreases-pieces_between
decreases-pieces_between g l = 2 * (l.to - l.from)

abbrev pub decreases-first : goal.decreases-first
decreases-first g l = 2 * (l.middle - l.from) + 1

abbrev pub decreases-second : goal.decreases-second
decreases-second g l = 2 * (l.to - l.middle) + 1
