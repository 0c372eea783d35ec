use Rattle.std.proofs.Common.{◌/◌, arith}
use Rattle.gds_flatten.specs.steps.Roots.{turn_copies}
use Rattle.gds_flatten.proofs.Holding.{turns_join}
use Rattle.gds_flatten.proofs.framed.halves.Goals as goal

pub returns-clause-copies : goal.returns-clause-copies
returns-clause-copies c = λ cells.
    let t = c.args.turns.now in turns_join (turn_copies cells t) t.first (t.number / 2) t.number (omega arith)
