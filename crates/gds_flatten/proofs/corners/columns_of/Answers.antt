use Rattle.std.proofs.Common.{◌-◌, arith}
use Rattle.gds_flatten.proofs.Cornered.{same_row}
use Rattle.gds_flatten.proofs.corners.columns_of.Goals as goal

pub returns-then-from-link-clause-all : goal.returns-then-from-link-clause-all
returns-then-from-link-clause-all c = λ k ge lt.
    same_row c.args.link.now.columns c.args.from k (c.args.to - 1) c.args.link.now.grid.some_columns ge (omega (arith, lt)) c.if-from-link.true
