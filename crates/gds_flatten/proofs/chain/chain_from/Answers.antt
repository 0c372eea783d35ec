use Rattle.std.proofs.Common.{sym, subst}
use Rattle.gds_flatten.specs.steps.Chains.{LeadsTo}
use Rattle.gds_flatten.proofs.Chained.{chain_begins}
use Rattle.gds_flatten.proofs.chain.chain_from.Goals as goal

pub loop-init : goal.loop-init
loop-init c =
    subst (LeadsTo c.args.cells.now c.args.counts.now c.args.depth c.args.index c.args.depth c.args.index) (sym c.shift.ensures)
    (chain_begins c.args.cells.now c.args.counts.now c.args.depth c.args.index c.requires.counted)
