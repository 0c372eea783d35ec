use Rattle.gds_flatten.specs.steps.Chains.{LeadsTo}
use Rattle.gds_flatten.proofs.chain.chain_from.Given as goal

abbrev pub invariant-loop : goal.invariant-loop
invariant-loop l = LeadsTo l.fn.cells l.fn.counts l.fn.depth l.fn.index l.chain.depth l.chain.cell l.chain.placement
