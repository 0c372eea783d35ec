use Rattle.gds_flatten.proofs.Chained.{chain_goes_on}
use Rattle.gds_flatten.proofs.chain.Chain.longer.Goals as goal

pub returns : goal.returns
returns c counts depth index leads =
    let some = c.in_ok-cell.ensures.some in
    chain_goes_on c.args.cells.now counts depth index c.args.self.depth c.args.self.cell c.args.self.placement c.single.result c.after.result c.in_ok-cell.cell.now c.in_ok-link.link.now
    leads some.0 some.1 c.in_ok-link.ensures c.single.ensures.is c.single.ensures.near c.after.ensures
