use Rattle.fill_cells.proofs.DistinctCuts.{are_cuts, same_cuts}
use Rattle.fill_cells.proofs.cuts.cuts_at.Goals as goal

pub returns-clause-cuts : goal.returns-clause-cuts
returns-clause-cuts c = are_cuts c.args.coordinates.items c.sort_unstable.new.self.items c.dedup.new.self.items c.requires
    c.sort_unstable.ensures.permutation c.sort_unstable.ensures.sorted c.dedup.ensures.filtered

pub returns-clause-same : goal.returns-clause-same
returns-clause-same c = same_cuts c.args.coordinates.items c.sort_unstable.new.self.items c.dedup.new.self.items
    c.sort_unstable.ensures.permutation c.dedup.ensures.filtered
