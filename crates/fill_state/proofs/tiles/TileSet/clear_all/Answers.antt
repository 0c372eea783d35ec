use Rattle.fill_state.proofs.TileWords.{none_in}
use Rattle.fill_state.proofs.tiles.TileSet.clear_all.Goals as goal

pub returns-clause-none : goal.returns-clause-none
returns-clause-none c = none_in c.self.inside.count _ c.fill.new.self.items (c.fill.ensures.items (λ y same. same))
