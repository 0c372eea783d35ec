use Rattle.std.proofs.Common.{sym, ◌∙◌, subst}
use Rattle.fill_state.specs.Filling.{Filling, IsFilling}
use Rattle.fill_state.proofs.LastTile.{tile_below}
use Rattle.fill_state.proofs.filled.Filled.tile_after.Goals as goal

pub returns-then-is_of_tile-clause-index : goal.returns-then-is_of_tile-clause-index
returns-then-is_of_tile-clause-index c =
    tile_below c.args.self.now c.args.last c.args.place.i c.args.place.j (subst (λ (f : Filling). IsFilling f) c.self.view_is c.self.invariant.filling) (sym c.is_of_tile.ensures ∙ c.if-is_of_tile.true)
