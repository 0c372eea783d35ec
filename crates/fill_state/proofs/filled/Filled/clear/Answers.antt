use Rattle.std.proofs.Common.{sym, ◌∙◌}
use Rattle.fill_state.specs.Filling.{is_filled}
use Rattle.fill_state.proofs.Counted.{counted_less, empty_already}
use Rattle.fill_state.proofs.Placing.{given_place, given_cleared}
use Rattle.fill_state.proofs.filled.Filled.clear.Goals as goal

pub clear-requires : goal.clear-requires
clear-requires c =
    given_place (record { raster = c.self.inside.raster; marks = c.self.inside.tiles.items }) c.args.self.now c.args.place.i c.args.place.j c.tile_of-tile.result c.index_mut.result.now
    c.self.invariant.filling c.self.view_is c.requires c.tile_of-tile.ensures.tile c.index_mut.ensures.value

pub overflow_sub-self : goal.overflow_sub-self
overflow_sub-self c =
    (counted_less (record { raster = c.self.inside.raster; marks = c.self.inside.tiles.items })
    c.args.self.now c.args.place.i c.args.place.j c.tile_of-tile.result c.index_mut.result.now c.clear.new.self c.self.inside.count c.self.invariant c.self.view_is c.requires c.tile_of-tile.ensures.tile c.index_mut.ensures.value c.clear.ensures.block c.clear.ensures.marked (sym c.has.ensures ∙ c.if-has.true)).some

pub invariant_of-self : goal.invariant_of-self
invariant_of-self c =
    (counted_less (record { raster = c.self.inside.raster; marks = c.self.inside.tiles.items })
    c.args.self.now c.args.place.i c.args.place.j c.tile_of-tile.result c.index_mut.result.now c.clear.new.self c.self.inside.count c.self.invariant c.self.view_is c.requires c.tile_of-tile.ensures.tile c.index_mut.ensures.value c.clear.ensures.block c.clear.ensures.marked (sym c.has.ensures ∙ c.if-has.true)).counted

pub returns-then-has-clause-filled : goal.returns-then-has-clause-filled
returns-then-has-clause-filled c =
    given_cleared (record { raster = c.self.inside.raster; marks = c.self.inside.tiles.items }) c.args.self.now c.args.place.i c.args.place.j c.tile_of-tile.result c.index_mut.result.now c.clear.new.self
    c.self.invariant.filling c.self.view_is c.requires c.tile_of-tile.ensures.tile c.index_mut.ensures.value c.clear.ensures.marked

pub returns-else-has-clause-filled : goal.returns-else-has-clause-filled
returns-else-has-clause-filled c = empty_already (is_filled c.args.self.now) c.args.place.i c.args.place.j (sym c.has.ensures ∙ c.if-has.false)
