use Rattle.std.proofs.Common.{◌≡◌, sym, ◌∙◌}
use Rattle.fill_raster.specs.Marks.{is_marked}
use Rattle.fill_state.specs.Filling.{Filling, is_filled}
use Rattle.fill_state.proofs.Counted.{next_fits, counted_more, filled_already}
use Rattle.fill_state.proofs.Placing.{given_has, given_place, given_set, on_tile}
use Rattle.fill_state.proofs.filled.Filled.set.Goals as goal

pub set-requires : goal.set-requires
set-requires c =
    let f : Filling = record { raster = c.self.inside.raster; marks = c.self.inside.tiles.items } in let i = c.args.place.i in let j = c.args.place.j in
    let at = on_tile f c.args.self.now c.args.tile i j c.self.view_is c.requires.place in
    given_place f c.args.self.now i j c.args.tile c.index_mut.result.now c.self.invariant.filling c.self.view_is at.0 at.1 c.index_mut.ensures.value

pub overflow_add-self : goal.overflow_add-self
overflow_add-self c = next_fits (record { raster = c.self.inside.raster; marks = c.self.inside.tiles.items }) c.self.inside.count c.self.invariant

pub invariant_of-self : goal.invariant_of-self
invariant_of-self c =
    let f : Filling = record { raster = c.self.inside.raster; marks = c.self.inside.tiles.items } in let i = c.args.place.i in let j = c.args.place.j in
    let at = on_tile f c.args.self.now c.args.tile i j c.self.view_is c.requires.place in
    let is : is_marked c.index.result.now i j ≡ is_filled c.args.self.now i j = given_has f c.args.self.now i j c.args.tile c.index.result.now c.self.invariant.filling c.self.view_is at.0 at.1 c.index.ensures in
    counted_more f c.args.self.now i j c.args.tile c.index_mut.result.now c.set.new.self c.self.inside.count c.self.invariant c.self.view_is at.0 at.1 c.index_mut.ensures.value c.set.ensures.block c.set.ensures.marked
    (sym is ∙ (sym c.has.ensures ∙ c.if-not-has.true))

pub returns-then-not-has-clause-filled : goal.returns-then-not-has-clause-filled
returns-then-not-has-clause-filled c =
    let f : Filling = record { raster = c.self.inside.raster; marks = c.self.inside.tiles.items } in let i = c.args.place.i in let j = c.args.place.j in
    let at = on_tile f c.args.self.now c.args.tile i j c.self.view_is c.requires.place in
    given_set f c.args.self.now i j c.args.tile c.index_mut.result.now c.set.new.self c.self.invariant.filling c.self.view_is at.0 at.1 c.index_mut.ensures.value c.set.ensures.marked

pub returns-else-not-has-clause-filled : goal.returns-else-not-has-clause-filled
returns-else-not-has-clause-filled c =
    let f : Filling = record { raster = c.self.inside.raster; marks = c.self.inside.tiles.items } in let i = c.args.place.i in let j = c.args.place.j in
    let at = on_tile f c.args.self.now c.args.tile i j c.self.view_is c.requires.place in
    let is : is_marked c.index.result.now i j ≡ is_filled c.args.self.now i j = given_has f c.args.self.now i j c.args.tile c.index.result.now c.self.invariant.filling c.self.view_is at.0 at.1 c.index.ensures in
    filled_already (is_filled c.args.self.now) i j (sym is ∙ (sym c.has.ensures ∙ c.if-not-has.false))
