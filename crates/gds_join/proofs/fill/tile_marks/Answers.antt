use Rattle.std.proofs.Common.{◌∙◌, ap, subst, rules}
use Rattle.fill_raster.specs.Lattice.{IsLattice, in_raster, tiles}
use Rattle.fill_state.specs.Filling.{is_filled}
use Rattle.gds_join.proofs.Marked.{all_first, marks_are, one_more_tile}
use Rattle.gds_join.proofs.Telling.{first_holds}
use Rattle.gds_join.proofs.fill.tile_marks.Goals as goal

pub loop-tile-preserved : goal.loop-tile-preserved
loop-tile-preserved c =
    one_more_tile c.args.filled.now.raster (is_filled c.args.filled.now) c.loop-tile.marks.items c.push.new.self.items c.marks.result c.loop-tile.tile
    c.loop-tile.invariant c.in_ok-push.ensures.items (record { block = c.marks.ensures.tile; marked = c.marks.ensures.marked })

pub returns-clause-tiles : goal.returns-clause-tiles
returns-clause-tiles c =
    let all = all_first c.args.filled.now.raster (is_filled c.args.filled.now) c.loop-tile.marks.items c.loop-tile.tile c.tiles-count.result
    c.loop-tile.invariant c.loop-tile-test.false c.loop-tile.auto.tile-end (c.tiles-count.ensures ∙ ap tiles c.raster.ensures) in
    record { count = all.count; places = λ t m at. (all.each t m at).block }

pub returns-clause-marked : goal.returns-clause-marked
returns-clause-marked c =
    let all = all_first c.args.filled.now.raster (is_filled c.args.filled.now) c.loop-tile.marks.items c.loop-tile.tile c.tiles-count.result
    c.loop-tile.invariant c.loop-tile-test.false c.loop-tile.auto.tile-end (c.tiles-count.ensures ∙ ap tiles c.raster.ensures) in
    let found : IsLattice c.raster.result = search rules in
    marks_are c.args.filled.now.raster (is_filled c.args.filled.now) c.loop-tile.marks.items (subst IsLattice c.raster.ensures found) all.count (λ t m at. (all.each t m at).marked)
    (λ i j h. first_holds (in_raster c.args.filled.now.raster i j) _ h)
