use Rattle.std.proofs.Common.{◌≡◌, ◌∙◌, ap, subst, rules}
use Rattle.fill_raster.specs.Lattice.{IsLattice, tiles}
use Rattle.fill_text.specs.Rules.{Values, raster_of}
use Rattle.fill_job.specs.Plans.{plan_of}
use Rattle.fill_core.specs.Accounts.{opening_of, state_of}
use Rattle.fill_core.specs.Histories.{events_in}
use Rattle.fill_core.proofs.Replays.{filled_allowed}
use Rattle.gds_join.proofs.Marked.{all_first, marks_are, one_more_tile}
use Rattle.densfill_engine.proofs.texts.marks_of.Goals as goal

pub loop-tile-preserved : goal.loop-tile-preserved
loop-tile-preserved g c =
    let a = g.B.FillBook.account c.args.book.now in
    one_more_tile (plan_of a.rules).raster (state_of a).fill c.loop-tile.marks.items c.push.new.self.items c.marks.result c.loop-tile.tile
    c.loop-tile.invariant c.in_ok-push.ensures.items (record { block = c.marks.ensures.tile; marked = c.marks.ensures.marked })

pub returns-clause-tiles : goal.returns-clause-tiles
returns-clause-tiles g c =
    let a = g.B.FillBook.account c.args.book.now in
    let raster : c.raster.result ≡ (plan_of a.rules).raster = c.raster.ensures.raster ∙ ap (λ (v : Values). raster_of v.numbers) c.rules.ensures in
    let all = all_first (plan_of a.rules).raster (state_of a).fill c.loop-tile.marks.items c.loop-tile.tile c.tiles-tile-end.result
    c.loop-tile.invariant c.loop-tile-test.false c.loop-tile.auto.tile-end (c.tiles-tile-end.ensures ∙ ap tiles raster) in
    record { count = all.count; places = λ t m at. (all.each t m at).block }

pub returns-clause-marked : goal.returns-clause-marked
returns-clause-marked g c =
    let a = g.B.FillBook.account c.args.book.now in
    let raster : c.raster.result ≡ (plan_of a.rules).raster = c.raster.ensures.raster ∙ ap (λ (v : Values). raster_of v.numbers) c.rules.ensures in
    let all = all_first (plan_of a.rules).raster (state_of a).fill c.loop-tile.marks.items c.loop-tile.tile c.tiles-tile-end.result
    c.loop-tile.invariant c.loop-tile-test.false c.loop-tile.auto.tile-end (c.tiles-tile-end.ensures ∙ ap tiles raster) in
    let found : IsLattice c.raster.result = search rules in
    marks_are (plan_of a.rules).raster (state_of a).fill c.loop-tile.marks.items (subst IsLattice raster found) all.count (λ t m at. (all.each t m at).marked)
    (λ i j h. (filled_allowed (plan_of a.rules) (opening_of a) (events_in a.history) i j h).0)
