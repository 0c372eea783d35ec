use Rattle.std.proofs.Common.{◌≡◌, refl, ◌∙◌, ◌<◌, true, length, rules}
use Rattle.std.proofs.lemmas.Bool.{and_from}
use Rattle.std.proofs.lemmas.Option.{slice_get_read}
use Rattle.fill_base.proofs.Signed.{read, read_is, is_lt, not_lt, le_trans}
use Rattle.fill_raster.specs.Axes.{past}
use Rattle.fill_raster.specs.Lattice.{IsLattice, in_raster}
use Rattle.fill_raster.proofs.Reading.{past_read}
use Rattle.fill_raster.proofs.Searching.{here, none_between}
use Rattle.gds_out.specs.Places.{marked_by}
use Rattle.gds_out.proofs.Corners.{on_axis}
use Rattle.gds_out.proofs.Along.{of_its_tile, found_here, tile_passed, IsPassed, shorter, row_ends}
use Rattle.gds_out.proofs.columns.column_from.Goals as goal

pub tile_of-tile-requires : goal.tile_of-tile-requires
tile_of-tile-requires c =
    let r = c.args.raster in
    let is : IsLattice r = search rules in
    let jr : read c.args.place.j ≡ c.args.place.j = read_is _ (search rules) in
    let lt = is_lt c.loop-i.i (past r.across) (rw (c.loop-i.i-is, c.columns-past.ensures.past, past_read r.across is.across) at c.loop-i-test.true) in
    let low = le_trans _ _ _ c.requires.from (rw c.loop-i.i-is at c.loop-i.invariant.from) in
    rw (c.loop-i.i-is, jr) (and_from _ _ (on_axis r.across c.loop-i.i is.across low lt) c.requires.row)

pub first_from-requires : goal.first_from-requires
first_from-requires c =
    let r = c.args.raster in let i = c.loop-i.i in let j = c.args.place.j in
    let is : IsLattice r = search rules in
    let jr : read j ≡ j = read_is _ (search rules) in
    let lt = is_lt i (past r.across) (rw (c.loop-i.i-is, c.columns-past.ensures.past, past_read r.across is.across) at c.loop-i-test.true) in
    let low = le_trans _ _ _ c.requires.from (rw c.loop-i.i-is at c.loop-i.invariant.from) in
    let on : in_raster r i j ≡ true = and_from _ _ (on_axis r.across i is.across low lt) c.requires.row in
    let inside = of_its_tile r c.tile_of-tile.result i j on (rw (c.loop-i.i-is, jr) at c.tile_of-tile.ensures.tile) in
    let below : c.tile_of-tile.result < length c.args.marks.now = rw c.requires.tiles.count c.tile_of-tile.ensures.index in
    let here = slice_get_read c.args.marks.now _ c.tile_of-tile.result c.index-marks-tile.result refl below c.index-marks-tile.is in
    rw (c.loop-i.i-is, jr) (c.requires.tiles.places c.tile_of-tile.result c.index-marks-tile.result here i j ∙ inside)

pub returns-in-Some : goal.returns-in-Some
returns-in-Some c =
    let r = c.args.raster in let i = c.loop-i.i in let j = c.args.place.j in
    let is : IsLattice r = search rules in
    let jr : read j ≡ j = read_is _ (search rules) in
    let kr : read c.in-Some.k ≡ c.in-Some.k = read_is _ (search rules) in
    let lt = is_lt i (past r.across) (rw (c.loop-i.i-is, c.columns-past.ensures.past, past_read r.across is.across) at c.loop-i-test.true) in
    let from = rw c.loop-i.i-is at c.loop-i.invariant.from in
    let low = le_trans _ _ _ c.requires.from from in
    let on : in_raster r i j ≡ true = and_from _ _ (on_axis r.across i is.across low lt) c.requires.row in
    let inside = of_its_tile r c.tile_of-tile.result i j on (rw (c.loop-i.i-is, jr) at c.tile_of-tile.ensures.tile) in
    let below : c.tile_of-tile.result < length c.args.marks.now = rw c.requires.tiles.count c.tile_of-tile.ensures.index in
    let here = slice_get_read c.args.marks.now _ c.tile_of-tile.result c.index-marks-tile.result refl below c.index-marks-tile.is in
    let found = rw (c.loop-i.i-is, jr) at c.in-Some.ensures.found in
    rw kr (found_here r c.args.marks.now c.tile_of-tile.result c.index-marks-tile.result c.args.place.i i j c.in-Some.k c.args.marked is c.requires.tiles here below
    from (rw c.loop-i.i-is at c.loop-i.invariant.before) inside found.0 found.1 found.2 (rw (c.loop-i.i-is, jr) at c.in-Some.ensures.before))

turn : (c : goal.After-struct_told-in-loop-i-2-1) → IsPassed c.args.raster c.args.marks.now c.args.place.i c.loop-i.i c.args.place.j c.places-i.result.0.end c.args.marked
turn c =
    let r = c.args.raster in let i = c.loop-i.i in let j = c.args.place.j in
    let is : IsLattice r = search rules in
    let jr : read j ≡ j = read_is _ (search rules) in
    let lt = is_lt i (past r.across) (rw (c.loop-i.i-is, c.columns-past.ensures.past, past_read r.across is.across) at c.loop-i-test.true) in
    let from = rw c.loop-i.i-is at c.loop-i.invariant.from in
    let low = le_trans _ _ _ c.requires.from from in
    let on : in_raster r i j ≡ true = and_from _ _ (on_axis r.across i is.across low lt) c.requires.row in
    let inside = of_its_tile r c.tile_of-tile.result i j on (rw (c.loop-i.i-is, jr) at c.tile_of-tile.ensures.tile) in
    let below : c.tile_of-tile.result < length c.args.marks.now = rw c.requires.tiles.count c.tile_of-tile.ensures.index in
    let here = slice_get_read c.args.marks.now _ c.tile_of-tile.result c.index-marks-tile.result refl below c.index-marks-tile.is in
    tile_passed r c.args.marks.now c.tile_of-tile.result c.index-marks-tile.result c.args.place.i i j _ _ _ _ c.args.marked is c.requires.tiles here below
    from (rw c.loop-i.i-is at c.loop-i.invariant.before) inside c.places-i.ensures.columns c.places-i.ensures.places (rw (c.loop-i.i-is, jr) at c.in_default.ensures.none)

end_read : (c : goal.After-struct_told-in-loop-i-2-1) → read c.places-i.result.0.end ≡ c.places-i.result.0.end
end_read c = read_is _ (search rules)

pub loop-i-smaller : goal.loop-i-smaller
loop-i-smaller c = rw (c.loop-i.i-is, end_read c) (shorter _ _ _ (turn c).after (turn c).to)

pub loop-i-preserved : goal.loop-i-preserved
loop-i-preserved c = rw (end_read c) (record { from = (turn c).from; to = (turn c).to; before = (turn c).before })

pub returns : goal.returns
returns c =
    let r = c.args.raster in
    let is : IsLattice r = search rules in
    let p : read c.columns-past.result.end ≡ past r.across = rw c.columns-past.ensures.past (past_read r.across is.across) in
    let over = not_lt c.loop-i.i (past r.across) (rw (c.loop-i.i-is, p) at c.loop-i-test.false) in
    let inv = rw c.loop-i.i-is at c.loop-i.invariant in
    rw p (row_ends r _ c.args.place.i c.loop-i.i c.args.place.j (past r.across) c.args.marked refl c.requires.to inv.to over inv.before)

pub loop-i-init : goal.loop-i-init
loop-i-init c =
    rw (read_is c.args.place.i (search rules)) (record {
      from = here c.args.place.i;
      to = c.requires.to;
      before = none_between (λ k. marked_by c.args.marks.now k c.args.place.j) c.args.marked c.args.place.i;
    })
