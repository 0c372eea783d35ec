use Rattle.std.proofs.Common.{◌∙◌, sym, refl, length, rules}
use Rattle.std.proofs.lemmas.Bool.{ltb-true}
use Rattle.std.proofs.lemmas.Option.{slice_get_read}
use Rattle.fill_raster.specs.Lattice.{IsLattice}
use Rattle.gds_out.proofs.Along.{found_in_tile}
use Rattle.gds_out.proofs.columns.column_in_tile.Goals as goal

pub returns-then-has_place : goal.returns-then-has_place
returns-then-has_place c =
    let r = c.args._raster in let marks = c.args.marks.now in let m = c.in_ok-marks.marks.now in
    let is : IsLattice r = search rules in
    let lookup = c.in_ok-marks.ensures.lookup in
    let there = slice_get_read marks (length marks) c.args.tile m refl (ltb-true c.args.tile (length marks) (sym lookup.0)) lookup.1 in
    found_in_tile r marks c.args.tile m c.args.place.i c.args.place.j c.args.marked c.first_from.result is c.requires there
    (sym c.has_place.ensures ∙ c.if-has_place.true) c.first_from.ensures.found c.first_from.ensures.before
