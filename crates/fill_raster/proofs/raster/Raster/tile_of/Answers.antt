use Rattle.fill_raster.proofs.Tiling.{lattice, row_fits, tile_reckoned}
use Rattle.fill_raster.proofs.raster.Raster.tile_of.Goals as goal

pub overflow_mul-result : goal.overflow_mul-result
overflow_mul-result c = row_fits (lattice c.self.inside.across c.self.inside.up) c.args.place.i c.args.place.j _ _ c.self.invariant (rw (← c.self.view_is) at c.requires) c.band_of.ensures c.bands.ensures

pub overflow_add-result : goal.overflow_add-result
overflow_add-result c =
    (tile_reckoned (lattice c.self.inside.across c.self.inside.up) c.args.place.i c.args.place.j _ _ _ c.self.invariant (rw (← c.self.view_is) at c.requires) c.band_of.ensures c.bands.ensures c.band_of-2.ensures).fits

pub returns : goal.returns
returns c =
    let t = tile_reckoned (lattice c.self.inside.across c.self.inside.up) c.args.place.i c.args.place.j _ _ _ c.self.invariant (rw (← c.self.view_is) at c.requires) c.band_of.ensures c.bands.ensures c.band_of-2.ensures in
    rw (← c.self.view_is) (record { tile = t.tile; index = t.index })
