use Rattle.fill_raster.proofs.Blocks.{block_reckoned}
use Rattle.fill_raster.proofs.Tiling.{lattice}
use Rattle.fill_raster.proofs.raster.Raster.block.Goals as goal

pub returns : goal.returns
returns c =
    let b = block_reckoned (lattice c.self.inside.across c.self.inside.up) c.args.tile c.tile_column-column.result c.tile_row-row.result _ _ _ _ c.self.invariant (rw (← c.self.view_is) at c.requires)
    (rw (← c.self.view_is) at c.tile_column-column.ensures.column) (rw (← c.self.view_is) at c.tile_row-row.ensures.row)
    c.band_first.ensures c.band_first-2.ensures c.band_past.ensures c.band_past-2.ensures in
    rw (← c.self.view_is) (record { block = b.block; places = b.places_are })
