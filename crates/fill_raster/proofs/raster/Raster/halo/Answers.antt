use Rattle.std.proofs.Common.{◌∙◌}
use Rattle.fill_raster.proofs.Blocks.{halo_reckoned}
use Rattle.fill_raster.proofs.Tiling.{lattice}
use Rattle.fill_raster.proofs.raster.Raster.halo.Goals as goal

pub from_edges-requires : goal.from_edges-requires
from_edges-requires c =
    let h = halo_reckoned (lattice c.self.inside.across c.self.inside.up) c.args.tile c.tile_column-column.result c.tile_row-row.result c.args.spacing c.halo_begin.result c.halo_end.result c.halo_begin-2.result c.halo_end-2.result
    c.self.invariant (rw (← c.self.view_is) at c.requires.tile) c.requires.spacing (rw (← c.self.view_is) at c.tile_column-column.ensures.column) (rw (← c.self.view_is) at c.tile_row-row.ensures.row)
    c.halo_begin.ensures c.halo_end.ensures c.halo_begin-2.ensures c.halo_end-2.ensures in
    rw (h.left_is, h.right_is, h.bottom_is, h.top_is) (record { wide = h.across.some; tall = h.up.some; left = h.across.least; bottom = h.up.least; right = h.across.most; top = h.up.most })

pub returns : goal.returns
returns c =
    let h = halo_reckoned (lattice c.self.inside.across c.self.inside.up) c.args.tile c.tile_column-column.result c.tile_row-row.result c.args.spacing c.halo_begin.result c.halo_end.result c.halo_begin-2.result c.halo_end-2.result
    c.self.invariant (rw (← c.self.view_is) at c.requires.tile) c.requires.spacing (rw (← c.self.view_is) at c.tile_column-column.ensures.column) (rw (← c.self.view_is) at c.tile_row-row.ensures.row)
    c.halo_begin.ensures c.halo_end.ensures c.halo_begin-2.ensures c.halo_end-2.ensures in
    let e = c.from_edges.ensures in
    rw (← c.self.view_is) (record {
      left = e.0 ∙ h.left_is;
      bottom = e.1 ∙ h.bottom_is;
      right = e.2 ∙ h.right_is;
      top = e.3 ∙ h.top_is;
      squares = λ x y range. rw (e.0, e.1, e.2, e.3) (h.squares_are x y range);
    })
