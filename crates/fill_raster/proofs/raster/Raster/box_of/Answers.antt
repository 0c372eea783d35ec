use Rattle.std.proofs.Common.{refl, ◌∙◌}
use Rattle.fill_raster.proofs.Tiling.{lattice, box_corners}
use Rattle.fill_raster.proofs.raster.Raster.box_of.Goals as goal

pub from_edges-requires : goal.from_edges-requires
from_edges-requires c =
    let b = box_corners (lattice c.self.inside.across c.self.inside.up) c.args.place.i c.args.place.j c.box_begin.result c.box_begin-2.result c.box_end.result c.box_end-2.result
    c.self.invariant (rw (← c.self.view_is) at c.requires) c.box_begin.ensures c.box_begin-2.ensures c.box_end.ensures c.box_end-2.ensures in
    record { wide = b.wide; tall = b.tall; left = b.low_x; bottom = b.low_y; right = b.high_x; top = b.high_y }

pub returns : goal.returns
returns c =
    let b = box_corners (lattice c.self.inside.across c.self.inside.up) c.args.place.i c.args.place.j c.box_begin.result c.box_begin-2.result c.box_end.result c.box_end-2.result
    c.self.invariant (rw (← c.self.view_is) at c.requires) c.box_begin.ensures c.box_begin-2.ensures c.box_end.ensures c.box_end-2.ensures in
    let e = c.from_edges.ensures in
    rw (← c.self.view_is) (record {
      squares = λ x y. rw (e.0, e.1, e.2, e.3, b.left_is, b.bottom_is, b.right_is, b.top_is) refl;
      left = e.0 ∙ b.left_is;
      bottom = e.1 ∙ b.bottom_is;
      right = e.2 ∙ b.right_is;
      top = e.3 ∙ b.top_is;
    })
