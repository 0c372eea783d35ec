use Rattle.std.proofs.Common.{refl, ◌<ℤ◌}
use Rattle.fill_cells.proofs.Halving as halving
use Rattle.fill_cells.proofs.Lists.{edge_is, edge_lt, lt_edge, fits_within, x1_fits, x2_fits, y1_fits, y2_fits}
use Rattle.fill_cells.proofs.area.halves_up.Goals as goal

pub returns : goal.returns
returns c =
    let w = c.args.part.now in
    let m = c.in_ok-middle.middle in
    let low : w.y1 <ℤ m = edge_lt w.y1 c.y1.result m (y1_fits w) c.y1.ensures c.in_ok-middle.ensures.0 in
    let high : m <ℤ w.y2 = lt_edge w.y2 c.y2.result m (y2_fits w) c.y2.ensures c.in_ok-middle.ensures.1 in
    let fits = fits_within w.y1 w.y2 m (y1_fits w) (y2_fits w) low high in
    halving.halves_up w c.from_edges-lower.result c.from_edges-upper.result m low high (
      edge_is w.x1 c.x1.result c.from_edges-lower.result.x1 (x1_fits w) c.x1.ensures c.from_edges-lower.ensures.0,
      edge_is w.y1 c.y1-2.result c.from_edges-lower.result.y1 (y1_fits w) c.y1-2.ensures c.from_edges-lower.ensures.1,
      edge_is w.x2 c.x2.result c.from_edges-lower.result.x2 (x2_fits w) c.x2.ensures c.from_edges-lower.ensures.2,
      edge_is m m c.from_edges-lower.result.y2 fits refl c.from_edges-lower.ensures.3,
    ) (
      edge_is w.x1 c.x1-2.result c.from_edges-upper.result.x1 (x1_fits w) c.x1-2.ensures c.from_edges-upper.ensures.0,
      edge_is m m c.from_edges-upper.result.y1 fits refl c.from_edges-upper.ensures.1,
      edge_is w.x2 c.x2-2.result c.from_edges-upper.result.x2 (x2_fits w) c.x2-2.ensures c.from_edges-upper.ensures.2,
      edge_is w.y2 c.y2-2.result c.from_edges-upper.result.y2 (y2_fits w) c.y2-2.ensures c.from_edges-upper.ensures.3,
    )
