use Rattle.fill_raster.proofs.Nearness.{near_both}
use Rattle.fill_raster.proofs.raster.Raster.near.Goals as goal

pub returns-clause-places : goal.returns-clause-places
returns-clause-places c = near_both c.args.self.now c.args.rect.now c.args.spacing c.across.result c.up.result c.x1.result c.x2.result c.y1.result c.y2.result _ _ _ _ c.requires c.across.ensures.value c.up.ensures.value
    c.x1.ensures c.x2.ensures c.y1.ensures c.y2.ensures c.near-columns.ensures.places c.near-rows.ensures.places
