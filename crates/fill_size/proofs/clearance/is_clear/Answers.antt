use Rattle.fill_region.specs.Runs.{holds}
use Rattle.fill_size.proofs.Ranges.{clear_test}
use Rattle.fill_size.proofs.clearance.is_clear.Goals as goal

pub returns : goal.returns
returns c = clear_test (holds c.args.region.now) c.args.rect.now c.args.spacing c.x1.result c.y1.result c.x2.result c.y2.result c.has_square.result c.requires
    c.x1.ensures c.y1.ensures c.x2.ensures c.y2.ensures c.has_square.ensures.found
