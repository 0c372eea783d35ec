use Rattle.std.proofs.Common.{◌∙◌, ap}
use Rattle.fill_base.proofs.Signed.{read_is}
use Rattle.fill_bands.specs.Squares.{covered}
use Rattle.fill_region.specs.Runs.{holds}
use Rattle.fill_region.proofs.Ordered.{covered_sides}
use Rattle.fill_region.proofs.region.Region.has.Goals as goal

pub returns : goal.returns
returns c = (rw (read_is c.args.x c.ranges.x, read_is c.args.y c.ranges.y) at c.is_covered.ensures) ∙ (ap (λ rs. covered rs c.args.x c.args.y) c.deref.ensures.value ∙ (covered_sides c.self.inside.runs.items c.args.x c.args.y ∙ ap (λ s. holds s c.args.x c.args.y) c.self.view_is))
