use Rattle.std.proofs.Common.{sym}
use Rattle.fill_bands.specs.Bands.{holds}
use Rattle.fill_region.specs.Operands.{wanted}
use Rattle.fill_region.proofs.Members.{runs_alike}
use Rattle.fill_region.proofs.cuts.runs_by_bands.Goals as goal

pub returns : goal.returns
returns c = runs_alike (wanted c.args.operands.now) (holds c.in_ok-bands.bands) c.in_ok-runs.runs.items (λ x y. sym (c.in_ok-bands.ensures x y)) c.in_ok-runs.ensures
