use Rattle.std.proofs.Common.{◌≡◌, pos, rules}
use Rattle.std.specs.Int.{int_min}
use Rattle.fill_base.proofs.Signed.{read_is}
use Rattle.fill_region.specs.Runs.{holds}
use Rattle.fill_size.proofs.Growing.{far_same}
use Rattle.fill_size.proofs.sizing.fits.Goals as goal

pub returns : goal.returns
returns c =
    let least : c.min.result ≡ int_min c.args.d (pos 2147483648) = rw (read_is c.args.d c.ranges.d) at c.min.ensures.value in
    let far = far_same (holds c.args.region.now) c.args.d c.min.result c.has_margin.ensures.in_range least in
    let margin = rw (read_is c.min.result (search rules)) at c.has_margin.ensures.margin in
    (λ h. far.0 (margin.0 h), λ stays. margin.1 (far.1 stays))
