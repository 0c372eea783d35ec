use Rattle.std.proofs.Common.{FitsSigned, w32}
use Rattle.gds_cells.proofs.Extending.{extent_read}
use Rattle.gds_cells.proofs.one_rect.OneRect.extent.Goals as goal

pub returns : goal.returns
returns c =
    let left : FitsSigned w32 c.args.self.now.left = assumption c.fits-self in
    let bottom : FitsSigned w32 c.args.self.now.bottom = assumption c.fits-self in
    extent_read c.args.self.now c.from-left.result c.from-bottom.result c.from.result c.from-2.result left bottom c.from-left.ensures c.from-bottom.ensures c.from.ensures c.from-2.ensures
