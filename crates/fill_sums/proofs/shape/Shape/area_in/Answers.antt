use Rattle.std.proofs.Common.{◌∙◌, refl}
use Rattle.fill_base.proofs.Signed.{read_is}
use Rattle.fill_sums.proofs.shape.Shape.area_in.Goals as goal

pub returns-in-Box : goal.returns-in-Box
returns-in-Box c = read_is c.shared_area.result (record { sfits = c.shared_area.type_inv }) ∙ (c.shared_area.ensures ∙ rw c.in-Box.is refl)
