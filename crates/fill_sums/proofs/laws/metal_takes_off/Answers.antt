use Rattle.fill_sums.proofs.Areas.{area_parts, less}
use Rattle.fill_sums.proofs.laws.metal_takes_off.Goals as goal

pub returns : goal.returns
returns c = λ p r g a b. area_parts _ _ _ _ _ _ _ (λ x y. less (p x y) (r x y))
