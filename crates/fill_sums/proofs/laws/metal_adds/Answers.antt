use Rattle.fill_sums.proofs.Areas.{area_parts, more}
use Rattle.fill_sums.proofs.laws.metal_adds.Goals as goal

pub returns : goal.returns
returns c = λ p r g a b. area_parts _ _ _ _ _ _ _ (λ x y. more (p x y) (r x y))
