use Rattle.fill_sums.proofs.Areas.{area_parts, come}
use Rattle.fill_sums.proofs.laws.a_box_adds.Goals as goal

pub returns : goal.returns
returns c = λ p box g a b h. area_parts _ _ _ _ _ _ _ (λ x y. come (p x y) (box x y) (h x y))
