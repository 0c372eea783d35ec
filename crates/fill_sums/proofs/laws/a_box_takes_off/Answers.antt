use Rattle.fill_sums.proofs.Areas.{area_parts, gone}
use Rattle.fill_sums.proofs.laws.a_box_takes_off.Goals as goal

pub returns : goal.returns
returns c = λ p box g a b h. area_parts _ _ _ _ _ _ _ (λ x y. gone (p x y) (box x y) (h x y))
