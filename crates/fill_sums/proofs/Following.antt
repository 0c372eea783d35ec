-- Numbers that follow a set which is made of two others.
use Rattle.std.proofs.Common.{◌≡◌, ◌∙◌, ℕ, ◌+◌, ℤ, pos, ◌+ℤ◌, ◌-ℤ◌, ◌≤ℤ◌, arith, List, Bool, cond}
use Rattle.std.proofs.lemmas.Int.{ints}
use Rattle.fill_area.specs.Density.{AreMeasured, window_area}
use Rattle.fill_area.specs.Grid.{Grid}
use Rattle.fill_sums.specs.declared.moving.Way.TheVariants.{Up, Down}
use Rattle.fill_sums.specs.Numbers.{IsMoved, StaysWithin}
use Rattle.fill_sums.proofs.Areas.{area_parts}
use Rattle.fill_sums.proofs.Changing.{area_most}

-- each square of `p` is one of `q` or one of `r`, and none is both
pub record AreParts (p q r : ℤ → ℤ → Bool) : Type 0 where
  pub each : (x y : ℤ) → cond (p x y) 1 0 ≡ cond (q x y) 1 0 + cond (r x y) 1 0

parts : (p q r : ℤ → ℤ → Bool) (g : Grid) (a b : ℕ) → AreParts p q r → window_area p g a b ≡ window_area q g a b + window_area r g a b
parts p q r g a b are = area_parts p q r _ _ _ _ are.each

none : (n : ℕ) → pos 0 ≤ℤ pos n
none n = omega (arith, ints)

grown : (x y z : ℕ) (n : ℤ) → x ≡ y + z → n ≡ pos y → n +ℤ pos z ≡ pos x
grown x y z n e h = omega (arith, ints, e, h)

shrunk : (x y z : ℕ) (n : ℤ) → x ≡ y + z → n ≡ pos x → n -ℤ pos z ≡ pos y
shrunk x y z n e h = omega (arith, ints, e, h)

pub up_stays : (p q r : ℤ → ℤ → Bool) (g : Grid) (numbers : List ℤ) → AreMeasured q g numbers → AreParts p q r → StaysWithin Up r g numbers
up_stays p q r g numbers are of = record {
  least = λ a b window. rw (grown _ _ _ _ (parts p q r g a b of) (are.each a b window.0 window.1)) (none (window_area p g a b));
  most = λ a b window. rw (grown _ _ _ _ (parts p q r g a b of) (are.each a b window.0 window.1)) (area_most p g a b are.grid);
}

pub down_stays : (p q r : ℤ → ℤ → Bool) (g : Grid) (numbers : List ℤ) → AreMeasured p g numbers → AreParts p q r → StaysWithin Down r g numbers
down_stays p q r g numbers are of = record {
  least = λ a b window. rw (shrunk _ _ _ _ (parts p q r g a b of) (are.each a b window.0 window.1)) (none (window_area q g a b));
  most = λ a b window. rw (shrunk _ _ _ _ (parts p q r g a b of) (are.each a b window.0 window.1)) (area_most q g a b are.grid);
}

pub up_measured : (p q r : ℤ → ℤ → Bool) (g : Grid) (old new : List ℤ) → AreMeasured q g old → AreParts p q r → IsMoved Up r g old new → AreMeasured p g new
up_measured p q r g old new are of is = record {
  grid = are.grid;
  count = is.count ∙ are.count;
  each = λ a b al bl. is.each a b (al, bl) ∙ grown _ _ _ _ (parts p q r g a b of) (are.each a b al bl);
}

pub down_measured : (p q r : ℤ → ℤ → Bool) (g : Grid) (old new : List ℤ) → AreMeasured p g old → AreParts p q r → IsMoved Down r g old new → AreMeasured q g new
down_measured p q r g old new are of is = record {
  grid = are.grid;
  count = is.count ∙ are.count;
  each = λ a b al bl. is.each a b (al, bl) ∙ shrunk _ _ _ _ (parts p q r g a b of) (are.each a b al bl);
}
