-- Bands follow one another.
use Rattle.std.proofs.Common.{ℕ, ◌*◌, ◌≤◌, ℤ, pos, ◌+ℤ◌, ◌-ℤ◌, ◌*ℤ◌, ◌≤ℤ◌, arith}
use Rattle.std.specs.Int.{int_min}
use Rattle.std.proofs.Math.Nat.{mul-le-mul}
use Rattle.std.proofs.lemmas.Int.{ints, clamps}
use Rattle.fill_raster.specs.Axes.{IsAxis, band_begin, band_end, band_first, band_past, box_begin, first, past}
use Rattle.fill_raster.specs.declared.axis.Axis.{Axis}
use Rattle.fill_raster.proofs.Floors.{product_le}

same_nat : (n : ℕ) → n ≤ n
same_nat n = omega arith

begins_later : (a : Axis) (i j : ℤ) → IsAxis a → i ≤ℤ j → box_begin a i ≤ℤ box_begin a j
begins_later a i j is le = on a.origin (i *ℤ a.step) (j *ℤ a.step) (product_le i j a.step is.step_is.least le)
  where
    on : (o x y : ℤ) → x ≤ℤ y → (o +ℤ x) ≤ℤ (o +ℤ y)
    on o x y h = omega (arith, ints)

pub band_begin_le : (a : Axis) (g h : ℕ) → IsAxis a → g ≤ h → band_begin a g ≤ℤ band_begin a h
band_begin_le a g h is le = begins_later a (band_first a g) (band_first a h) is (from (first a) (g * a.band) (h * a.band) (mul-le-mul le (same_nat a.band)))
  where
    from : (f : ℤ) (m n : ℕ) → m ≤ n → (f +ℤ pos m) ≤ℤ (f +ℤ pos n)
    from f m n h = omega (arith, ints)

pub band_end_le : (a : Axis) (g h : ℕ) → IsAxis a → g ≤ h → band_end a g ≤ℤ band_end a h
band_end_le a g h is le =
    on (box_begin a (band_past a g -ℤ pos 1)) (box_begin a (band_past a h -ℤ pos 1)) a.length
    (begins_later a (band_past a g -ℤ pos 1) (band_past a h -ℤ pos 1) is (last (first a) (g * a.band) (h * a.band) a.band (past a) (mul-le-mul le (same_nat a.band))))
  where
    on : (x y l : ℤ) → x ≤ℤ y → (x +ℤ l) ≤ℤ (y +ℤ l)
    on x y l h = omega (arith, ints)

    last : (f : ℤ) (m n b : ℕ) (p : ℤ) → m ≤ n → (int_min ((f +ℤ pos m) +ℤ pos b) p -ℤ pos 1) ≤ℤ (int_min ((f +ℤ pos n) +ℤ pos b) p -ℤ pos 1)
    last f m n b p h = omega (arith, ints, clamps)
