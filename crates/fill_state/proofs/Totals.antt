-- What metal and boxes take together.
use Rattle.std.proofs.Common.{◌≡◌, refl, ◌∙◌, ℕ, ◌+◌, ◌≤◌, ◌<◌, ◌^◌, ℤ, pos, ◌+ℤ◌, arith, true, ◌||◌, w64, FitsSigned}
use Rattle.fill_base.specs.Squares.{area_of}
use Rattle.fill_base.specs.declared.rect.Rect.{Rect}
use Rattle.fill_base.proofs.Signed.{read, read_is, pos_fits}
use Rattle.fill_base.proofs.Covering.{area_either}
use Rattle.fill_area.specs.Density.{window_area}
use Rattle.fill_area.specs.Grid.{Grid, parts_across, parts_up}
use Rattle.fill_area.specs.Parts.{part_begin, part_end}
use Rattle.fill_job.specs.Plans.{PointSet}
use Rattle.fill_state.proofs.BoxSums.{few_squares}

pub record Together (n : ℕ) (a b : ℤ) : Type 0 where
  pub fits : FitsSigned w64 (read a +ℤ read b)
  pub total : read (read a +ℤ read b) ≡ pos n

pub together_of : (m k n : ℕ) (a b : ℤ) → a ≡ pos m → b ≡ pos k → n ≡ m + k → n ≤ 2 ^ 62 → Together n a b
together_of m k n a b here there all few =
    let first : read a ≡ pos m = read_is a (rw here (pos_fits m (part n m k all few))) ∙ here in
    let second : read b ≡ pos k = read_is b (rw there (pos_fits k (rest n m k all few))) ∙ there in
    let sum : read a +ℤ read b ≡ pos n = rw (first, second, all) refl in
    let fits : FitsSigned w64 (read a +ℤ read b) = rw sum (pos_fits n (small n few)) in
    record { fits = fits; total = read_is (read a +ℤ read b) fits ∙ sum }
  where
    part : (a b c : ℕ) → a ≡ b + c → a ≤ 2 ^ 62 → b < 2 ^ 63
    part a b c e few = omega (arith, e, few)

    rest : (a b c : ℕ) → a ≡ b + c → a ≤ 2 ^ 62 → c < 2 ^ 63
    rest a b c e few = omega (arith, e, few)

    small : (a : ℕ) → a ≤ 2 ^ 62 → a < 2 ^ 63
    small a few = omega (arith, few)

pub together : (p q : PointSet) (w : Rect) (a b : ℤ) → a ≡ pos (area_of p w) → b ≡ pos (area_of q w) → ((x y : ℤ) → p x y ≡ true → q x y ≡ true → ⊥) → Together (area_of (λ x y. p x y || q x y) w) a b
together p q w a b here there apart = together_of (area_of p w) (area_of q w) (area_of (λ x y. p x y || q x y) w) a b here there (area_either p q w.x1 w.y1 w.x2 w.y2 apart) (few_squares (λ x y. p x y || q x y) w)

-- the same of what counts of a window
pub counted_together : (p q : PointSet) (g : Grid) (m n : ℕ) (a b : ℤ) → a ≡ pos (window_area p g m n) → b ≡ pos (window_area q g m n) → ((x y : ℤ) → p x y ≡ true → q x y ≡ true → ⊥) → ((s : PointSet) → window_area s g m n ≤ 2 ^ 62)
    → Together (window_area (λ x y. p x y || q x y) g m n) a b
counted_together p q g m n a b here there apart few =
    together_of (window_area p g m n) (window_area q g m n) (window_area (λ x y. p x y || q x y) g m n) a b here there
    (area_either p q (part_begin (parts_across g) m) (part_begin (parts_up g) n) (part_end (parts_across g) m) (part_end (parts_up g) n) apart) (few (λ x y. p x y || q x y))

pub few_of_some : (p : PointSet) (w : Rect) (n : ℕ) → n ≡ area_of p w → n ≤ 2 ^ 62
few_of_some p w n e = rw e (few_squares p w)

pub few_of_none : (n : ℕ) → n ≡ 0 → n ≤ 2 ^ 62
few_of_none n e = omega (arith, e)
