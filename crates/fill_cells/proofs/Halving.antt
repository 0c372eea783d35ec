-- The area in both halves of a rectangle.
use Rattle.std.proofs.Common.{◌≡◌, Bool, ◌+◌, ◌<◌, ℤ, pos, ◌+ℤ◌, ◌<ℤ◌, List, arith, ap, ◌∙◌, w64, FitsSigned}
use Rattle.std.proofs.lemmas.Int.{ints, clamps}
use Rattle.fill_base.specs.declared.rect.Rect.{Rect}
use Rattle.fill_base.specs.Counts.{span_len}
use Rattle.fill_base.specs.Squares.{area_of}
use Rattle.fill_base.proofs.Covering.{area_split_across, area_split_up}
use Rattle.fill_base.proofs.Signed.{read, lt_le}
use Rattle.fill_region.specs.Squares.{covered}
use Rattle.fill_area.proofs.SharedAreas.{area_small, same_within, summed}
use Rattle.fill_cells.specs.steps.Halves.{AreHalves}
use Rattle.fill_cells.specs.steps.Within.{AreWithin}

shorter : (a m b c d : ℤ) → a <ℤ m → m <ℤ b → span_len a m + span_len c d < span_len a b + span_len c d
shorter a m b c d low high = omega (arith, ints, clamps)

shorter_2 : (a m b c d : ℤ) → a <ℤ m → m <ℤ b → span_len m b + span_len c d < span_len a b + span_len c d
shorter_2 a m b c d low high = omega (arith, ints, clamps)

higher : (a m b c d : ℤ) → a <ℤ m → m <ℤ b → span_len c d + span_len a m < span_len c d + span_len a b
higher a m b c d low high = omega (arith, ints, clamps)

higher_2 : (a m b c d : ℤ) → a <ℤ m → m <ℤ b → span_len c d + span_len m b < span_len c d + span_len a b
higher_2 a m b c d low high = omega (arith, ints, clamps)

pub halves_across : (whole a b : Rect) (m : ℤ) → whole.x1 <ℤ m → m <ℤ whole.x2
    → (a.x1 ≡ whole.x1) × (a.y1 ≡ whole.y1) × (a.x2 ≡ m) × (a.y2 ≡ whole.y2)
    → (b.x1 ≡ m) × (b.y1 ≡ whole.y1) × (b.x2 ≡ whole.x2) × (b.y2 ≡ whole.y2) → AreHalves whole a b
halves_across whole a b m low high first second = record {
  area = λ p. rw (first.0, first.1, first.2, first.3, second.0, second.1, second.2, second.3) (area_split_across p whole.x1 m whole.x2 whole.y1 whole.y2 (lt_le _ _ low) (lt_le _ _ high));
  first_shorter = rw (first.0, first.1, first.2, first.3) (shorter whole.x1 m whole.x2 whole.y1 whole.y2 low high);
  second_shorter = rw (second.0, second.1, second.2, second.3) (shorter_2 whole.x1 m whole.x2 whole.y1 whole.y2 low high);
}

pub halves_up : (whole a b : Rect) (m : ℤ) → whole.y1 <ℤ m → m <ℤ whole.y2
    → (a.x1 ≡ whole.x1) × (a.y1 ≡ whole.y1) × (a.x2 ≡ whole.x2) × (a.y2 ≡ m)
    → (b.x1 ≡ whole.x1) × (b.y1 ≡ m) × (b.x2 ≡ whole.x2) × (b.y2 ≡ whole.y2) → AreHalves whole a b
halves_up whole a b m low high first second = record {
  area = λ p. rw (first.0, first.1, first.2, first.3, second.0, second.1, second.2, second.3) (area_split_up p whole.x1 whole.x2 whole.y1 m whole.y2 (lt_le _ _ low) (lt_le _ _ high));
  first_shorter = rw (first.0, first.1, first.2, first.3) (higher whole.y1 m whole.y2 whole.x1 whole.x2 low high);
  second_shorter = rw (second.0, second.1, second.2, second.3) (higher_2 whole.y1 m whole.y2 whole.x1 whole.x2 low high);
}

-- both halves' areas, as the code adds them
pub halves_sum : (p : ℤ → ℤ → Bool) (whole a b : Rect) (first second : List Rect) (m n : ℤ) → AreHalves whole a b
    → AreWithin a p first → AreWithin b p second → m ≡ pos (area_of (covered first) a) → n ≡ pos (area_of (covered second) b)
    → FitsSigned w64 (read m +ℤ read n) × (read (read m +ℤ read n) ≡ pos (area_of p whole))
halves_sum p whole a b first second m n halves in_first in_second m_is n_is =
    let a_is : area_of (covered first) a ≡ area_of p a = same_within (covered first) p a in_first in
    let b_is : area_of (covered second) b ≡ area_of p b = same_within (covered second) p b in_second in
    let sum : area_of p whole ≡ area_of p a + area_of p b = halves.area p in
    summed (area_of p whole) (area_of p a) (area_of p b) m n sum (area_small p whole) (m_is ∙ ap pos a_is) (n_is ∙ ap pos b_is)
