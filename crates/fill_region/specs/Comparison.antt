-- Comparing regions by their runs.
use Rattle.std.specs.Prelude.{Bool, ◌&&◌}
use Rattle.std.specs.Ordering.{int_eq}
use Rattle.std.specs.Cmp.{IsPartialEquivalence, int_eq_equiv, on_equiv, and_equiv, partial_equiv_from_equiv}
use Rattle.fill_region.specs.Runs.{Sides}

-- the four sides are equal
abbrev pub same_sides : Sides → Sides → Bool
same_sides s t = int_eq s.left t.left && (int_eq s.bottom t.bottom && (int_eq s.right t.right && int_eq s.top t.top))

-- comparing sides keeps the laws of a comparison
pub sides_per : IsPartialEquivalence same_sides
sides_per = partial_equiv_from_equiv (and_equiv (on_equiv (λ (s : Sides). s.left) int_eq_equiv) (and_equiv (on_equiv (λ (s : Sides). s.bottom) int_eq_equiv)
    (and_equiv (on_equiv (λ (s : Sides). s.right) int_eq_equiv) (on_equiv (λ (s : Sides). s.top) int_eq_equiv))))
