-- When two rectangles are the same one.
use Rattle.std.specs.Prelude.{Bool, ◌&&◌}
use Rattle.std.specs.Ordering.{int_eq}
use Rattle.std.specs.Cmp.{IsEquivalence, IsPartialEquivalence, int_eq_equiv, on_equiv, and_equiv, partial_equiv_from_equiv}
use Rattle.fill_base.specs.declared.rect.Rect.{Rect}

-- all four edges are equal
abbrev pub same_edges : Rect → Rect → Bool
same_edges a b = int_eq a.x1 b.x1 && (int_eq a.y1 b.y1 && (int_eq a.x2 b.x2 && int_eq a.y2 b.y2))

-- to have the same edges is an equivalence
pub edges_equivalence : IsEquivalence same_edges
edges_equivalence =
    and_equiv (on_equiv (λ (r : Rect). r.x1) int_eq_equiv) (and_equiv (on_equiv (λ (r : Rect). r.y1) int_eq_equiv)
    (and_equiv (on_equiv (λ (r : Rect). r.x2) int_eq_equiv) (on_equiv (λ (r : Rect). r.y2) int_eq_equiv)))

pub edges_partial_equivalence : IsPartialEquivalence same_edges
edges_partial_equivalence = partial_equiv_from_equiv edges_equivalence
