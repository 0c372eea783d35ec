-- Shapes that are filled at the corner of all coordinates.
use Rattle.std.proofs.Common.{◌≡◌, ℕ, zero, suc, ◌<◌, ℤ, ◌-ℤ◌, ◌≤ℤ◌, List, [], ◌∷◌, length, get_or, map, refl, arith, ap, ◌∙◌, sym, Bool, true, false, not, ◌||◌, Some, None}
use Rattle.std.specs.Prelude.{IsTrue, ◌↔◌}
use Rattle.std.specs.List.{list_any}
use Rattle.std.proofs.lemmas.Int.{ints, clamps}
use Rattle.fill_base.specs.declared.layer.Layer.{Layer}
use Rattle.fill_base.specs.declared.place.Point.{Point}
use Rattle.fill_base.specs.declared.rect.Rect.{Rect}
use Rattle.fill_region.specs.Squares.{covered}
use Rattle.gds_grammar.specs.Values.{boundary}
use Rattle.gds_grammar.specs.Values.{Shape as Element}
use Rattle.gds_shape.specs.declared.bounds.Bounds.{Bounds}
use Rattle.gds_shape.specs.Winding.{covers, edges, IsManhattan}
use Rattle.gds_shape.specs.Paths.{is_slanted}
use Rattle.gds_shape.specs.Extents.{at_point, IsExtent, IsNarrow, IsNear, LiesWithin, corner_move}
use Rattle.gds_shape.proofs.Faults.{slanted_is}
use Rattle.gds_cells.specs.declared.error.FlattenError.TheVariants as errors
use Rattle.gds_cells.specs.Shapes.{shape_fault}
use Rattle.gds_cells.specs.steps.Prepared.{IsOrdered, IsDrawn, IsPrepared}

some_is : (b c : Bounds) → Some b ≡ Some c → b ≡ c
some_is b c h = cc

none_is : (b : Bounds) → Some b ≡ None → ⊥
none_is b h = cc

le_self : (a : ℤ) → a ≤ℤ a
le_self a = omega (arith, ints, clamps)

points_ordered : (points : List Point) (k : ℕ) (d : Bounds) → k < length (map at_point points) → IsOrdered (get_or (map at_point points) k d)
points_ordered [] k d lt = absurd (omega arith)
points_ordered (p ∷ points) zero d lt = record { wide = le_self p.x; tall = le_self p.y }
points_ordered (p ∷ points) (suc k) d lt = points_ordered points k d (omega arith)

pub boundary_is_slanted : (element : Element) (l : Layer) (own points : List Point) (made : Bool) → element ≡ boundary l own → points ≡ own → (IsTrue made ↔ IsManhattan points)
    → made ≡ false → shape_fault element ≡ Some errors.NotManhattan
boundary_is_slanted element l own points made is same tells h =
    let e : list_any is_slanted (edges own) ≡ true = rw (sym same) (sym (slanted_is points made tells) ∙ ap not h) in
    rw (is, e) refl

pub boundary_is_fine : (element : Element) (l : Layer) (own points : List Point) (made : Bool) → element ≡ boundary l own → points ≡ own → (IsTrue made ↔ IsManhattan points)
    → made ≡ true → shape_fault element ≡ None
boundary_is_fine element l own points made is same tells h =
    let e : list_any is_slanted (edges own) ≡ false = rw (sym same) (sym (slanted_is points made tells) ∙ ap not h) in
    rw (is, e) refl

pub boundary_prepared : (element : Element) (l : Layer) (own points : List Point) (pieces old : List Rect) (e : Bounds) → element ≡ boundary l own → points ≡ own → old ≡ []
    → IsExtent (map at_point points) e → IsNear e → LiesWithin (covers points) e
    → (IsNarrow e → (x y : ℤ) → covered pieces x y ≡ (covered old x y || covers points (x -ℤ (corner_move e).x) (y -ℤ (corner_move e).y)))
    → IsPrepared element pieces (Some e)
boundary_prepared element l own points pieces old e is same none extent near inside filled = rw is (record {
  drawn = λ b h. rw (sym (some_is e b h)) drawn;
  empty = λ h. absurd (none_is e h);
  bare = λ h. absurd (none_is e h);
})
  where
    drawn : IsDrawn (boundary l own) pieces e
    drawn = record {
      extent = rw (sym same) extent;
      near = near;
      ordered = points_ordered own;
      inside = rw (sym same) inside;
      filled = λ narrow x y. rw (sym same) (rw none at (filled narrow x y));
    }
