-- What an extent says of the points that it is of.
use Rattle.std.proofs.Common.{◌≡◌, ℕ, ◌<◌, ℤ, pos, negsuc, ◌+ℤ◌, ◌-ℤ◌, ◌≤ℤ◌, List, length, get_or, map, refl, arith}
use Rattle.std.specs.Prelude.{All}
use Rattle.std.proofs.lemmas.Int.{ints, clamps}
use Rattle.std.proofs.lemmas.List.{length-map, get_or_default, get_or-map as mapped_at}
use Rattle.std.proofs.Math.ListN.{get_or-map}
use Rattle.fill_base.specs.declared.place.Point.{Point}
use Rattle.fill_base.specs.Coordinates.{lowest, highest}
use Rattle.gds_record.specs.Numbers.{IsStored}
use Rattle.gds_shape.specs.declared.bounds.Bounds.{Bounds}
use Rattle.gds_shape.specs.Winding.{IsPoint}
use Rattle.gds_shape.specs.Moves.{moved}
use Rattle.gds_shape.specs.Extents.{at_point, IsExtent, IsNarrow, IsNear, corner_move}

abbrev at : ℤ → ℤ → Point
at x y = record { x = x; y = y }

pub le_self : (a : ℤ) → a ≤ℤ a
le_self a = omega (arith, ints, clamps)

-- what holds of the mapped list at an index, at the point itself
pub at_index : (P : Bounds → Type 0) (points : List Point) (k : ℕ) (d : Point) → k < length points → All P (map at_point points) → P (at_point (get_or points k d))
at_index P points k d lt all =
    let same : get_or (map at_point points) k (at_point d) ≡ at_point (get_or points k d) = get_or-map at_point points k d in
    rw same at (all k (at_point d) (rw length-map lt))

origin : Point
origin = record { x = pos 0; y = pos 0 }

all_mapped : (P : Bounds → Type 0) (points : List Point) → ((k : ℕ) (d : Point) → k < length points → P (at_point (get_or points k d))) → All P (map at_point points)
all_mapped P points each = λ k e lt.
    let here : k < length points = rw length-map at lt in
    rw (mapped_at at_point points k origin e here) (each k origin here)

pub corner_is : (b : Bounds) (x y : ℤ) → x ≡ lowest -ℤ b.left → y ≡ lowest -ℤ b.bottom → at x y ≡ corner_move b
corner_is b x y h k = rw (h, k) refl

pub near_points : (points : List Point) (d : Point) (b : Bounds) → 0 < length points → All IsStored points → IsExtent (map at_point points) b → IsNear b
near_points points d b filled stored e =
    let first = stored 0 d filled in
    let low : b.left ≤ℤ (get_or points 0 d).x = at_index (λ c. b.left ≤ℤ c.left) points 0 d filled ((e.left b.left).0 (le_self b.left)) in
    let high : (get_or points 0 d).x ≤ℤ b.right = at_index (λ c. c.right ≤ℤ b.right) points 0 d filled ((e.right b.right).0 (le_self b.right)) in
    let under : b.bottom ≤ℤ (get_or points 0 d).y = at_index (λ c. b.bottom ≤ℤ c.bottom) points 0 d filled ((e.bottom b.bottom).0 (le_self b.bottom)) in
    let over : (get_or points 0 d).y ≤ℤ b.top = at_index (λ c. c.top ≤ℤ b.top) points 0 d filled ((e.top b.top).0 (le_self b.top)) in
    record {
      left = (e.left (negsuc 8589934591)).1 (all_mapped (λ c. negsuc 8589934591 ≤ℤ c.left) points (λ k f lt. far_below (get_or points k f).x (stored k f lt).left));
      bottom = (e.bottom (negsuc 8589934591)).1 (all_mapped (λ c. negsuc 8589934591 ≤ℤ c.bottom) points (λ k f lt. far_below (get_or points k f).y (stored k f lt).low));
      right = (e.right (pos 8589934592)).1 (all_mapped (λ c. c.right ≤ℤ pos 8589934592) points (λ k f lt. far_above (get_or points k f).x (stored k f lt).right));
      top = (e.top (pos 8589934592)).1 (all_mapped (λ c. c.top ≤ℤ pos 8589934592) points (λ k f lt. far_above (get_or points k f).y (stored k f lt).high));
      wide = through b.left (get_or points 0 d).x b.right low high;
      tall = through b.bottom (get_or points 0 d).y b.top under over;
    }
  where
    far_below : (a : ℤ) → negsuc 2147483647 ≤ℤ a → negsuc 8589934591 ≤ℤ a
    far_below a h = omega (arith, ints, clamps)

    far_above : (a : ℤ) → a ≤ℤ pos 2147483647 → a ≤ℤ pos 8589934592
    far_above a h = omega (arith, ints, clamps)

    through : (a b c : ℤ) → a ≤ℤ b → b ≤ℤ c → a ≤ℤ c
    through a b c h k = omega (arith, ints, clamps)

-- moved to the corner, all points are in range
pub points_within : (points : List Point) (b : Bounds) (by : Point) → IsExtent (map at_point points) b → IsNarrow b → by ≡ corner_move b → All IsPoint (map (moved by) points)
points_within points b by e narrow is = rw is (λ k d lt.
    let here : k < length points = rw length-map at lt in
    within k d here)
  where
    one : (p : Point) → b.left ≤ℤ p.x → p.x ≤ℤ b.right → b.bottom ≤ℤ p.y → p.y ≤ℤ b.top → IsPoint (moved (corner_move b) p)
    one p l r m t = record {
      x = record { least = least p.x b.left l; most = most p.x b.left b.right r narrow.0 };
      y = record { least = least p.y b.bottom m; most = most p.y b.bottom b.top t narrow.1 };
    }
      where
        least : (a b : ℤ) → b ≤ℤ a → lowest ≤ℤ (a +ℤ (lowest -ℤ b))
        least a b h = omega (arith, ints, clamps)

        most : (a b c : ℤ) → a ≤ℤ c → (c -ℤ b) ≤ℤ pos 2147483648 → (a +ℤ (lowest -ℤ b)) ≤ℤ highest
        most a b c h k = omega (arith, ints, clamps)

    within : (k : ℕ) (d : Point) → k < length points → IsPoint (get_or (map (moved (corner_move b)) points) k d)
    within k d lt =
        let p : IsPoint (moved (corner_move b) (get_or points k d)) = one (get_or points k d)
        (at_index (λ c. b.left ≤ℤ c.left) points k d lt ((e.left b.left).0 (le_self b.left))) (at_index (λ c. c.right ≤ℤ b.right) points k d lt ((e.right b.right).0 (le_self b.right)))
        (at_index (λ c. b.bottom ≤ℤ c.bottom) points k d lt ((e.bottom b.bottom).0 (le_self b.bottom))) (at_index (λ c. c.top ≤ℤ b.top) points k d lt ((e.top b.top).0 (le_self b.top))) in
        rw (get_or_default (map (moved (corner_move b)) points) k d (moved (corner_move b) d) (rw length-map lt), get_or-map (moved (corner_move b)) points k d) p
