-- No square is covered beyond the extent.
use Rattle.std.proofs.Common.{◌≡◌, ℕ, suc, ℤ, ◌≤ℤ◌, ◌<ℤ◌, List, [], ◌∷◌, get_or, map, refl, arith, Bool, true, false, not, ◌||◌, eqb}
use Rattle.std.specs.Prelude.{int_lt, int_le, All, count_by}
use Rattle.std.specs.List.{list_any}
use Rattle.std.specs.Ordering.{int_eq}
use Rattle.std.proofs.lemmas.Int.{ints}
use Rattle.std.proofs.lemmas.Bool.{true_from_ne_false, and_from, and_parts, and_left, and_right}
use Rattle.fill_base.specs.declared.place.Point.{Point}
use Rattle.gds_shape.specs.declared.bounds.Bounds.{Bounds}
use Rattle.gds_shape.specs.Winding.{edges, edges_from, rises, covers, IsManhattan, IsClosed}
use Rattle.gds_shape.specs.Paths.{in_bounds}
use Rattle.gds_shape.specs.Extents.{at_point, IsExtent, LiesWithin}
use Rattle.gds_shape.specs.steps.Edges.{passes}
use Rattle.gds_shape.proofs.Counting.{count_cons}
use Rattle.gds_shape.proofs.Closed.{closed_left}
use Rattle.gds_shape.proofs.Cornering.{at_index, le_self}

-- where no point may begin or end an edge that counts, none counts
none_passes : (way : Bool) (x y : ℤ) (P : Point → Type 0) → ((p q : Point) → P p → P q → rises x y p q ≡ false) → (p q : Point) → P p → P q → passes way x y (p, q) ≡ false
none_passes true x y P off p q h k = off p q h k
none_passes false x y P off p q h k = off q p k h

none_from : (way : Bool) (x y : ℤ) (P : Point → Type 0) → ((p q : Point) → P p → P q → rises x y p q ≡ false) → (p : Point) (points : List Point) → P p → All P points
    → count_by (passes way x y) (edges_from p points) ≡ 0
none_from way x y P off p [] first all = refl
none_from way x y P off p (q ∷ points) first all =
    let second : P q = all 0 q (omega arith) in
    let rest = none_from way x y P off q points second (λ k d lt. all (suc k) d (omega arith)) in
    rw (count_cons (passes way x y) (p, q) (edges_from q points), none_passes way x y P off p q first second, rest) refl

none_counts : (way : Bool) (x y : ℤ) (P : Point → Type 0) → ((p q : Point) → P p → P q → rises x y p q ≡ false) → (points : List Point) → All P points
    → count_by (passes way x y) (edges points) ≡ 0
none_counts way x y P off [] all = refl
none_counts way x y P off (p ∷ points) all = none_from way x y P off p points (all 0 p (omega arith)) (λ k d lt. all (suc k) d (omega arith))

balanced : (m n : ℕ) → m ≡ n → not (eqb m n) ≡ false
balanced m n h = grind arith

uncovered : (points : List Point) (x y : ℤ) → count_by (passes true x y) (edges points) ≡ count_by (passes false x y) (edges points) → covers points x y ≡ false
uncovered points x y same = balanced _ _ same

never : (points : List Point) (x y : ℤ) (P : Point → Type 0) → ((p q : Point) → P p → P q → rises x y p q ≡ false) → All P points → covers points x y ≡ false
never points x y P off all =
    let ups = none_counts true x y P off points all in
    let downs = none_counts false x y P off points all in
    uncovered points x y (rw (ups, downs) refl)

-- ---- beyond each of the four sides

left_out : (points : List Point) (b : Bounds) (x y : ℤ) → IsManhattan points → IsClosed points → IsExtent (map at_point points) b → int_le b.left x ≡ false → covers points x y ≡ false
left_out points b x y manhattan closed e out =
    uncovered points x y (closed_left points x y manhattan closed
    (λ k d lt. less (get_or points k d).x (at_index (λ c. b.left ≤ℤ c.left) points k d lt ((e.left b.left).0 (le_self b.left)))))
  where
    less : (a : ℤ) → b.left ≤ℤ a → x <ℤ a
    less a h = grind (arith, ints)

right_out : (points : List Point) (b : Bounds) (x y : ℤ) → IsExtent (map at_point points) b → int_lt x b.right ≡ false → covers points x y ≡ false
right_out points b x y e out =
    never points x y (λ p. p.x ≤ℤ b.right) none (λ k d lt. at_index (λ c. c.right ≤ℤ b.right) points k d lt ((e.right b.right).0 (le_self b.right)))
  where
    past : (a : ℤ) → a ≤ℤ b.right → int_lt x a ≡ false
    past a h = grind (arith, ints)

    none : (p q : Point) → p.x ≤ℤ b.right → q.x ≤ℤ b.right → rises x y p q ≡ false
    none p q h k = and_right _ _ (and_left _ _ (past p.x h))

below_out : (points : List Point) (b : Bounds) (x y : ℤ) → IsExtent (map at_point points) b → int_le b.bottom y ≡ false → covers points x y ≡ false
below_out points b x y e out =
    never points x y (λ p. b.bottom ≤ℤ p.y) none (λ k d lt. at_index (λ c. b.bottom ≤ℤ c.bottom) points k d lt ((e.bottom b.bottom).0 (le_self b.bottom)))
  where
    past : (a : ℤ) → b.bottom ≤ℤ a → int_le a y ≡ false
    past a h = grind (arith, ints)

    none : (p q : Point) → b.bottom ≤ℤ p.y → b.bottom ≤ℤ q.y → rises x y p q ≡ false
    none p q h k = and_right _ _ (and_right _ _ (and_left _ _ (past p.y h)))

above_out : (points : List Point) (b : Bounds) (x y : ℤ) → IsExtent (map at_point points) b → int_lt y b.top ≡ false → covers points x y ≡ false
above_out points b x y e out =
    never points x y (λ p. p.y ≤ℤ b.top) none (λ k d lt. at_index (λ c. c.top ≤ℤ b.top) points k d lt ((e.top b.top).0 (le_self b.top)))
  where
    past : (a : ℤ) → a ≤ℤ b.top → int_lt y a ≡ false
    past a h = grind (arith, ints)

    none : (p q : Point) → p.y ≤ℤ b.top → q.y ≤ℤ b.top → rises x y p q ≡ false
    none p q h k = and_right (int_eq p.x q.x) _ (and_right (int_lt x p.x) _ (and_right (int_le p.y y) _ (past q.y k)))

clash : (b : Bool) → b ≡ true → b ≡ false → ⊥
clash b h k = cc

pub boundary_inside : (points : List Point) (b : Bounds) → IsManhattan points → IsClosed points → IsExtent (map at_point points) b → LiesWithin (covers points) b
boundary_inside points b manhattan closed e x y is =
    and_from _ _
    (and_from _ _
    (true_from_ne_false _ (λ out. clash _ is (left_out points b x y manhattan closed e out)))
    (true_from_ne_false _ (λ out. clash _ is (right_out points b x y e out))))
    (and_from _ _
    (true_from_ne_false _ (λ out. clash _ is (below_out points b x y e out)))
    (true_from_ne_false _ (λ out. clash _ is (above_out points b x y e out))))

-- ---- rectangles

pub one_inside : (b c : Bounds) (x y : ℤ) → b.left ≤ℤ c.left → b.bottom ≤ℤ c.bottom → c.right ≤ℤ b.right → c.top ≤ℤ b.top → in_bounds c x y ≡ true → in_bounds b x y ≡ true
one_inside b c x y l m r t is =
    let p = and_parts _ _ is in
    let h = and_parts _ _ p.0 in
    let v = and_parts _ _ p.1 in
    and_from _ _ (and_from _ _ (low b.left c.left x l h.0) (high x c.right b.right r h.1)) (and_from _ _ (low b.bottom c.bottom y m v.0) (high y c.top b.top t v.1))
  where
    low : (a d z : ℤ) → a ≤ℤ d → int_le d z ≡ true → int_le a z ≡ true
    low a d z h k = grind (arith, ints)

    high : (z a d : ℤ) → a ≤ℤ d → int_lt z a ≡ true → int_lt z d ≡ true
    high z a d h k = grind (arith, ints)

any_inside : (all : List Bounds) (b : Bounds) (x y : ℤ) → All (λ c. b.left ≤ℤ c.left) all → All (λ c. b.bottom ≤ℤ c.bottom) all → All (λ c. c.right ≤ℤ b.right) all → All (λ c. c.top ≤ℤ b.top) all
    → list_any (λ c. in_bounds c x y) all ≡ true → in_bounds b x y ≡ true
any_inside [] b x y l m r t is = let w : false ≡ true = is in cc
any_inside (c ∷ all) b x y l m r t is =
    either (in_bounds c x y) (list_any (λ d. in_bounds d x y) all) is
    (one_inside b c x y (l 0 c (omega arith)) (m 0 c (omega arith)) (r 0 c (omega arith)) (t 0 c (omega arith)))
    (any_inside all b x y (λ k d lt. l (suc k) d (omega arith)) (λ k d lt. m (suc k) d (omega arith)) (λ k d lt. r (suc k) d (omega arith)) (λ k d lt. t (suc k) d (omega arith)))
  where
    either : (v w : Bool) → (v || w) ≡ true → (v ≡ true → in_bounds b x y ≡ true) → (w ≡ true → in_bounds b x y ≡ true) → in_bounds b x y ≡ true
    either true w h first rest = first refl
    either false w h first rest = rest h

pub bounds_inside : (all : List Bounds) (b : Bounds) → IsExtent all b → LiesWithin (λ x y. list_any (λ c. in_bounds c x y) all) b
bounds_inside all b e x y is =
    any_inside all b x y ((e.left b.left).0 (le_self b.left)) ((e.bottom b.bottom).0 (le_self b.bottom)) ((e.right b.right).0 (le_self b.right)) ((e.top b.top).0 (le_self b.top)) is
