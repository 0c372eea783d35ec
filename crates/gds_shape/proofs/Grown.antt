-- The extent of the first of a list and of what stands before an index.
use Rattle.std.proofs.Common.{◌≡◌, ℕ, ◌+◌, ◌<◌, ℤ, ◌≤ℤ◌, List, length, get_or, take, map, refl, arith, ap, ◌∙◌, sym, ◌↔◌}
use Rattle.std.specs.Prelude.{All}
use Rattle.std.specs.Int.{int_min, int_max}
use Rattle.std.proofs.lemmas.Int.{ints, clamps}
use Rattle.std.proofs.lemmas.List.{get_or-take, length-take-le, get_or_default, length-map}
use Rattle.std.proofs.Math.ListN.{get_or-map}
use Rattle.fill_base.specs.declared.place.Point.{Point}
use Rattle.std.proofs.lemmas.List.Elements.{All-more}
use Rattle.std.proofs.Math.Seq.{take-length}
use Rattle.gds_shape.specs.declared.bounds.Bounds.{Bounds}
use Rattle.gds_shape.specs.Extents.{at_point, joined, IsExtent}

-- a side of the extent so far, by what is told of each rectangle
abbrev pub Side : (Bounds → Type 0) → Bounds → List Bounds → Bounds → Type 0
Side P first seen b = P b ↔ (P first × All P seen)

pub record Grown (first : Bounds) (seen : List Bounds) (b : Bounds) : Type 0 where
  pub left : (z : ℤ) → Side (λ c. z ≤ℤ c.left) first seen b
  pub bottom : (z : ℤ) → Side (λ c. z ≤ℤ c.bottom) first seen b
  pub right : (z : ℤ) → Side (λ c. c.right ≤ℤ z) first seen b
  pub top : (z : ℤ) → Side (λ c. c.top ≤ℤ z) first seen b

before : (P : Bounds → Type 0) (all : List Bounds) (k : ℕ) → k < length all → All P (take (k + 1) all) → All P (take k all)
before P all k more h j d lt =
    let here : j < k = rw (length-take-le k all (omega arith)) at lt in
    rw (get_or-take k all j d here) (rw (get_or-take (k + 1) all j d (omega arith)) at (h j d (rw (length-take-le (k + 1) all (omega arith)) (omega arith))))

last : (P : Bounds → Type 0) (all : List Bounds) (k : ℕ) (d : Bounds) → k < length all → All P (take (k + 1) all) → P (get_or all k d)
last P all k d more h = rw (get_or-take (k + 1) all k d (omega arith)) at (h k d (rw (length-take-le (k + 1) all (omega arith)) (omega arith)))

-- one rectangle more, where the joined one keeps the side exactly where both do
side_next : (P : Bounds → Type 0) (first : Bounds) (all : List Bounds) (k : ℕ) (b c new : Bounds) → k < length all → c ≡ get_or all k c → P new ↔ (P b × P c)
    → Side P first (take k all) b → Side P first (take (k + 1) all) new
side_next P first all k b c new more item both s = (
  (λ h. let p = both.0 h in let q = s.0 p.0 in (q.0, All-more P all k c more q.1 (rw (sym item) p.1))),
  (λ h. both.1 (s.1 (h.0, before P all k more h.1), rw item (last P all k c more h.1))),
)

least_both : (z a b : ℤ) → (z ≤ℤ int_min a b) ↔ ((z ≤ℤ a) × (z ≤ℤ b))
least_both z a b = ((λ h. (omega (arith, ints, clamps), omega (arith, ints, clamps))), (λ h. omega (arith, ints, clamps)))

most_both : (z a b : ℤ) → (int_max a b ≤ℤ z) ↔ ((a ≤ℤ z) × (b ≤ℤ z))
most_both z a b = ((λ h. (omega (arith, ints, clamps), omega (arith, ints, clamps))), (λ h. omega (arith, ints, clamps)))

pub grown_next : (first : Bounds) (all : List Bounds) (k : ℕ) (b c : Bounds) → k < length all → c ≡ get_or all k c → Grown first (take k all) b → Grown first (take (k + 1) all) (joined b c)
grown_next first all k b c more item g = record {
  left = λ z. side_next (λ e. z ≤ℤ e.left) first all k b c (joined b c) more item (least_both z b.left c.left) (g.left z);
  bottom = λ z. side_next (λ e. z ≤ℤ e.bottom) first all k b c (joined b c) more item (least_both z b.bottom c.bottom) (g.bottom z);
  right = λ z. side_next (λ e. e.right ≤ℤ z) first all k b c (joined b c) more item (most_both z b.right c.right) (g.right z);
  top = λ z. side_next (λ e. e.top ≤ℤ z) first all k b c (joined b c) more item (most_both z b.top c.top) (g.top z);
}

-- the first is one of them
side_end : (P : Bounds → Type 0) (first : Bounds) (all : List Bounds) (b : Bounds) → 0 < length all → first ≡ get_or all 0 first → Side P first all b → P b ↔ All P all
side_end P first all b filled item s = ((λ h. (s.0 h).1), (λ h. s.1 (rw item (h 0 first filled), h)))

pub grown_end : (first : Bounds) (all : List Bounds) (k : ℕ) (b : Bounds) → k ≡ length all → 0 < length all → first ≡ get_or all 0 first → Grown first (take k all) b → IsExtent all b
grown_end first all k b end filled item g =
    let whole : take k all ≡ all = ap (λ n. take n all) end ∙ take-length all in
    let w : Grown first all b = rw whole at g in
    record {
      left = λ z. side_end (λ c. z ≤ℤ c.left) first all b filled item (w.left z);
      bottom = λ z. side_end (λ c. z ≤ℤ c.bottom) first all b filled item (w.bottom z);
      right = λ z. side_end (λ c. c.right ≤ℤ z) first all b filled item (w.right z);
      top = λ z. side_end (λ c. c.top ≤ℤ z) first all b filled item (w.top z);
    }

abbrev bounds : ℤ → ℤ → ℤ → ℤ → Bounds
bounds l m r t = record { left = l; bottom = m; right = r; top = t }

pub joined_is : (a b : Bounds) (l m r t : ℤ) → l ≡ int_min a.left b.left → m ≡ int_min a.bottom b.bottom → r ≡ int_max a.right b.right → t ≡ int_max a.top b.top → bounds l m r t ≡ joined a b
joined_is a b l m r t h i j k = rw (h, i, j, k) refl

pub bounds_step : (all : List Bounds) (k : ℕ) (d b new : Bounds) → k < length all → new ≡ joined b (get_or all k d) → Grown (get_or all 0 d) (take k all) b → Grown (get_or all 0 d) (take (k + 1) all) new
bounds_step all k d b new more is g = rw is (grown_next (get_or all 0 d) all k b (get_or all k d) more (get_or_default all k d (get_or all k d) more) g)

pub bounds_end : (all : List Bounds) (k : ℕ) (d b : Bounds) → k ≡ length all → 0 < length all → Grown (get_or all 0 d) (take k all) b → IsExtent all b
bounds_end all k d b end filled g = grown_end (get_or all 0 d) all k b end filled (get_or_default all 0 d (get_or all 0 d) filled) g

point_at : (points : List Point) (k : ℕ) (d : Point) → at_point (get_or points k d) ≡ get_or (map at_point points) k (at_point d)
point_at points k d = sym (get_or-map at_point points k d)

pub points_step : (points : List Point) (k : ℕ) (d : Point) (b c new : Bounds) → k < length points → c ≡ at_point (get_or points k d) → new ≡ joined b c
    → Grown (at_point (get_or points 0 d)) (take k (map at_point points)) b → Grown (at_point (get_or points 0 d)) (take (k + 1) (map at_point points)) new
points_step points k d b c new more here is g =
    rw (point_at points 0 d) (bounds_step (map at_point points) k (at_point d) b new (rw length-map more) (is ∙ ap (joined b) (here ∙ point_at points k d)) (rw (point_at points 0 d) at g))

pub points_end : (points : List Point) (k : ℕ) (d : Point) (b : Bounds) → k ≡ length points → 0 < length points
    → Grown (at_point (get_or points 0 d)) (take k (map at_point points)) b → IsExtent (map at_point points) b
points_end points k d b end filled g =
    bounds_end (map at_point points) k (at_point d) b (rw length-map end) (rw length-map filled) (rw (point_at points 0 d) at g)
