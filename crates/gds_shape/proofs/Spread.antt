-- Rectangles that are moved and appended.
use Rattle.std.proofs.Common.{◌≡◌, ℕ, ◌+◌, ◌<◌, ℤ, pos, ◌+ℤ◌, ◌-ℤ◌, List, [], ◌∷◌, length, get_or, take, map, refl, arith, ap, ◌∙◌, Bool, true, false, ◌&&◌, ◌||◌}
use Rattle.std.specs.Prelude.{int_lt, int_le, All}
use Rattle.std.specs.List.{list_any}
use Rattle.std.proofs.lemmas.Int.{ints}
use Rattle.std.proofs.lemmas.List.{length-map}
use Rattle.std.proofs.Math.ListN.{get_or-map}
use Rattle.std.proofs.lemmas.List.Folds.{list_any_more}
use Rattle.fill_base.specs.declared.place.Point.{Point}
use Rattle.fill_base.specs.Coordinates.{IsCoordinate}
use Rattle.fill_base.specs.Counts.{is_between}
use Rattle.fill_base.proofs.Signed.{read, read_is, coordinate_fits}
use Rattle.gds_shape.specs.declared.bounds.Bounds.{Bounds}
use Rattle.gds_shape.specs.Moves.{moved_bounds}
use Rattle.gds_shape.specs.Paths.{in_bounds, AreInRange}

abbrev bounds : ℤ → ℤ → ℤ → ℤ → Bounds
bounds l b r t = record { left = l; bottom = b; right = r; top = t }

abbrev pub zero_bounds : Bounds
zero_bounds = record { left = pos 0; bottom = pos 0; right = pos 0; top = pos 0 }

pub moved_four : (by : Point) (b : Bounds) (l m r t : ℤ) → l ≡ b.left +ℤ by.x → m ≡ b.bottom +ℤ by.y → r ≡ b.right +ℤ by.x → t ≡ b.top +ℤ by.y → bounds l m r t ≡ moved_bounds by b
moved_four by b l m r t h i j k = rw (h, i, j, k) refl

coordinate_read : (a : ℤ) → IsCoordinate a → read a ≡ a
coordinate_read a is = read_is a (coordinate_fits a is.least is.most)

pub one_put : (b : Bounds) → AreInRange b → (old : Bool) (x y : ℤ)
    → (old || ((is_between (read b.left) (read b.right) x && is_between (read b.bottom) (read b.top) y) && true)) ≡ (old || in_bounds b x y)
one_put b is old x y =
    rw (coordinate_read b.left is.0.0, coordinate_read b.bottom is.0.1, coordinate_read b.right is.1.0, coordinate_read b.top is.1.1)
    (ap (λ c. old || c) (whole (is_between b.left b.right x && is_between b.bottom b.top y)))
  where
    whole : (c : Bool) → (c && true) ≡ c
    whole true = refl
    whole false = refl

pub range_at : (by : Point) (all : List Bounds) (k : ℕ) (d : Bounds) → k < length all → All AreInRange (map (moved_bounds by) all) → AreInRange (moved_bounds by (get_or all k d))
range_at by all k d lt within =
    let same : get_or (map (moved_bounds by) all) k (moved_bounds by d) ≡ moved_bounds by (get_or all k d) = get_or-map (moved_bounds by) all k d in
    rw same at (within k (moved_bounds by d) (rw length-map lt))

-- a moved rectangle holds the squares that it held, moved
bounds_moved : (by : Point) (b : Bounds) (x y : ℤ) → in_bounds (moved_bounds by b) x y ≡ in_bounds b (x -ℤ by.x) (y -ℤ by.y)
bounds_moved by b x y = rw (le_left b.left x by.x, lt_left x b.right by.x, le_left b.bottom y by.y, lt_left y b.top by.y) refl
  where
    lt_left : (x a d : ℤ) → int_lt x (a +ℤ d) ≡ int_lt (x -ℤ d) a
    lt_left x a d = grind (arith, ints)

    le_left : (a y d : ℤ) → int_le (a +ℤ d) y ≡ int_le a (y -ℤ d)
    le_left a y d = grind (arith, ints)

-- one rectangle more
pub bounds_next : (by : Point) (all : List Bounds) (k : ℕ) (d next : Bounds) (x y : ℤ) (old out new : Bool) → k < length all → next ≡ moved_bounds by (get_or all k d)
    → new ≡ (out || in_bounds next x y) → out ≡ (old || list_any (λ b. in_bounds b (x -ℤ by.x) (y -ℤ by.y)) (take k all))
    → new ≡ (old || list_any (λ b. in_bounds b (x -ℤ by.x) (y -ℤ by.y)) (take (k + 1) all))
bounds_next by all k d next x y old out new lt is put before =
    put ∙ rw (before, is, bounds_moved by (get_or all k d) x y, list_any_more (λ b. in_bounds b (x -ℤ by.x) (y -ℤ by.y)) all k d lt) (group old _ _)
  where
    group : (a b c : Bool) → ((a || b) || c) ≡ (a || (b || c))
    group true b c = refl
    group false b c = refl

-- nothing moves by no distance
still_one : (b : Bounds) → moved_bounds (record { x = pos 0; y = pos 0 }) b ≡ b
still_one b = rw (none b.left, none b.bottom, none b.right, none b.top) refl
  where
    none : (a : ℤ) → a +ℤ pos 0 ≡ a
    none a = omega (arith, ints)

pub still_all : (all : List Bounds) → map (moved_bounds (record { x = pos 0; y = pos 0 })) all ≡ all
still_all [] = refl
still_all (b ∷ all) = rw (still_one b, still_all all) refl

pub still_squares : (all : List Bounds) (x y : ℤ) → list_any (λ b. in_bounds b (x -ℤ pos 0) (y -ℤ pos 0)) all ≡ list_any (λ b. in_bounds b x y) all
still_squares all x y = rw (none x, none y) refl
  where
    none : (a : ℤ) → a -ℤ pos 0 ≡ a
    none a = omega (arith, ints)
