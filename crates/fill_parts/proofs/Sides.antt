-- The sides that a chip needs.
use Rattle.std.proofs.Common.{◌≡◌, refl, ap, ◌∙◌, ℕ, zero, suc, ◌+◌, ◌*◌, ◌-◌, ◌/◌, ◌%◌, ◌<◌, ◌≤◌, arith, inl, inr, ℤ, pos, ◌+ℤ◌, ◌-ℤ◌, ◌≤ℤ◌, ◌<ℤ◌, true, false}
use Rattle.std.specs.Prelude.{nat_lt}
use Rattle.std.specs.Int.{int_max, int_min}
use Rattle.std.proofs.lemmas.Bool.{cases_Bool}
use Rattle.std.proofs.lemmas.Bool.Decides.{nat_tests}
use Rattle.std.proofs.lemmas.Int.{ints, clamps}
use Rattle.std.proofs.lemmas.Nat.{div-add-mod', le-div, mod_below}
use Rattle.fill_base.specs.Coordinates.{IsCoordinate, highest, lowest}
use Rattle.fill_base.specs.Limits.{IsSpacing}
use Rattle.fill_base.specs.Sides.{Sides, sides_of}
use Rattle.fill_base.specs.declared.rect.Rect.{Rect}
use Rattle.fill_base.proofs.Signed.{read}
use Rattle.fill_area.specs.Axes.{axis_begin, axis_end}
use Rattle.fill_area.specs.Grid.{Grid, IsGrid}
use Rattle.fill_area.specs.declared.axis.Axis as spans
use Rattle.fill_raster.specs.Axes.{bands}
use Rattle.fill_raster.specs.Lattice.{tiles}
use Rattle.fill_raster.proofs.Bands.{band_is}
use Rattle.fill_job.specs.Plans.{IsPlan, Plan}
use Rattle.fill_parts.specs.Laws.{NeededSidesAreLeast}
use Rattle.fill_parts.specs.Needs.{IsEnough, LieInside, halo_sides, in_coordinates, needed_sides, reach, round, round_halos, round_windows, window_sides}
use Rattle.fill_parts.proofs.Chipping.{coordinate_read}
use Rattle.fill_parts.proofs.RulesAlone.{rises}
use Rattle.fill_parts.proofs.TileRows.{band_begin_le, band_end_le}

-- ---- the least sides round two

low_first : (a b c : ℤ) → a ≤ℤ c → int_min a b ≤ℤ c
low_first a b c h = omega (arith, ints, clamps)

low_second : (a b c : ℤ) → b ≤ℤ c → int_min a b ≤ℤ c
low_second a b c h = omega (arith, ints, clamps)

high_first : (a b c : ℤ) → c ≤ℤ a → c ≤ℤ int_max a b
high_first a b c h = omega (arith, ints, clamps)

high_second : (a b c : ℤ) → c ≤ℤ b → c ≤ℤ int_max a b
high_second a b c h = omega (arith, ints, clamps)

in_first : (s t u : Sides) → LieInside u s → LieInside u (round s t)
in_first s t u is = record { from_left = low_first s.left t.left u.left is.from_left; from_bottom = low_first s.bottom t.bottom u.bottom is.from_bottom; to_right = high_first s.right t.right u.right is.to_right; to_top = high_first s.top t.top u.top is.to_top }

in_second : (s t u : Sides) → LieInside u t → LieInside u (round s t)
in_second s t u is = record { from_left = low_second s.left t.left u.left is.from_left; from_bottom = low_second s.bottom t.bottom u.bottom is.from_bottom; to_right = high_second s.right t.right u.right is.to_right; to_top = high_second s.top t.top u.top is.to_top }

both_in : (s t u : Sides) → LieInside s u → LieInside t u → LieInside (round s t) u
both_in s t u a b = record {
  from_left = low u.left s.left t.left a.from_left b.from_left;
  from_bottom = low u.bottom s.bottom t.bottom a.from_bottom b.from_bottom;
  to_right = high u.right s.right t.right a.to_right b.to_right;
  to_top = high u.top s.top t.top a.to_top b.to_top;
}
  where
    low : (u a b : ℤ) → u ≤ℤ a → u ≤ℤ b → u ≤ℤ int_min a b
    low u a b h k = omega (arith, ints, clamps)

    high : (u a b : ℤ) → a ≤ℤ u → b ≤ℤ u → int_max a b ≤ℤ u
    high u a b h k = omega (arith, ints, clamps)

-- ---- windows

ends_later : (s : spans.Axis) (m n : ℕ) → pos 1 ≤ℤ s.step → m ≤ n → axis_end s m ≤ℤ axis_end s n
ends_later s m n one le = on (axis_begin s m) (axis_begin s n) s.length (rises s m n one le)
  where
    on : (x y l : ℤ) → x ≤ℤ y → (x +ℤ l) ≤ℤ (y +ℤ l)
    on x y l h = omega (arith, ints)

least : (n : ℕ) → 0 ≤ n
least n = omega arith

before_last : (k n : ℕ) → k < n → k ≤ n - 1
before_last k n h = omega (arith, h)

pub windows_inside : (g : Grid) (from to a b : ℕ) → IsGrid g → a < g.across.count → from ≤ b → b < to → LieInside (window_sides g a b) (round_windows g from to)
windows_inside g from to a b is column low high = record {
  from_left = rises g.across 0 a is.across.step_is.least (least a);
  from_bottom = rises g.up from b is.up.step_is.least low;
  to_right = ends_later g.across a (g.across.count - 1) is.across.step_is.least (before_last a g.across.count column);
  to_top = ends_later g.up b (to - 1) is.up.step_is.least (before_last b to high);
}

-- ---- tiles

no_column : (n : ℕ) → (0 / n * n ≤ 0) × (0 % n ≤ 0)
no_column n = let e = div-add-mod' 0 n in (omega (arith, e), omega (arith, e))

some_columns : (m n k : ℕ) → k < m * n → (1 ≤ m) × (1 ≤ n)
some_columns zero n k lt = absurd (omega (arith, lt))
some_columns (suc m) zero k lt = absurd (none m lt)
  where
    none : (m : ℕ) → k < suc m * 0 → ⊥
    none m lt = omega (arith, lt)
some_columns (suc m) (suc n) k lt = (omega arith, omega arith)

-- the column of the last of all tiles is the last one
last_column : (m n : ℕ) → 1 ≤ m → 1 ≤ n → (m * n - 1) % n ≡ n - 1
last_column zero n some_rows some = absurd (omega (arith, some_rows))
last_column (suc m) n some_rows some = rest (suc m * n - 1) (suc m * n) (m * n) n refl (div-add-mod' (suc m * n - 1) n) same_row (next m n) some
  where
    next : (m n : ℕ) → suc m * n ≡ m * n + n
    next m n = omega arith

    same_row : (suc m * n - 1) / n * n ≡ m * n
    same_row = ap (λ q. q * n) (band_is (suc m * n - 1) n m some (from (suc m * n) (m * n) n (next m n) some) (to (suc m * n) (m * n) n (next m n) some))
      where
        from : (t p n : ℕ) → t ≡ p + n → 1 ≤ n → p ≤ t - 1
        from t p n e h = omega (arith, e, h)

        to : (t p n : ℕ) → t ≡ p + n → 1 ≤ n → t - 1 < p + n
        to t p n e h = omega (arith, e, h)

    rest : (l t p n : ℕ) → l ≡ t - 1 → l / n * n + l % n ≡ l → l / n * n ≡ p → t ≡ p + n → 1 ≤ n → l % n ≡ n - 1
    rest l t p n before whole same e one_column = omega (arith, before, whole, same, e, one_column)

pub halos_inside : (plan : Plan) (tile : ℕ) → IsPlan plan → tile < tiles plan.raster → LieInside (halo_sides plan tile) (round_halos plan)
halos_inside plan tile is lt =
    let r = plan.raster in let n = bands r.across in let m = bands r.up in
    let some = some_columns m n tile lt in
    let column = last_column m n some.0 some.1 in
    record {
      from_left = less _ _ (reach plan) (band_begin_le r.across (0 % n) (tile % n) is.raster.across (from (0 % n) (tile % n) (no_column n).1));
      from_bottom = less _ _ (reach plan) (band_begin_le r.up (0 / n) (tile / n) is.raster.up (le-div (0 / n) tile n some.1 (from (0 / n * n) tile (no_column n).0)));
      to_right = more _ _ (reach plan) (band_end_le r.across (tile % n) ((tiles r - 1) % n) is.raster.across (rw column (before_last (tile % n) n (mod_below tile n some.1))));
      to_top = more _ _ (reach plan) (band_end_le r.up (tile / n) ((tiles r - 1) / n) is.raster.up (le-div (tile / n) (tiles r - 1) n some.1 (whole (tile / n * n) (tile % n) tile (tiles r) (div-add-mod' tile n) lt)));
    }
  where
    from : (a b : ℕ) → a ≤ 0 → a ≤ b
    from a b h = omega (arith, h)

    whole : (p q t l : ℕ) → p + q ≡ t → t < l → p ≤ l - 1
    whole p q t l e h = omega (arith, e, h)

    less : (a b s : ℤ) → a ≤ℤ b → (a -ℤ s) ≤ℤ (b -ℤ s)
    less a b s h = omega (arith, ints)

    more : (a b s : ℤ) → a ≤ℤ b → (a +ℤ s) ≤ℤ (b +ℤ s)
    more a b s h = omega (arith, ints)

-- ---- all of it

no_tile : (k n : ℕ) → nat_lt 0 n ≡ false → k < n → ⊥
no_tile k n none lt = grind (arith, nat_tests)

is_some : (n : ℕ) → nat_lt 0 n ≡ true → 0 < n
is_some n h = grind (arith, nat_tests)

last_below : (n : ℕ) → 0 < n → n - 1 < n
last_below n h = omega (arith, h)

one : (n : ℕ) → 1 ≤ n → 0 < n
one n h = omega (arith, h)

pub sides_least : NeededSidesAreLeast
sides_least plan is = elim (cases_Bool (nat_lt 0 (tiles plan.raster))) [
  | inl some ↦ rw some (record {
    enough = record {
      windows = λ a b column row. in_first all halos (window_sides plan.windows a b) (windows_inside plan.windows 0 plan.windows.up.count a b is.windows column (least b) row);
      halos = λ tile lt. in_second all halos (halo_sides plan tile) (halos_inside plan tile is lt);
    };
    least = λ t enough. both_in all halos t (all_in t enough) (between (halo_sides plan 0) (halo_sides plan (tiles plan.raster - 1)) t (enough.halos 0 (is_some _ some)) (enough.halos (tiles plan.raster - 1) (last_below _ (is_some _ some))));
  })
  | inr none ↦ rw none (record {
    enough = record {
      windows = λ a b column row. windows_inside plan.windows 0 plan.windows.up.count a b is.windows column (least b) row;
      halos = λ tile lt. absurd (no_tile tile (tiles plan.raster) none lt);
    };
    least = λ t enough. all_in t enough;
  })
]
  where
    all : Sides
    all = round_windows plan.windows 0 plan.windows.up.count

    halos : Sides
    halos = round_halos plan

    -- what goes from one of two to the other lies where both do
    between : (f l t : Sides) → LieInside f t → LieInside l t → LieInside (record { left = f.left; bottom = f.bottom; right = l.right; top = l.top }) t
    between f l t a b = record { from_left = a.from_left; from_bottom = a.from_bottom; to_right = b.to_right; to_top = b.to_top }

    all_in : (t : Sides) → IsEnough plan t → LieInside all t
    all_in t enough = between (window_sides plan.windows 0 0) (window_sides plan.windows (plan.windows.across.count - 1) (plan.windows.up.count - 1)) t
        (enough.windows 0 0 (one _ is.windows.across.count_is.least) (one _ is.windows.up.count_is.least))
        (enough.windows (plan.windows.across.count - 1) (plan.windows.up.count - 1) (last_below _ (one _ is.windows.across.count_is.least)) (last_below _ (one _ is.windows.up.count_is.least)))

-- ---- as the code finds them

-- the lower and the higher of two coordinates
pub lower_is : (m x y a b : ℤ) → m ≡ int_min (read x) (read y) → x ≡ a → y ≡ b → IsCoordinate a → IsCoordinate b → read m ≡ int_min a b
lower_is m x y a b m_is x_is y_is at on =
    let e : m ≡ int_min a b = rw (x_is, y_is, coordinate_read a at, coordinate_read b on) at m_is in
    rw e (coordinate_read (int_min a b) (kept a b at.least at.most on.least on.most))
  where
    kept : (a b : ℤ) → lowest ≤ℤ a → a ≤ℤ highest → lowest ≤ℤ b → b ≤ℤ highest → IsCoordinate (int_min a b)
    kept a b h i j k = record { least = omega (arith, ints, clamps); most = omega (arith, ints, clamps) }

pub higher_is : (m x y a b : ℤ) → m ≡ int_max (read x) (read y) → x ≡ a → y ≡ b → IsCoordinate a → IsCoordinate b → read m ≡ int_max a b
higher_is m x y a b m_is x_is y_is at on =
    let e : m ≡ int_max a b = rw (x_is, y_is, coordinate_read a at, coordinate_read b on) at m_is in
    rw e (coordinate_read (int_max a b) (kept a b at.least at.most on.least on.most))
  where
    kept : (a b : ℤ) → lowest ≤ℤ a → a ≤ℤ highest → lowest ≤ℤ b → b ≤ℤ highest → IsCoordinate (int_max a b)
    kept a b h i j k = record { least = omega (arith, ints, clamps); most = omega (arith, ints, clamps) }

first_edge : (a b : ℤ) → lowest ≤ℤ a → a <ℤ b → b ≤ℤ highest → IsCoordinate a
first_edge a b h k l = record { least = h; most = omega (arith, ints) }

last_edge : (a b : ℤ) → lowest ≤ℤ a → a <ℤ b → b ≤ℤ highest → IsCoordinate b
last_edge a b h k l = record { least = omega (arith, ints); most = l }

pub first_x : (r : Rect) → IsCoordinate r.x1
first_x r = first_edge r.x1 r.x2 r.left r.wide r.right

pub first_y : (r : Rect) → IsCoordinate r.y1
first_y r = first_edge r.y1 r.y2 r.bottom r.tall r.top

pub last_x : (r : Rect) → IsCoordinate r.x2
last_x r = last_edge r.x1 r.x2 r.left r.wide r.right

pub last_y : (r : Rect) → IsCoordinate r.y2
last_y r = last_edge r.y1 r.y2 r.bottom r.tall r.top

-- edges of two rectangles, one behind the other
pub edges_apart : (x y a b c : ℤ) → x ≡ a → y ≡ c → IsCoordinate a → IsCoordinate c → a ≤ℤ b → b <ℤ c → read x <ℤ read y
edges_apart x y a b c x_is y_is at on le lt = rw (x_is, y_is, coordinate_read a at, coordinate_read c on) (behind a b c le lt)
  where
    behind : (a b c : ℤ) → a ≤ℤ b → b <ℤ c → a <ℤ c
    behind a b c h k = omega (arith, ints)

-- the outer ones of two pairs of edges
pub sides_apart : (m n a b c d : ℤ) → read m ≡ int_min a b → read n ≡ int_max c d → a <ℤ c → read m <ℤ read n
sides_apart m n a b c d m_is n_is lt = rw (m_is, n_is) (apart a b c d lt)
  where
    apart : (a b c d : ℤ) → a <ℤ c → int_min a b <ℤ int_max c d
    apart a b c d h = omega (arith, ints, clamps)

pub from_lowest : (m a b : ℤ) → read m ≡ int_min a b → IsCoordinate a → IsCoordinate b → lowest ≤ℤ read m
from_lowest m a b m_is at on = rw m_is (least_of a b at.least on.least)
  where
    least_of : (a b : ℤ) → lowest ≤ℤ a → lowest ≤ℤ b → lowest ≤ℤ int_min a b
    least_of a b h k = omega (arith, ints, clamps)

pub to_highest : (m a b : ℤ) → read m ≡ int_max a b → IsCoordinate a → IsCoordinate b → read m ≤ℤ highest
to_highest m a b m_is at on = rw m_is (most_of a b at.most on.most)
  where
    most_of : (a b : ℤ) → a ≤ℤ highest → b ≤ℤ highest → int_max a b ≤ℤ highest
    most_of a b h k = omega (arith, ints, clamps)

-- the outer one of a coordinate and of an edge as far as there are coordinates
pub low_side : (r a b w h : ℤ) → r ≡ int_min a b → IsCoordinate a → a ≡ w → b ≡ int_max h lowest → r ≡ int_max (int_min w h) lowest
low_side r a b w h r_is at a_is b_is = r_is ∙ rw (a_is, b_is) (clamped w h (rw a_is at at.least))
  where
    clamped : (w h : ℤ) → lowest ≤ℤ w → int_min w (int_max h lowest) ≡ int_max (int_min w h) lowest
    clamped w h k = omega (arith, ints, clamps)

pub high_side : (r a b w h : ℤ) → r ≡ int_max a b → IsCoordinate a → a ≡ w → b ≡ int_min h highest → r ≡ int_min (int_max w h) highest
high_side r a b w h r_is at a_is b_is = r_is ∙ rw (a_is, b_is) (clamped w h (rw a_is at at.most))
  where
    clamped : (w h : ℤ) → w ≤ℤ highest → int_max w (int_min h highest) ≡ int_min (int_max w h) highest
    clamped w h k = omega (arith, ints, clamps)

-- a rectangle lies within the coordinates
pub rect_kept : (r : Rect) → in_coordinates (sides_of r) ≡ sides_of r
rect_kept r = λ i. record { left = low r.x1 r.left i; bottom = low r.y1 r.bottom i; right = high r.x2 r.right i; top = high r.y2 r.top i }
  where
    low : (z : ℤ) → lowest ≤ℤ z → int_max z lowest ≡ z
    low z h = omega (arith, ints, clamps)

    high : (z : ℤ) → z ≤ℤ highest → int_min z highest ≡ z
    high z h = omega (arith, ints, clamps)

pub needed_windows : (plan : Plan) → tiles plan.raster ≡ 0 → needed_sides plan ≡ round_windows plan.windows 0 plan.windows.up.count
needed_windows plan none = rw (no_tiles (tiles plan.raster) none) refl
  where
    no_tiles : (n : ℕ) → n ≡ 0 → nat_lt 0 n ≡ false
    no_tiles n e = grind (arith, nat_tests)

pub needed_both : (plan : Plan) → 0 < tiles plan.raster → needed_sides plan ≡ round (round_windows plan.windows 0 plan.windows.up.count) (round_halos plan)
needed_both plan some = rw (some_tiles (tiles plan.raster) some) refl
  where
    some_tiles : (n : ℕ) → 0 < n → nat_lt 0 n ≡ true
    some_tiles n h = grind (arith, nat_tests)

pub spacing_read : (s t : ℤ) → s ≡ t → IsSpacing t → read s ≡ t
spacing_read s t e is = rw e (coordinate_read t (within t is.least is.most))
  where
    within : (t : ℤ) → pos 0 ≤ℤ t → t ≤ℤ pos 1048576 → IsCoordinate t
    within t h k = record { least = omega (arith, ints); most = omega (arith, ints) }
