-- Tiles in halves: rectangles that hold their halos, and the pieces of one half after those of the other.
use Rattle.std.proofs.Common.{◌≡◌, ℕ, zero, suc, ◌+◌, ◌-◌, ◌<◌, ◌≤◌, ℤ, pos, ◌-ℤ◌, ◌+ℤ◌, ◌≤ℤ◌, ◌<ℤ◌, Bool, true, false, ◌&&◌, List, [], ◌∷◌, ◌++◌, length, get_or, refl, sym, ap, arith, subst, ◌∙◌, w64, FitsSigned}
use Rattle.std.specs.Int.{int_max, int_min}
use Rattle.std.proofs.lemmas.Int.{ints, clamps, by_lt_z}
use Rattle.std.proofs.lemmas.List.{get_or_append_left, get_or-append_right, length-append}
use Rattle.fill_base.specs.Coordinates.{IsInRange, lowest, highest}
use Rattle.fill_base.specs.Counts.{is_between}
use Rattle.fill_base.specs.Squares.{squares}
use Rattle.fill_base.specs.declared.rect.Rect.{Rect}
use Rattle.fill_base.proofs.Between.{is_between_bounds, is_between_true}
use Rattle.fill_base.proofs.Signed.{coordinate_fits, fits_max, fits_min, read, read_is}
use Rattle.fill_region.specs.Runs.{Sides, holds}
use Rattle.fill_region.specs.Squares.{covered}
use Rattle.fill_region.proofs.Apart.{in_range}
use Rattle.fill_region.proofs.Intervals.{and_first, and_second}
use Rattle.fill_raster.specs.Lattice.{Lattice, in_halo, tile_left, tile_right, tile_bottom, tile_top}
use Rattle.fill_job.specs.Plans.{PointSet}
use Rattle.fill_state.specs.Pieces.{IsPiece}
use Rattle.fill_state.specs.steps.Halves.{ArePiecesFrom, HoldsHalos}

-- ---- pieces

same_in : (a b h : Bool) → (h ≡ true → a ≡ true → a ≡ b) → (h ≡ true → b ≡ true → a ≡ b) → (a && h) ≡ (b && h)
same_in true true h f g = refl
same_in true false true f g = f refl refl
same_in true false false f g = refl
same_in false true true f g = g refl refl
same_in false true false f g = refl
same_in false false h f g = refl

-- the runs that meet a frame that holds the halo are enough for the piece
pub piece_within : (r : Lattice) (d : ℤ) (runs near : List Rect) (frame : Rect) (from to tile : ℕ) (piece : List Sides) → HoldsHalos r d from to frame → from ≤ tile → tile < to
    → ((x y : ℤ) → squares frame x y ≡ true → covered near x y ≡ covered runs x y) → IsPiece r d (covered near) tile piece → IsPiece r d (covered runs) tile piece
piece_within r d runs near frame from to tile piece hold low high same is x y = is x y ∙ same_in (covered near x y) (covered runs x y) (in_halo r tile d x y)
    (λ in_it there. same x y (hold tile low high x y (in_range near x y there) in_it)) (λ in_it there. same x y (hold tile low high x y (in_range runs x y there) in_it))

pub pieces_within : (r : Lattice) (d : ℤ) (runs near : List Rect) (frame : Rect) (from to : ℕ) (pieces : List (List Sides)) → HoldsHalos r d from to frame
    → ((x y : ℤ) → squares frame x y ≡ true → covered near x y ≡ covered runs x y) → ArePiecesFrom r d (covered near) from to pieces → ArePiecesFrom r d (covered runs) from to pieces
pieces_within r d runs near frame from to pieces hold same pieces_are = record {
  count = pieces_are.count;
  each = λ k lt. piece_within r d runs near frame from to (from + k) (get_or pieces k []) hold (omega arith) (omega (arith, lt)) same (pieces_are.each k lt);
}

-- one half after the other
pub both_halves : (r : Lattice) (d : ℤ) (p : PointSet) (from middle to : ℕ) (first second : List (List Sides)) → from ≤ middle → middle ≤ to → ArePiecesFrom r d p from middle first → ArePiecesFrom r d p middle to second
    → ArePiecesFrom r d p from to (first ++ second)
both_halves r d p from middle to first second low high one two = record {
  count = length-append first second ∙ rw (one.count, two.count) (together from middle to low high);
  each = λ k lt. by_lt k (length first)
      (λ before. subst (IsPiece r d p (from + k)) (sym (get_or_append_left first second [] k before)) (one.each k (omega (arith, before, one.count))))
      (λ past. let after : k - length first < to - middle = omega (arith, lt, past, one.count, low, high) in
      let place : middle + (k - length first) ≡ from + k = omega (arith, past, one.count, low) in
      subst (λ (t : ℕ). IsPiece r d p t (get_or (first ++ second) k [])) place
      (subst (IsPiece r d p (middle + (k - length first))) (sym (get_or-append_right first second (length first) k [] refl past)) (two.each (k - length first) after)));
}
  where
    together : (a b c : ℕ) → a ≤ b → b ≤ c → (b - a) + (c - b) ≡ c - a
    together a b c h k = omega (arith, h, k)

    by_lt : {P : Type 0} (a b : ℕ) → (a < b → P) → (b ≤ a → P) → P
    by_lt a b f g = by_lt_z (pos a) (pos b) (λ h. f (omega (arith, ints))) (λ h. g (omega (arith, ints)))

pub one_piece : (r : Lattice) (d : ℤ) (p : PointSet) (from to : ℕ) (piece : List Sides) → to ≡ from + 1 → IsPiece r d p from piece → ArePiecesFrom r d p from to (piece ∷ [])
one_piece r d p from to piece one is = record {
  count = length_one from to one;
  each = λ k lt. at k (omega (arith, lt, one));
}
  where
    length_one : (a b : ℕ) → b ≡ a + 1 → 1 ≡ b - a
    length_one a b e = omega (arith, e)

    at : (k : ℕ) → k < 1 → IsPiece r d p (from + k) (get_or (piece ∷ []) k [])
    at zero lt = let e : from ≡ from + 0 = omega arith in subst (λ (t : ℕ). IsPiece r d p t piece) e is
    at (suc k) lt = absurd (omega (arith, lt))

-- from the first tile on they are those of all tiles
pub all_pieces : (r : Lattice) (d : ℤ) (p q : PointSet) (n : ℕ) (pieces : List (List Sides)) → ((x y : ℤ) → p x y ≡ q x y) → ArePiecesFrom r d p 0 n pieces
    → (length pieces ≡ n) × ((tile : ℕ) → tile < n → IsPiece r d q tile (get_or pieces tile []))
all_pieces r d p q n pieces same are = (
  are.count ∙ whole n,
  λ tile lt x y.
      let here : IsPiece r d p tile (get_or pieces tile []) = subst (λ (t : ℕ). IsPiece r d p t (get_or pieces tile [])) (plus tile) (are.each tile (omega (arith, lt))) in
      here x y ∙ ap (λ b. b && in_halo r tile d x y) (same x y),
)
  where
    whole : (a : ℕ) → a - 0 ≡ a
    whole a = omega arith

    plus : (k : ℕ) → 0 + k ≡ k
    plus k = omega arith

-- ---- a rectangle around halos

-- the edges are those of the tile's halo, or further out
pub record IsAround (r : Lattice) (d : ℤ) (tile : ℕ) (left bottom right top : ℤ) : Type 0 where
  pub left_of : left ≤ℤ int_max (tile_left r tile -ℤ d) lowest
  pub below : bottom ≤ℤ int_max (tile_bottom r tile -ℤ d) lowest
  pub right_of : int_min (tile_right r tile +ℤ d) highest ≤ℤ right
  pub above : int_min (tile_top r tile +ℤ d) highest ≤ℤ top

pub record AreAround (r : Lattice) (d : ℤ) (from n : ℕ) (left bottom right top : ℤ) : Type 0 where
  pub each : (tile : ℕ) → from ≤ tile → tile < n → IsAround r d tile left bottom right top
  pub least : lowest ≤ℤ left
  pub wide : left <ℤ right
  pub most : right ≤ℤ highest
  pub lowest_is : lowest ≤ℤ bottom
  pub tall : bottom <ℤ top
  pub highest_is : top ≤ℤ highest

pub around_holds : (r : Lattice) (d : ℤ) (from n : ℕ) (rect : Rect) (left bottom right top : ℤ) → rect.x1 ≡ left → rect.y1 ≡ bottom → rect.x2 ≡ right → rect.y2 ≡ top → AreAround r d from n left bottom right top → HoldsHalos r d from n rect
around_holds r d from n rect left bottom right top x1 y1 x2 y2 are tile low high x y range in_it =
    let across = is_between_bounds (tile_left r tile -ℤ d) (tile_right r tile +ℤ d) x (and_first (is_between (tile_left r tile -ℤ d) (tile_right r tile +ℤ d) x) (is_between (tile_bottom r tile -ℤ d) (tile_top r tile +ℤ d) y) in_it) in
    let up = is_between_bounds (tile_bottom r tile -ℤ d) (tile_top r tile +ℤ d) y (and_second (is_between (tile_left r tile -ℤ d) (tile_right r tile +ℤ d) x) (is_between (tile_bottom r tile -ℤ d) (tile_top r tile +ℤ d) y) in_it) in
    let a = are.each tile low high in
    rw (x1, y1, x2, y2) (rw (
      is_between_true left right x (from_low left (tile_left r tile -ℤ d) lowest x a.left_of across.0 range.left) (to_high right (tile_right r tile +ℤ d) highest x a.right_of across.1 range.right),
      is_between_true bottom top y (from_low bottom (tile_bottom r tile -ℤ d) lowest y a.below up.0 range.bottom) (to_high top (tile_top r tile +ℤ d) highest y a.above up.1 range.top),
    ) refl)
  where
    from_low : (l a b z : ℤ) → l ≤ℤ int_max a b → a ≤ℤ z → b ≤ℤ z → l ≤ℤ z
    from_low l a b z h k m = omega (arith, ints, clamps)

    to_high : (l a b z : ℤ) → int_min a b ≤ℤ l → z <ℤ a → z <ℤ b → z <ℤ l
    to_high l a b z h k m = omega (arith, ints, clamps)

-- no tile yet, but the first one's edges
pub none_around : (r : Lattice) (d : ℤ) (from : ℕ) (halo : Rect) (left bottom right top : ℤ) → left ≡ halo.x1 → bottom ≡ halo.y1 → right ≡ halo.x2 → top ≡ halo.y2 → AreAround r d from from left bottom right top
none_around r d from halo left bottom right top x1 y1 x2 y2 = rw (x1, y1, x2, y2) (record {
  each = λ tile low high. absurd (omega (arith, low, high));
  least = halo.left;
  wide = halo.wide;
  most = halo.right;
  lowest_is = halo.bottom;
  tall = halo.tall;
  highest_is = halo.top;
})

-- a tile more
pub one_around : (r : Lattice) (d : ℤ) (from n : ℕ) (halo : Rect) (left bottom right top l b m t : ℤ) → halo.x1 ≡ int_max (tile_left r n -ℤ d) lowest → halo.y1 ≡ int_max (tile_bottom r n -ℤ d) lowest
    → halo.x2 ≡ int_min (tile_right r n +ℤ d) highest → halo.y2 ≡ int_min (tile_top r n +ℤ d) highest
    → l ≡ int_min left halo.x1 → b ≡ int_min bottom halo.y1 → m ≡ int_max right halo.x2 → t ≡ int_max top halo.y2
    → AreAround r d from n left bottom right top → AreAround r d from (n + 1) l b m t
one_around r d from n halo left bottom right top l b m t x1 y1 x2 y2 l_is b_is m_is t_is are = rw (l_is, b_is, m_is, t_is) (record {
  each = λ tile low high. by_lt tile n
      (λ before. let a = are.each tile low before in record {
        left_of = lower left halo.x1 _ a.left_of;
        below = lower bottom halo.y1 _ a.below;
        right_of = higher right halo.x2 _ a.right_of;
        above = higher top halo.y2 _ a.above;
      })
      (λ past. let same : tile ≡ n = omega (arith, high, past) in rw same (record {
        left_of = lower_too left halo.x1 _ x1;
        below = lower_too bottom halo.y1 _ y1;
        right_of = higher_too right halo.x2 _ x2;
        above = higher_too top halo.y2 _ y2;
      }));
  least = both_high left halo.x1 lowest are.least halo.left;
  wide = still left right halo.x1 halo.x2 are.wide;
  most = both_low right halo.x2 highest are.most halo.right;
  lowest_is = both_high bottom halo.y1 lowest are.lowest_is halo.bottom;
  tall = still bottom top halo.y1 halo.y2 are.tall;
  highest_is = both_low top halo.y2 highest are.highest_is halo.top;
})
  where
    by_lt : {P : Type 0} (a b : ℕ) → (a < b → P) → (b ≤ a → P) → P
    by_lt a b f g = by_lt_z (pos a) (pos b) (λ h. f (omega (arith, ints))) (λ h. g (omega (arith, ints)))

    lower : (a c e : ℤ) → a ≤ℤ e → int_min a c ≤ℤ e
    lower a c e h = omega (arith, ints, clamps)

    lower_too : (a c e : ℤ) → c ≡ e → int_min a c ≤ℤ e
    lower_too a c e h = omega (arith, ints, clamps)

    higher : (a c e : ℤ) → e ≤ℤ a → e ≤ℤ int_max a c
    higher a c e h = omega (arith, ints, clamps)

    higher_too : (a c e : ℤ) → c ≡ e → e ≤ℤ int_max a c
    higher_too a c e h = omega (arith, ints, clamps)

    both_high : (a c e : ℤ) → e ≤ℤ a → e ≤ℤ c → e ≤ℤ int_min a c
    both_high a c e h k = omega (arith, ints, clamps)

    both_low : (a c e : ℤ) → a ≤ℤ e → c ≤ℤ e → int_max a c ≤ℤ e
    both_low a c e h k = omega (arith, ints, clamps)

    still : (a c e f : ℤ) → a <ℤ c → int_min a e <ℤ int_max c f
    still a c e f h = omega (arith, ints, clamps)

-- ---- what of some runs lies in a halo

and_when : (a b c : Bool) → (a ≡ true → b ≡ c) → (a && b) ≡ (a && c)
and_when true b c h = h refl
and_when false b c h = refl

pub halo_part : (r : Lattice) (d : ℤ) (runs : List Rect) (piece : List Sides) (halo : Rect) (tile : ℕ) → ((x y : ℤ) → IsInRange x y → squares halo x y ≡ in_halo r tile d x y)
    → ((x y : ℤ) → holds piece x y ≡ (covered runs x y && squares halo x y)) → IsPiece r d (covered runs) tile piece
halo_part r d runs piece halo tile bounds are x y = are x y ∙ and_when (covered runs x y) (squares halo x y) (in_halo r tile d x y) (λ there. bounds x y (in_range runs x y there))

-- edges around halos fit their words
pub record Fit (left bottom right top : ℤ) : Type 0 where
  pub left_fits : FitsSigned w64 left
  pub bottom_fits : FitsSigned w64 bottom
  pub right_fits : FitsSigned w64 right
  pub top_fits : FitsSigned w64 top

pub around_fit : (r : Lattice) (d : ℤ) (from n : ℕ) (left bottom right top : ℤ) → AreAround r d from n left bottom right top → Fit left bottom right top
around_fit r d from n left bottom right top are = record {
  left_fits = coordinate_fits left are.least (omega (arith, ints, are.wide, are.most));
  bottom_fits = coordinate_fits bottom are.lowest_is (omega (arith, ints, are.tall, are.highest_is));
  right_fits = coordinate_fits right (omega (arith, ints, are.wide, are.least)) are.most;
  top_fits = coordinate_fits top (omega (arith, ints, are.tall, are.lowest_is)) are.highest_is;
}

pub least_of : (m a b e : ℤ) → m ≡ int_min a (read b) → b ≡ e → FitsSigned w64 a → FitsSigned w64 e → read m ≡ int_min a e
least_of m a b e is b_is f g = let at : m ≡ int_min a e = is ∙ rw (b_is, read_is e g) refl in rw at (read_is (int_min a e) (fits_min a e f g))

pub most_of : (m a b e : ℤ) → m ≡ int_max a (read b) → b ≡ e → FitsSigned w64 a → FitsSigned w64 e → read m ≡ int_max a e
most_of m a b e is b_is f g = let at : m ≡ int_max a e = is ∙ rw (b_is, read_is e g) refl in rw at (read_is (int_max a e) (fits_max a e f g))

pub around_all : (r : Lattice) (d : ℤ) (from n to : ℕ) (rect : Rect) (left bottom right top : ℤ) → rect.x1 ≡ left → rect.y1 ≡ bottom → rect.x2 ≡ right → rect.y2 ≡ top → n ≡ to → AreAround r d from n left bottom right top → HoldsHalos r d from to rect
around_all r d from n to rect left bottom right top x1 y1 x2 y2 all are = around_holds r d from to rect left bottom right top x1 y1 x2 y2 (subst (λ (k : ℕ). AreAround r d from k left bottom right top) all are)
