-- How far the segments of a path go, and their extent.
use Rattle.std.proofs.Common.{◌≡◌, ℕ, zero, suc, ◌<◌, ℤ, pos, negsuc, ◌+ℤ◌, ◌-ℤ◌, ◌≤ℤ◌, List, [], ◌∷◌, length, get_or, map, refl, arith, Bool, true, false, cond, ◌&&◌, ◌||◌, None, eqb}
use Rattle.std.specs.Prelude.{int_lt, All, unwrap_or, Option}
use Rattle.std.specs.List.{list_any}
use Rattle.std.specs.Ordering.{int_eq}
use Rattle.std.proofs.lemmas.Int.{ints, clamps}
use Rattle.std.proofs.lemmas.Bool.{or_parts}
use Rattle.std.proofs.lemmas.List.{length-map, get_or-map as mapped_at}
use Rattle.fill_base.specs.declared.place.Point.{Point}
use Rattle.fill_base.specs.Coordinates.{lowest, IsCoordinate}
use Rattle.gds_record.specs.Numbers.{IsStored}
use Rattle.gds_grammar.specs.Values.{Wire}
use Rattle.gds_shape.specs.declared.bounds.Bounds.{Bounds}
use Rattle.gds_shape.specs.Winding.{edges}
use Rattle.gds_shape.specs.Paths.{low_end, high_end, segment, segments, segments_from, ending, is_slanted, type_of, half_of, begin_of, end_of, extension, has_round_end, has_odd_width, doubles_back, has_bad_extension, fault_among, first_of, AreInRange}
use Rattle.gds_shape.specs.declared.error.ShapeError.TheVariants as errors
use Rattle.gds_shape.specs.Moves.{moved_bounds}
use Rattle.gds_shape.specs.Extents.{IsExtent, IsNear, IsNarrow, corner_move}
use Rattle.gds_shape.specs.steps.Ranges.{IsStretch}
use Rattle.gds_shape.proofs.Cornering.{le_self}

-- so far past an end, and never back
pub record IsReach (z : ℤ) : Type 0 where
  pub some : pos 0 ≤ℤ z
  pub most : z ≤ℤ pos 2147483648

-- the two ends of a segment
record AreEnds (low high : ℤ) : Type 0 where
  least : negsuc 8589934591 ≤ℤ low
  most : high ≤ℤ pos 8589934592
  ordered : low ≤ℤ high

ends : (a b before after : ℤ) → negsuc 2147483647 ≤ℤ a → a ≤ℤ pos 2147483647 → negsuc 2147483647 ≤ℤ b → b ≤ℤ pos 2147483647 → IsReach before → IsReach after
    → AreEnds (low_end a b before after) (high_end a b before after)
ends a b before after la ha lb hb rb ra = cases (int_lt a b) refl
  where
    cases : (v : Bool) → int_lt a b ≡ v → AreEnds (cond v (a -ℤ before) (b -ℤ after)) (cond v (b +ℤ after) (a +ℤ before))
    cases true h = let lt : a ≤ℤ b = grind (arith, ints) in record { least = omega (arith, ints, clamps); most = omega (arith, ints, clamps); ordered = omega (arith, ints, clamps) }
    cases false h = let le : b ≤ℤ a = grind (arith, ints) in record { least = omega (arith, ints, clamps); most = omega (arith, ints, clamps); ordered = omega (arith, ints, clamps) }

sides : (a half : ℤ) → negsuc 2147483647 ≤ℤ a → a ≤ℤ pos 2147483647 → IsReach half → AreEnds (a -ℤ half) (a +ℤ half)
sides a half la ha r = record { least = omega (arith, ints, clamps); most = omega (arith, ints, clamps); ordered = omega (arith, ints, clamps) }

near_segment : (p q : Point) (half before after : ℤ) → IsStored p → IsStored q → IsReach half → IsReach before → IsReach after → IsNear (segment p q half before after)
near_segment p q half before after sp sq rh rb ra = cases (int_eq p.x q.x)
  where
    cases : (v : Bool) → IsNear (cond v
        (record { left = p.x -ℤ half; bottom = low_end p.y q.y before after; right = p.x +ℤ half; top = high_end p.y q.y before after })
        (record { left = low_end p.x q.x before after; bottom = p.y -ℤ half; right = high_end p.x q.x before after; top = p.y +ℤ half }))
    cases true =
        let s = sides p.x half sp.left sp.right rh in
        let e = ends p.y q.y before after sp.low sp.high sq.low sq.high rb ra in
        record { left = s.least; bottom = e.least; right = s.most; top = e.most; wide = s.ordered; tall = e.ordered }
    cases false =
        let s = sides p.y half sp.low sp.high rh in
        let e = ends p.x q.x before after sp.left sp.right sq.left sq.right rb ra in
        record { left = e.least; bottom = s.least; right = e.most; top = s.most; wide = e.ordered; tall = s.ordered }

all_cons : (P : Bounds → Type 0) (b : Bounds) (all : List Bounds) → P b → All P all → All P (b ∷ all)
all_cons P b all first rest zero d lt = first
all_cons P b all first rest (suc k) d lt = rest k d (omega arith)

ending_reach : (half after : ℤ) (points : List Point) → IsReach half → IsReach after → IsReach (ending half after points)
ending_reach half after [] rh ra = ra
ending_reach half after (r ∷ points) rh ra = rh

near_from : (half before after : ℤ) (p : Point) (points : List Point) → IsReach half → IsReach before → IsReach after → IsStored p → All IsStored points
    → All IsNear (segments_from half before after p points)
near_from half before after p [] rh rb ra sp stored = λ k d lt. absurd (omega arith)
near_from half before after p (q ∷ points) rh rb ra sp stored =
    let sq = stored 0 q (omega arith) in
    all_cons IsNear _ _ (near_segment p q half before (ending half after points) sp sq rh rb (ending_reach half after points rh ra))
    (near_from half half after q points rh rh ra sq (λ k d lt. stored (suc k) d (omega arith)))

near_segments : (half before after : ℤ) (points : List Point) → IsReach half → IsReach before → IsReach after → All IsStored points → All IsNear (segments half before after points)
near_segments half before after [] rh rb ra stored = λ k d lt. absurd (omega arith)
near_segments half before after (p ∷ points) rh rb ra stored =
    near_from half before after p points rh rb ra (stored 0 p (omega arith)) (λ k d lt. stored (suc k) d (omega arith))

-- ---- a path that isn't refused has no negative extension

half_reach : (path : Wire) → IsStretch (half_of path) → IsReach (half_of path)
half_reach path s = record { some = omega (arith, ints, clamps); most = s.most }

no_bad : (path : Wire) (points : List Point) → None ≡ fault_among path points → has_bad_extension path ≡ false
no_bad path points h = last (list_any is_slanted (edges points)) (has_round_end path) (has_odd_width path) (doubles_back points) (has_bad_extension path) h
  where
    last : (a b c d e : Bool)
        → None ≡ first_of ((a, errors.NotManhattan) ∷ (b, errors.RoundEnd) ∷ (c, errors.OddWidth) ∷ (d, errors.DoublesBack) ∷ (e, errors.BadExtension) ∷ [])
        → e ≡ false
    last true b c d e h = cc
    last false true c d e h = cc
    last false false true d e h = cc
    last false false false true e h = cc
    last false false false false true h = cc
    last false false false false false h = refl

either_end : (a b c : Bool) → (a && (b || c)) ≡ false → ((a && b) ≡ false) × ((a && c) ≡ false)
either_end true b c h = or_parts b c h
either_end false b c h = (refl, refl)

extension_reach : (type : ℕ) (half : ℤ) (given : Option ℤ) → IsReach half → IsStretch (extension type half given) → (eqb type 4 && int_lt (extension type half given) (pos 0)) ≡ false
    → IsReach (extension type half given)
extension_reach type half given rh s fine = cases (eqb type 2) (eqb type 4) s fine
  where
    cases : (a b : Bool) → IsStretch (cond a half (cond b (unwrap_or given (pos 0)) (pos 0))) → (b && int_lt (cond a half (cond b (unwrap_or given (pos 0)) (pos 0))) (pos 0)) ≡ false
        → IsReach (cond a half (cond b (unwrap_or given (pos 0)) (pos 0)))
    cases true b s h = rh
    cases false true s h = record { some = not_below (unwrap_or given (pos 0)) h; most = s.most }
      where
        not_below : (z : ℤ) → int_lt z (pos 0) ≡ false → pos 0 ≤ℤ z
        not_below z h = grind (arith, ints)
    cases false false s h = record { some = omega (arith, ints, clamps); most = omega (arith, ints, clamps) }

pub near_made : (path : Wire) (points : List Point) (made : List Bounds) → None ≡ fault_among path points → IsStretch (half_of path) → IsStretch (begin_of path) → IsStretch (end_of path)
    → All IsStored points → made ≡ segments (half_of path) (begin_of path) (end_of path) points → All IsNear made
near_made path points made fine sh sb se stored is =
    let h = half_reach path sh in
    let e = either_end (eqb (type_of path) 4) (int_lt (begin_of path) (pos 0)) (int_lt (end_of path) (pos 0)) (no_bad path points fine) in
    rw is (near_segments _ _ _ points h (extension_reach (type_of path) (half_of path) path.begin_extension h sb e.0) (extension_reach (type_of path) (half_of path) path.end_extension h se e.1) stored)

-- ---- the extent of rectangles that are near

pub near_bounds : (all : List Bounds) (d b : Bounds) → 0 < length all → All IsNear all → IsExtent all b → IsNear b
near_bounds all d b filled near e =
    let first = near 0 d filled in
    record {
      left = (e.left (negsuc 8589934591)).1 (λ k f lt. (near k f lt).left);
      bottom = (e.bottom (negsuc 8589934591)).1 (λ k f lt. (near k f lt).bottom);
      right = (e.right (pos 8589934592)).1 (λ k f lt. (near k f lt).right);
      top = (e.top (pos 8589934592)).1 (λ k f lt. (near k f lt).top);
      wide = through b.left (get_or all 0 d).left (get_or all 0 d).right b.right ((e.left b.left).0 (le_self b.left) 0 d filled) first.wide ((e.right b.right).0 (le_self b.right) 0 d filled);
      tall = through b.bottom (get_or all 0 d).bottom (get_or all 0 d).top b.top ((e.bottom b.bottom).0 (le_self b.bottom) 0 d filled) first.tall ((e.top b.top).0 (le_self b.top) 0 d filled);
    }
  where
    through : (a b c d : ℤ) → a ≤ℤ b → b ≤ℤ c → c ≤ℤ d → a ≤ℤ d
    through a b c d h k l = omega (arith, ints, clamps)

origin : Bounds
origin = record { left = pos 0; bottom = pos 0; right = pos 0; top = pos 0 }

-- moved to the corner, all of them are in range
pub bounds_within : (all : List Bounds) (b : Bounds) (by : Point) → All IsNear all → IsExtent all b → IsNarrow b → by ≡ corner_move b → All AreInRange (map (moved_bounds by) all)
bounds_within all b by near e narrow is = rw is (λ k d lt.
    let here : k < length all = rw length-map at lt in
    rw (mapped_at (moved_bounds (corner_move b)) all k origin d here) (within k here))
  where
    coordinate : (a b c : ℤ) → b ≤ℤ a → a ≤ℤ c → (c -ℤ b) ≤ℤ pos 2147483648 → IsCoordinate (a +ℤ (lowest -ℤ b))
    coordinate a b c l h k = record { least = omega (arith, ints, clamps); most = omega (arith, ints, clamps) }

    one : (c : Bounds) → IsNear c → b.left ≤ℤ c.left → c.right ≤ℤ b.right → b.bottom ≤ℤ c.bottom → c.top ≤ℤ b.top → AreInRange (moved_bounds (corner_move b) c)
    one c n l r m t = (
      (coordinate c.left b.left b.right l (through c.left c.right b.right n.wide r) narrow.0, coordinate c.bottom b.bottom b.top m (through c.bottom c.top b.top n.tall t) narrow.1),
      (coordinate c.right b.left b.right (through b.left c.left c.right l n.wide) r narrow.0, coordinate c.top b.bottom b.top (through b.bottom c.bottom c.top m n.tall) t narrow.1),
    )
      where
        through : (a b c : ℤ) → a ≤ℤ b → b ≤ℤ c → a ≤ℤ c
        through a b c h k = omega (arith, ints, clamps)

    within : (k : ℕ) → k < length all → AreInRange (moved_bounds (corner_move b) (get_or all k origin))
    within k lt = one (get_or all k origin) (near k origin lt)
        ((e.left b.left).0 (le_self b.left) k origin lt) ((e.right b.right).0 (le_self b.right) k origin lt)
        ((e.bottom b.bottom).0 (le_self b.bottom) k origin lt) ((e.top b.top).0 (le_self b.top) k origin lt)

pub some_items : (n : ℕ) → false ≡ eqb n 0 → 0 < n
some_items zero h = let w : false ≡ true = h in cc
some_items (suc n) h = omega arith
