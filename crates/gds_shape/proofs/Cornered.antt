-- The corners of a path, one point after the other.
use Rattle.std.proofs.Common.{◌≡◌, zero, suc, ◌≤◌, List, [], ◌∷◌, length, refl, arith, Bool, true, false, cond}
use Rattle.std.specs.Prelude.{All}
use Rattle.fill_base.specs.declared.place.Point.{Point}
use Rattle.gds_shape.specs.Paths.{is_same, is_dropped, corners_from, corners, doubles_back}

pub no_back : (rest : List Point) → length rest ≤ 2 → false ≡ doubles_back rest
no_back [] short = refl
no_back (p ∷ []) short = refl
no_back (p ∷ q ∷ []) short = refl
no_back (p ∷ q ∷ r ∷ rest) short = absurd (omega arith)

all_cons : (P : Point → Type 0) (p : Point) (points : List Point) → P p → All P points → All P (p ∷ points)
all_cons P p points hp all zero d lt = hp
all_cons P p points hp all (suc k) d lt = all k d (omega arith)

all_tail : (P : Point → Type 0) (p : Point) (points : List Point) → All P (p ∷ points) → All P points
all_tail P p points all k d lt = all (suc k) d (omega arith)

none : (P : Point → Type 0) → All P []
none P k d lt = absurd (omega arith)

-- what holds of all points holds of the corners
corners_all_from : (P : Point → Type 0) (p q : Point) (points : List Point) → P p → P q → All P points → All P (corners_from p q points)
corners_all_from P p q [] hp hq all = last (is_same p q)
  where
    last : (b : Bool) → All P (cond b (p ∷ []) (p ∷ q ∷ []))
    last true = all_cons P p [] hp (none P)
    last false = all_cons P p (q ∷ []) hp (all_cons P q [] hq (none P))
corners_all_from P p q (r ∷ points) hp hq all =
    next (is_dropped p q r) (corners_all_from P p r points hp (all 0 r (omega arith)) (all_tail P r points all)) (corners_all_from P q r points hq (all 0 r (omega arith)) (all_tail P r points all))
  where
    next : (b : Bool) → All P (corners_from p r points) → All P (corners_from q r points) → All P (cond b (corners_from p r points) (p ∷ corners_from q r points))
    next true one two = one
    next false one two = all_cons P p (corners_from q r points) hp two

pub corners_all : (P : Point → Type 0) (points : List Point) → All P points → All P (corners points)
corners_all P [] all = all
corners_all P (p ∷ points) all = corners_all_from P p p points (all 0 p (omega arith)) (all 0 p (omega arith)) (all_tail P p points all)
