-- Some runs of a set, and those of them that reach into a frame.
use Rattle.std.proofs.Common.{◌≡◌, ℕ, suc, ◌+◌, ◌<◌, ℤ, Bool, true, false, ◌&&◌, ◌||◌, List, [], ◌∷◌, ◌++◌, append-nil, length, take, get_or, map, refl, sym, ◌∙◌, ap, subst, arith, ⊎_elim, true≢false}
use Rattle.std.specs.Prelude.{int_lt}
use Rattle.std.specs.List.{Contains, filter}
use Rattle.std.proofs.lemmas.Int.{ints}
use Rattle.std.proofs.lemmas.List.{get_or-map}
use Rattle.std.proofs.lemmas.List.Elements.{All-contains, All-weaker, All-contains_itself, Contains-push_cases, filter_more}
use Rattle.fill_base.specs.declared.rect.Rect.{Rect}
use Rattle.fill_base.specs.Counts.{is_between}
use Rattle.fill_base.specs.Sides.{sides_of}
use Rattle.fill_base.specs.Squares.{squares}
use Rattle.fill_base.proofs.Between.{squares_apart_x, squares_apart_y}
use Rattle.fill_bands.specs.Squares.{covered}
use Rattle.fill_region.specs.Runs.{IsRun, holds, AreRuns}
use Rattle.fill_region.specs.Near.{AreSomeRuns}
use Rattle.fill_region.specs.Clips.{overlap}
use Rattle.fill_region.proofs.Members.{covered_push, covered_more}

-- some of some runs
pub some_of : (runs some : List Rect) → ((r : Rect) → Contains some r → Contains runs r) → AreSomeRuns runs → AreSomeRuns some
some_of runs some among are = record {
  set = are.set;
  each = All-weaker (Contains some) (λ r. IsRun are.set (sides_of r)) (λ r is. All-contains (λ r. IsRun are.set (sides_of r)) runs r are.each (among r is)) some (All-contains_itself some);
}

-- all runs of a set
pub all_runs : (rects : List Rect) → AreRuns (map sides_of rects) → AreSomeRuns rects
all_runs rects are = record {
  set = holds (map sides_of rects);
  each = λ k d lt. subst (λ s. IsRun (holds (map sides_of rects)) s) (get_or-map sides_of rects k d (sides_of d) lt) (are.each k (sides_of d) (long k lt));
}
  where
    length_map : (rs : List Rect) → length (map sides_of rs) ≡ length rs
    length_map [] = refl
    length_map (r ∷ rs) = ap suc (length_map rs)

    long : (k : ℕ) → k < length rects → k < length (map sides_of rects)
    long k lt = let e = length_map rects in omega (arith, lt, e)

-- rectangles that don't overlap share no square
apart_one : (a b c d x : ℤ) → (int_lt a d && int_lt c b) ≡ false → (is_between a b x && is_between c d x) ≡ false
apart_one a b c d x off = grind (arith, ints)

pub apart : (r s : Rect) → overlap r s ≡ false → (x y : ℤ) → (squares r x y && squares s x y) ≡ false
apart r s off x y = by (int_lt r.x1 s.x2 && int_lt s.x1 r.x2) (int_lt r.y1 s.y2) (int_lt s.y1 r.y2) off
    (λ across. squares_apart_x r s (λ i. apart_one r.x1 r.x2 s.x1 s.x2 i across) x y) (λ up. squares_apart_y r s (λ i. apart_one r.y1 r.y2 s.y1 s.y2 i up) x y)
  where
    by : {P : Type 0} (a b c : Bool) → ((a && b) && c) ≡ false → (a ≡ false → P) → ((b && c) ≡ false → P) → P
    by true b c e f g = g e
    by false b c e f g = f refl

-- the runs passed so far: those put are among all, and hold what those hold within the frame
pub record AreNear (runs passed : List Rect) (frame : Rect) (near : List Rect) : Type 0 where
  pub among : (r : Rect) → Contains near r → Contains runs r
  pub same : (x y : ℤ) → squares frame x y ≡ true → covered near x y ≡ covered passed x y
  pub filtered : near ≡ filter (λ r. overlap r frame) passed

pub one_near : (runs : List Rect) (frame : Rect) (near : List Rect) (k : ℕ) (d : Rect) → k < length runs → d ≡ get_or runs k d → overlap d frame ≡ true → AreNear runs (take k runs) frame near → AreNear runs (take (k + 1) runs) frame (near ++ d ∷ [])
one_near runs frame near k d lt is on n = record {
  among = λ r within. ⊎_elim (λ old. n.among r old) (λ new. subst (Contains runs) new (k, lt, sym is)) (Contains-push_cases near d r within);
  same = λ x y in_frame. covered_push near d x y ∙ (ap (λ b. b || squares d x y) (n.same x y in_frame) ∙ sym (covered_more runs k d x y lt is));
  filtered = ap (λ rs. rs ++ d ∷ []) n.filtered ∙ sym (filter_more (λ r. overlap r frame) runs k d lt ∙ rw (sym is, on) refl);
}

pub one_far : (runs : List Rect) (frame : Rect) (near : List Rect) (k : ℕ) (d : Rect) → k < length runs → d ≡ get_or runs k d → overlap d frame ≡ false → AreNear runs (take k runs) frame near → AreNear runs (take (k + 1) runs) frame near
one_far runs frame near k d lt is off n = record {
  among = n.among;
  same = λ x y in_frame. n.same x y in_frame ∙ (sym (or_none (covered (take k runs) x y) (squares d x y) (squares frame x y) in_frame (apart d frame off x y)) ∙ sym (covered_more runs k d x y lt is));
  filtered = n.filtered ∙ sym (filter_more (λ r. overlap r frame) runs k d lt ∙ (rw (sym is, off) refl ∙ append-nil (filter (λ r. overlap r frame) (take k runs))));
}
  where
    or_none : (a b c : Bool) → c ≡ true → (b && c) ≡ false → (a || b) ≡ a
    or_none true b c e f = refl
    or_none false true c e f = absurd (true≢false (sym e ∙ f))
    or_none false false c e f = refl
