-- Runs on both sides of a level line that are joined where one stands on another.
use Rattle.std.proofs.Common.{◌≡◌, ℕ, ◌+◌, ◌<◌, ℤ, pos, ◌-ℤ◌, ◌≤ℤ◌, ◌<ℤ◌, Bool, true, false, ◌&&◌, ◌||◌, List, [], ◌∷◌, ◌++◌, length, take, get_or, refl, sym, ◌∙◌, ap, arith, ⊎_elim, subst, true≢false}
use Rattle.std.specs.List.{All, Contains}
use Rattle.std.specs.List.Sorted.{IsPermutation}
use Rattle.std.proofs.lemmas.Int.{ints}
use Rattle.std.proofs.lemmas.List.Elements.{All-contains, All-push, Contains-append_cases}
use Rattle.std.proofs.lemmas.List.Sorted.{All-permutation, Contains-permutation}
use Rattle.fill_base.specs.declared.rect.Rect.{Rect}
use Rattle.fill_base.specs.Sides.{sides, sides_of}
use Rattle.fill_base.specs.Counts.{is_between}
use Rattle.fill_base.specs.Squares.{squares}
use Rattle.fill_base.proofs.Between.{is_between_true}
use Rattle.fill_bands.specs.Squares.{covered}
use Rattle.fill_region.specs.Runs.{IsInterval, IsRun}
use Rattle.fill_region.specs.Steps.{AreRunsOf, before, behind, StandsOn, HasSides, HasLower, AreOfOneRow, MeetAt, AreGoneOn, AreBegun, AreStacked}
use Rattle.fill_region.specs.declared.lines.Line.TheVariants.{Level}
use Rattle.fill_region.proofs.Intervals.{same_left, same_right, same_run}
use Rattle.fill_region.proofs.Members.{either, or_left, or_right, square_within, holder, covered_same, first_part, among_more, covered_push, covered_more}
use Rattle.fill_region.proofs.Levels.{below_same, above_same, lower_top, upper_bottom, low_interval, high_interval, lower_run, upper_run, both_run, le_self}

before_self : (a : ℤ) → (a -ℤ pos 1) <ℤ a
before_self a = omega (arith, ints)

-- ---- runs that meet at a line

-- an interval of the row below the line has a run that ends there
lower_sides : (p : ℤ → ℤ → Bool) (at : ℤ) (lower others : List Rect) → AreRunsOf (before (Level at) p) (lower ++ others) → All (λ r. r.y2 ≡ at → ⊥) others
    → (left right : ℤ) → left <ℤ right → IsInterval p left right (at -ℤ pos 1) → HasSides left right lower
lower_sides p at lower others runs not left right wide i =
    let y = at -ℤ pos 1 in
    let h = holder (lower ++ others) left y (runs.all left y (below_same p at left y (before_self at) ∙ i.filled left (le_self left) wide)) in
    let run : IsRun (before (Level at) p) (sides_of h.rect) = All-contains (λ r. IsRun (before (Level at) p) (sides_of r)) (lower ++ others) h.rect runs.each h.among in
    let within = square_within h.rect left y h.holds_it in
    let low : h.rect.y2 ≤ℤ at = lower_top p at (sides_of h.rect) run in
    let top : h.rect.y2 ≡ at = omega (arith, ints, low, within.1.1) in
    let j : IsInterval p h.rect.x1 h.rect.x2 y = low_interval p at h.rect.x1 h.rect.x2 y run.wide (before_self at) (run.rows y within.1.0 within.1.1) in
    ⊎_elim (λ there. record {
      rect = h.rect;
      among = there;
      left_is = same_left p h.rect.x1 h.rect.x2 left right y left j i within.0.0 within.0.1 (le_self left) wide;
      right_is = same_right p h.rect.x1 h.rect.x2 left right y left j i within.0.0 within.0.1 (le_self left) wide;
    }) (λ there. absurd (All-contains (λ r. r.y2 ≡ at → ⊥) others h.rect not there top)) (Contains-append_cases lower others h.rect h.among)

-- and one of the row above it a run that begins there
upper_sides : (p : ℤ → ℤ → Bool) (at : ℤ) (upper others : List Rect) → AreRunsOf (behind (Level at) p) (upper ++ others) → All (λ r. r.y1 ≡ at → ⊥) others
    → (left right : ℤ) → left <ℤ right → IsInterval p left right at → HasSides left right upper
upper_sides p at upper others runs not left right wide i =
    let h = holder (upper ++ others) left at (runs.all left at (above_same p at left at (le_self at) ∙ i.filled left (le_self left) wide)) in
    let run : IsRun (behind (Level at) p) (sides_of h.rect) = All-contains (λ r. IsRun (behind (Level at) p) (sides_of r)) (upper ++ others) h.rect runs.each h.among in
    let within = square_within h.rect left at h.holds_it in
    let high : at ≤ℤ h.rect.y1 = upper_bottom p at (sides_of h.rect) run in
    let bottom : h.rect.y1 ≡ at = omega (arith, ints, high, within.1.0) in
    let j : IsInterval p h.rect.x1 h.rect.x2 at = high_interval p at h.rect.x1 h.rect.x2 at run.wide (le_self at) (run.rows at within.1.0 within.1.1) in
    ⊎_elim (λ there. record {
      rect = h.rect;
      among = there;
      left_is = same_left p h.rect.x1 h.rect.x2 left right at left j i within.0.0 within.0.1 (le_self left) wide;
      right_is = same_right p h.rect.x1 h.rect.x2 left right at left j i within.0.0 within.0.1 (le_self left) wide;
    }) (λ there. absurd (All-contains (λ r. r.y1 ≡ at → ⊥) others h.rect not there bottom)) (Contains-append_cases upper others h.rect h.among)

-- the runs of both parts that touch the line
pub meet : (p : ℤ → ℤ → Bool) (at : ℤ) (lower lower_others upper upper_others : List Rect) → AreRunsOf (before (Level at) p) (lower ++ lower_others) → All (λ r. r.y2 ≡ at) lower → All (λ r. r.y2 ≡ at → ⊥) lower_others
    → AreRunsOf (behind (Level at) p) (upper ++ upper_others) → All (λ r. r.y1 ≡ at) upper → All (λ r. r.y1 ≡ at → ⊥) upper_others → MeetAt p at lower upper
meet p at lower lower_others upper upper_others low end not_end high begin not_begin = record {
  end = end;
  begin = begin;
  lower_runs = first_part (λ r. IsRun (before (Level at) p) (sides_of r)) lower lower_others low.each;
  upper_runs = first_part (λ r. IsRun (behind (Level at) p) (sides_of r)) upper upper_others high.each;
  lower_all = lower_sides p at lower lower_others low not_end;
  upper_all = upper_sides p at upper upper_others high not_begin;
}

-- the same runs in another order
sides_permuted : (left right : ℤ) (xs ys : List Rect) → IsPermutation xs ys → HasSides left right xs → HasSides left right ys
sides_permuted left right xs ys same h = record { rect = h.rect; among = Contains-permutation xs ys h.rect same h.among; left_is = h.left_is; right_is = h.right_is }

pub meet_permuted : (p : ℤ → ℤ → Bool) (at : ℤ) (lower lower_too upper upper_too : List Rect) → IsPermutation lower lower_too → IsPermutation upper upper_too → MeetAt p at lower upper → MeetAt p at lower_too upper_too
meet_permuted p at lower lower_too upper upper_too low high m = record {
  end = All-permutation (λ r. r.y2 ≡ at) lower lower_too low m.end;
  begin = All-permutation (λ r. r.y1 ≡ at) upper upper_too high m.begin;
  lower_runs = All-permutation (λ r. IsRun (before (Level at) p) (sides_of r)) lower lower_too low m.lower_runs;
  upper_runs = All-permutation (λ r. IsRun (behind (Level at) p) (sides_of r)) upper upper_too high m.upper_runs;
  lower_all = λ left right wide i. sides_permuted left right lower lower_too low (m.lower_all left right wide i);
  upper_all = λ left right wide i. sides_permuted left right upper upper_too high (m.upper_all left right wide i);
}

-- those of one side are of one row
pub lower_row : (p : ℤ → ℤ → Bool) (at : ℤ) (lower upper : List Rect) → MeetAt p at lower upper → AreOfOneRow lower
lower_row p at lower upper m r s in_r in_s same =
    let top_r : r.y2 ≡ at = All-contains (λ t. t.y2 ≡ at) lower r m.end in_r in
    let top_s : s.y2 ≡ at = All-contains (λ t. t.y2 ≡ at) lower s m.end in_s in
    same_run (before (Level at) p) (sides_of r) (sides_of s) r.x1 (at -ℤ pos 1) (All-contains (λ t. IsRun (before (Level at) p) (sides_of t)) lower r m.lower_runs in_r) (All-contains (λ t. IsRun (before (Level at) p) (sides_of t)) lower s m.lower_runs in_s)
    (rw (is_between_true r.x1 r.x2 r.x1 (le_self r.x1) r.wide, is_between_true r.y1 r.y2 (at -ℤ pos 1) (omega (arith, ints, r.tall, top_r)) (omega (arith, ints, top_r))) refl)
    (rw (is_between_true s.x1 s.x2 r.x1 (omega (arith, ints, same)) (omega (arith, ints, same, s.wide)), is_between_true s.y1 s.y2 (at -ℤ pos 1) (omega (arith, ints, s.tall, top_s)) (omega (arith, ints, top_s))) refl)

pub upper_row : (p : ℤ → ℤ → Bool) (at : ℤ) (lower upper : List Rect) → MeetAt p at lower upper → AreOfOneRow upper
upper_row p at lower upper m r s in_r in_s same =
    let bottom_r : r.y1 ≡ at = All-contains (λ t. t.y1 ≡ at) upper r m.begin in_r in
    let bottom_s : s.y1 ≡ at = All-contains (λ t. t.y1 ≡ at) upper s m.begin in_s in
    same_run (behind (Level at) p) (sides_of r) (sides_of s) r.x1 at (All-contains (λ t. IsRun (behind (Level at) p) (sides_of t)) upper r m.upper_runs in_r) (All-contains (λ t. IsRun (behind (Level at) p) (sides_of t)) upper s m.upper_runs in_s)
    (rw (is_between_true r.x1 r.x2 r.x1 (le_self r.x1) r.wide, is_between_true r.y1 r.y2 at (omega (arith, ints, bottom_r)) (omega (arith, ints, bottom_r, r.tall))) refl)
    (rw (is_between_true s.x1 s.x2 r.x1 (omega (arith, ints, same)) (omega (arith, ints, same, s.wide)), is_between_true s.y1 s.y2 at (omega (arith, ints, bottom_s)) (omega (arith, ints, bottom_s, s.tall))) refl)

-- ---- the lower runs one by one

-- none yet
pub none_gone_on : (p : ℤ → ℤ → Bool) (upper ended : List Rect) → AreGoneOn p [] upper ended [] ended
none_gone_on p upper ended = record {
  are_runs = λ k d lt. absurd (omega (arith, lt));
  ended_runs = λ are. are;
  lower_in = λ x y is. is;
  upper_in = λ r among h x y is. absurd (nothing h.rect h.among);
}
  where
    nothing : (r : Rect) → Contains [] r → ⊥
    nothing r (k, lt, at) = omega (arith, lt)

-- four sets of squares, of which one has come to another place
regroup_ended : (a b c d : Bool) → ((a || d) || b) ≡ true → ((a || b) ≡ true → (c ≡ true)) → (c || d) ≡ true
regroup_ended true b c d is h = or_left c d (h refl)
regroup_ended false b c true is h = or_right c true refl
regroup_ended false b c false is h = or_left c false (h is)

or_assoc : (a b c : Bool) → (a || (b || c)) ≡ ((a || b) || c)
or_assoc true b c = refl
or_assoc false b c = refl

-- one that ends: no upper one stands on it
pub one_ended : (p : ℤ → ℤ → Bool) (at : ℤ) (lower upper before_ended runs ended : List Rect) (k : ℕ) (d : Rect) → MeetAt p at lower upper → k < length lower → d ≡ get_or lower k d
    → ((r : Rect) → Contains upper r → StandsOn r d → ⊥) → AreGoneOn p (take k lower) upper before_ended runs ended → AreGoneOn p (take (k + 1) lower) upper before_ended runs (ended ++ d ∷ [])
one_ended p at lower upper before_ended runs ended k d m lt is none g = record {
  are_runs = g.are_runs;
  ended_runs = λ are. All-push (λ r. IsRun p (sides_of r)) ended d (g.ended_runs are) run;
  lower_in = λ x y some. rw (covered_push ended d x y)
      (or_assoc (covered runs x y) (covered ended x y) (squares d x y) ∙
      regroup_ended (covered (take k lower) x y) (covered before_ended x y) (covered runs x y || covered ended x y) (squares d x y) (rw (covered_more lower k d x y lt is) at some) (g.lower_in x y));
  upper_in = λ r among h x y some. ⊎_elim
      (λ there. g.upper_in r among (record { rect = h.rect; among = there; stands = h.stands }) x y some)
      (λ same. absurd (none r among (subst (StandsOn r) (sym same) h.stands)))
      (among_more lower k d h.rect lt is h.among);
}
  where
    in_lower : Contains lower d
    in_lower = (k, lt, sym is)

    top : d.y2 ≡ at
    top = All-contains (λ r. r.y2 ≡ at) lower d m.end in_lower

    run : IsRun p (sides_of d)
    run = lower_run p at (sides_of d) (All-contains (λ r. IsRun (before (Level at) p) (sides_of r)) lower d m.lower_runs in_lower)
        (λ ends i. let h = m.upper_all d.x1 d.x2 d.wide i in
        let bottom : h.rect.y1 ≡ at = All-contains (λ r. r.y1 ≡ at) upper h.rect m.begin h.among in
        none h.rect h.among (record { line = top ∙ sym bottom; left = sym h.left_is; right = sym h.right_is }))

-- one that goes on, as far as the upper one that stands on it
pub one_gone_on : (p : ℤ → ℤ → Bool) (at : ℤ) (lower upper before_ended runs ended : List Rect) (k : ℕ) (d u b : Rect) → MeetAt p at lower upper → k < length lower → d ≡ get_or lower k d
    → Contains upper u → StandsOn u d → sides_of b ≡ sides d.x1 d.y1 d.x2 u.y2 → AreGoneOn p (take k lower) upper before_ended runs ended → AreGoneOn p (take (k + 1) lower) upper before_ended (runs ++ b ∷ []) ended
one_gone_on p at lower upper before_ended runs ended k d u b m lt is in_upper stands b_is g = record {
  are_runs = All-push (λ r. IsRun p (sides_of r)) runs b g.are_runs run;
  ended_runs = g.ended_runs;
  lower_in = λ x y some. rw (covered_push runs b x y) (regroup (covered (take k lower) x y) (covered before_ended x y) (covered runs x y) (covered ended x y) (squares d x y) (squares b x y)
      (rw (covered_more lower k d x y lt is) at some) (g.lower_in x y) (lower_part x y));
  upper_in = λ r among h x y some. rw (covered_push runs b x y) (⊎_elim
      (λ there. or_left (covered runs x y) (squares b x y) (g.upper_in r among (record { rect = h.rect; among = there; stands = h.stands }) x y some))
      (λ same. or_right (covered runs x y) (squares b x y) (upper_part r among (subst (StandsOn r) (sym same) h.stands) x y some))
      (among_more lower k d h.rect lt is h.among));
}
  where
    in_lower : Contains lower d
    in_lower = (k, lt, sym is)

    top : d.y2 ≡ at
    top = All-contains (λ r. r.y2 ≡ at) lower d m.end in_lower

    bottom : u.y1 ≡ at
    bottom = All-contains (λ r. r.y1 ≡ at) upper u m.begin in_upper

    upper_run_of : (r : Rect) → Contains upper r → IsRun (behind (Level at) p) (sides_of r)
    upper_run_of r among = All-contains (λ s. IsRun (behind (Level at) p) (sides_of s)) upper r m.upper_runs among

    run : IsRun p (sides_of b)
    run = subst (IsRun p) (sym b_is) (both_run p at (sides_of d) (sides_of u) (All-contains (λ r. IsRun (before (Level at) p) (sides_of r)) lower d m.lower_runs in_lower) (upper_run_of u in_upper) top bottom stands.left stands.right)

    has_b : (x y : ℤ) → d.x1 ≤ℤ x → x <ℤ d.x2 → d.y1 ≤ℤ y → y <ℤ u.y2 → squares b x y ≡ true
    has_b x y a c e f = subst (λ s. (is_between s.left s.right x && is_between s.bottom s.top y) ≡ true) (sym b_is) (rw (is_between_true d.x1 d.x2 x a c, is_between_true d.y1 u.y2 y e f) refl)

    lower_part : (x y : ℤ) → squares d x y ≡ true → squares b x y ≡ true
    lower_part x y some = let w = square_within d x y some in has_b x y w.0.0 w.0.1 w.1.0 (omega (arith, ints, w.1.1, top, bottom, u.tall))

    upper_part : (r : Rect) → Contains upper r → StandsOn r d → (x y : ℤ) → squares r x y ≡ true → squares b x y ≡ true
    upper_part r among on x y some =
        let w = square_within r x y some in
        let s : r.y2 ≡ u.y2 = ap (λ t. t.top) (upper_row p at lower upper m r u among in_upper (sym on.left ∙ stands.left)) in
        let bottom_r : r.y1 ≡ at = All-contains (λ t. t.y1 ≡ at) upper r m.begin among in
        has_b x y (omega (arith, ints, w.0.0, on.left)) (omega (arith, ints, w.0.1, on.right)) (omega (arith, ints, w.1.0, bottom_r, top, d.tall)) (omega (arith, ints, w.1.1, s))

    regroup : (a e c f d b : Bool) → ((a || d) || e) ≡ true → ((a || e) ≡ true → (c || f) ≡ true) → (d ≡ true → b ≡ true) → ((c || b) || f) ≡ true
    regroup a e true f d b some h g = refl
    regroup a e false f true b some h g = or_left b f (g refl)
    regroup true e false f false b some h g = or_right b f (h refl)
    regroup false e false f false b some h g = or_right b f (h some)

-- ---- a row that is searched

-- where the first that begins in a column doesn't stand on a rectangle, no other of the row does
pub no_other_upon : (row : List Rect) (f lower : Rect) → AreOfOneRow row → Contains row f → f.x1 ≡ lower.x1 → (StandsOn f lower → ⊥) → (r : Rect) → Contains row r → StandsOn r lower → ⊥
no_other_upon row f lower one in_f begins not r in_r on =
    let same : sides_of f ≡ sides_of r = one f r in_f in_r (begins ∙ on.left) in
    not (record { line = on.line ∙ ap (λ s. s.bottom) (sym same); left = sym begins; right = on.right ∙ ap (λ s. s.right) (sym same) })

pub no_other_under : (row : List Rect) (f upper : Rect) → AreOfOneRow row → Contains row f → f.x1 ≡ upper.x1 → (StandsOn upper f → ⊥) → (r : Rect) → Contains row r → StandsOn upper r → ⊥
no_other_under row f upper one in_f begins not r in_r on =
    let same : sides_of f ≡ sides_of r = one f r in_f in_r (begins ∙ sym on.left) in
    not (record { line = ap (λ s. s.top) same ∙ on.line; left = begins; right = ap (λ s. s.right) same ∙ on.right })

-- ---- the upper runs one by one

-- none passed yet
pub none_begun : (p : ℤ → ℤ → Bool) (first : List Rect) → All (λ r. IsRun p (sides_of r)) first → AreBegun p [] first first
none_begun p first are = record { are_runs = are; first_in = λ x y is. is; passed_in = λ x y is. absurd (true≢false (sym is)) }

-- one that stands on a lower one is there already
pub one_there : (p : ℤ → ℤ → Bool) (lower upper before_ended first ended runs : List Rect) (k : ℕ) (d : Rect) → AreGoneOn p lower upper before_ended first ended → k < length upper → d ≡ get_or upper k d → HasLower d lower
    → AreBegun p (take k upper) first runs → AreBegun p (take (k + 1) upper) first runs
one_there p lower upper before_ended first ended runs k d g lt is h b = record {
  are_runs = b.are_runs;
  first_in = b.first_in;
  passed_in = λ x y some. ⊎_elim (λ a. b.passed_in x y a) (λ a. b.first_in x y (g.upper_in d (k, lt, sym is) h x y a))
      (either (covered (take k upper) x y) (squares d x y) (rw (covered_more upper k d x y lt is) at some));
}

-- one that stands on none begins
pub one_begins : (p : ℤ → ℤ → Bool) (at : ℤ) (lower upper first runs : List Rect) (k : ℕ) (d : Rect) → MeetAt p at lower upper → k < length upper → d ≡ get_or upper k d
    → ((r : Rect) → Contains lower r → StandsOn d r → ⊥) → AreBegun p (take k upper) first runs → AreBegun p (take (k + 1) upper) first (runs ++ d ∷ [])
one_begins p at lower upper first runs k d m lt is none b = record {
  are_runs = All-push (λ r. IsRun p (sides_of r)) runs d b.are_runs run;
  first_in = λ x y some. rw (covered_push runs d x y) (or_left (covered runs x y) (squares d x y) (b.first_in x y some));
  passed_in = λ x y some. rw (covered_push runs d x y) (⊎_elim (λ a. or_left (covered runs x y) (squares d x y) (b.passed_in x y a)) (λ a. or_right (covered runs x y) (squares d x y) a)
      (either (covered (take k upper) x y) (squares d x y) (rw (covered_more upper k d x y lt is) at some)));
}
  where
    in_upper : Contains upper d
    in_upper = (k, lt, sym is)

    bottom : d.y1 ≡ at
    bottom = All-contains (λ r. r.y1 ≡ at) upper d m.begin in_upper

    run : IsRun p (sides_of d)
    run = upper_run p at (sides_of d) (All-contains (λ r. IsRun (behind (Level at) p) (sides_of r)) upper d m.upper_runs in_upper)
        (λ begins i. let h = m.lower_all d.x1 d.x2 d.wide i in
        let top : h.rect.y2 ≡ at = All-contains (λ r. r.y2 ≡ at) lower h.rect m.end h.among in
        none h.rect h.among (record { line = top ∙ sym bottom; left = h.left_is; right = h.right_is }))

-- both together, of lists in any order
pub all_stacked : (p : ℤ → ℤ → Bool) (lower lower_too upper upper_too before_ended first runs ended : List Rect) → IsPermutation lower lower_too → IsPermutation upper upper_too
    → AreGoneOn p lower_too upper_too before_ended first ended → AreBegun p upper_too first runs → AreStacked p lower upper before_ended runs ended
all_stacked p lower lower_too upper upper_too before_ended first runs ended low high g b = record {
  are_runs = b.are_runs;
  ended_runs = g.ended_runs;
  all_in = λ x y some. gather (covered lower x y) (covered upper x y) (covered before_ended x y) (covered first x y) (covered runs x y) (covered ended x y) some
      (rw (covered_same lower lower_too x y low) (g.lower_in x y)) (rw (covered_same upper upper_too x y high) (b.passed_in x y)) (b.first_in x y);
}
  where
    second : (f e : Bool) → (f || e) ≡ true → (f ≡ true → ⊥) → e ≡ true
    second true e is not = absurd (not refl)
    second false e is not = is

    gather : (a b c f r e : Bool) → ((a || b) || c) ≡ true → ((a || c) ≡ true → (f || e) ≡ true) → (b ≡ true → r ≡ true) → (f ≡ true → r ≡ true) → (r || e) ≡ true
    gather a b c f true e some h g k = refl
    gather true b c f false e some h g k = second f e (h refl) (λ is. absurd (true≢false (sym (k is))))
    gather false true c f false e some h g k = absurd (true≢false (sym (g refl)))
    gather false false c f false e some h g k = second f e (h some) (λ is. absurd (true≢false (sym (k is))))
