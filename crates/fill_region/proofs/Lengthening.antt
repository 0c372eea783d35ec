-- A row more on the runs below it, one run after the other.
use Rattle.std.proofs.Common.{◌≡◌, ℕ, ◌+◌, ◌≤◌, ◌<◌, ℤ, ◌≤ℤ◌, ◌<ℤ◌, Bool, true, ◌&&◌, ◌||◌, List, [], ◌∷◌, ◌++◌, length, take, get_or, refl, sym, ◌∙◌, ap, arith, inl, inr, ⊎_elim, subst, true≢false}
use Rattle.std.specs.List.{All, Contains}
use Rattle.std.specs.List.Sorted.{IsPermutation}
use Rattle.std.proofs.lemmas.Int.{ints}
use Rattle.std.proofs.lemmas.List.{append-nil, get_or_default}
use Rattle.std.proofs.lemmas.List.Elements.{All-contains, All-nil, All-push, All-weaker}
use Rattle.std.proofs.lemmas.List.Sorted.{IsPermutation-append_comm, IsPermutation-refl}
use Rattle.fill_base.specs.declared.rect.Rect.{Rect}
use Rattle.fill_base.specs.Sides.{sides, sides_of}
use Rattle.fill_base.specs.Counts.{is_between}
use Rattle.fill_base.specs.Squares.{squares}
use Rattle.fill_base.proofs.Between.{is_between_true}
use Rattle.fill_bands.specs.Squares.{covered}
use Rattle.fill_spans.specs.Columns.{IsRisingBy}
use Rattle.fill_region.specs.Runs.{IsRun}
use Rattle.fill_region.specs.Steps.{AreRunsOf, before, behind, AreParted, StandsOn, MeetAt, AreStacked, AreEnded, AreLengthened, IsRow}
use Rattle.fill_region.specs.declared.lines.Line.TheVariants.{Level}
use Rattle.fill_region.specs.declared.edges.Edge.TheVariants.{Bottom, Top}
use Rattle.fill_region.proofs.Joining.{parted_meet, joined_runs}
use Rattle.fill_region.proofs.Levels.{lower_run, upper_run, both_run}
use Rattle.fill_region.proofs.Members.{either, or_left, or_right, square_within, among_more, covered_push, covered_more, runs_permuted}
use Rattle.fill_region.proofs.Searching.{rising_push}
use Rattle.fill_region.proofs.Stacking.{lower_row}

-- ---- the lower runs that end

pub none_ended : (p : ℤ → ℤ → Bool) (lower upper ended : List Rect) → AreEnded p lower upper [] ended ended
none_ended p lower upper ended = record { ended_runs = λ are. are; before_in = λ x y is. is; passed_in = λ x y is. absurd (true≢false (sym is)) }

-- one on which no upper one stands
pub one_ends : (p : ℤ → ℤ → Bool) (at : ℤ) (lower upper before_ended ended : List Rect) (k : ℕ) (d : Rect) → MeetAt p at lower upper → k < length lower → d ≡ get_or lower k d
    → ((r : Rect) → Contains upper r → StandsOn r d → ⊥) → AreEnded p lower upper (take k lower) before_ended ended → AreEnded p lower upper (take (k + 1) lower) before_ended (ended ++ d ∷ [])
one_ends p at lower upper before_ended ended k d m lt is none e = record {
  ended_runs = λ are. All-push (λ r. IsRun p (sides_of r)) ended d (e.ended_runs are) run;
  before_in = λ x y some. covered_push ended d x y ∙ or_left (covered ended x y) (squares d x y) (e.before_in x y some);
  passed_in = λ x y some. ⊎_elim
      (λ there. ⊎_elim (λ a. inl (covered_push ended d x y ∙ or_left (covered ended x y) (squares d x y) a)) (λ a. inr a) (e.passed_in x y there))
      (λ here. inl (covered_push ended d x y ∙ or_right (covered ended x y) (squares d x y) here))
      (either (covered (take k lower) x y) (squares d x y) (sym (covered_more lower k d x y lt is) ∙ some));
}
  where
    in_lower : Contains lower d
    in_lower = (k, lt, sym is)

    top : d.y2 ≡ at
    top = All-contains (λ r. r.y2 ≡ at) lower d m.end in_lower

    run : IsRun p (sides_of d)
    run = lower_run p at (sides_of d) (All-contains (λ r. IsRun (before (Level at) p) (sides_of r)) lower d m.lower_runs in_lower)
        (λ ends i. let h = m.upper_all d.x1 d.x2 d.wide i in
        let bottom : h.rect.y1 ≡ at = All-contains (λ r. r.y1 ≡ at) upper h.rect m.begin h.among in
        none h.rect h.among (record { line = top ∙ sym bottom; left = sym h.left_is; right = sym h.right_is }))

-- one on which an upper one stands
pub one_goes_on : (p : ℤ → ℤ → Bool) (lower upper before_ended ended : List Rect) (k : ℕ) (d u : Rect) → k < length lower → d ≡ get_or lower k d → Contains upper u → StandsOn u d
    → AreEnded p lower upper (take k lower) before_ended ended → AreEnded p lower upper (take (k + 1) lower) before_ended ended
one_goes_on p lower upper before_ended ended k d u lt is in_upper stands e = record {
  ended_runs = e.ended_runs;
  before_in = e.before_in;
  passed_in = λ x y some. ⊎_elim (λ there. e.passed_in x y there)
      (λ here. inr (record { below = d; above = u; in_lower = (k, lt, sym is); in_upper = in_upper; stands = stands; holds_it = here }))
      (either (covered (take k lower) x y) (squares d x y) (sym (covered_more lower k d x y lt is) ∙ some));
}

-- ---- the upper runs, from where they begin

pub none_lengthened : (p : ℤ → ℤ → Bool) (lower : List Rect) → AreLengthened p lower [] []
none_lengthened p lower = record { are_runs = All-nil (λ r. IsRun p (sides_of r)); passed_in = λ x y is. is; lower_in = λ x y g. absurd (nothing g.above g.in_upper) }
  where
    nothing : (r : Rect) → Contains [] r → ⊥
    nothing r (k, lt, at) = omega (arith, lt)

-- one that stands on a lower one
pub one_lengthened : (p : ℤ → ℤ → Bool) (at : ℤ) (lower upper runs : List Rect) (k : ℕ) (u d b : Rect) → MeetAt p at lower upper → k < length upper → u ≡ get_or upper k u
    → Contains lower d → StandsOn u d → sides_of b ≡ sides d.x1 d.y1 d.x2 u.y2 → AreLengthened p lower (take k upper) runs → AreLengthened p lower (take (k + 1) upper) (runs ++ b ∷ [])
one_lengthened p at lower upper runs k u d b m lt is in_lower stands b_is l = record {
  are_runs = All-push (λ r. IsRun p (sides_of r)) runs b l.are_runs run;
  passed_in = λ x y some. covered_push runs b x y ∙ ⊎_elim
      (λ there. or_left (covered runs x y) (squares b x y) (l.passed_in x y there))
      (λ here. or_right (covered runs x y) (squares b x y) (upper_part x y here))
      (either (covered (take k upper) x y) (squares u x y) (sym (covered_more upper k u x y lt is) ∙ some));
  lower_in = λ x y g. covered_push runs b x y ∙ ⊎_elim
      (λ there. or_left (covered runs x y) (squares b x y) (l.lower_in x y (record { below = g.below; above = g.above; in_lower = g.in_lower; in_upper = there; stands = g.stands; holds_it = g.holds_it })))
      (λ same. or_right (covered runs x y) (squares b x y) (lower_part g.below g.in_lower (subst (λ a. StandsOn a g.below) (sym same) g.stands) x y g.holds_it))
      (among_more upper k u g.above lt is g.in_upper);
}
  where
    in_upper : Contains upper u
    in_upper = (k, lt, sym is)

    top : d.y2 ≡ at
    top = All-contains (λ r. r.y2 ≡ at) lower d m.end in_lower

    bottom : u.y1 ≡ at
    bottom = All-contains (λ r. r.y1 ≡ at) upper u m.begin in_upper

    run : IsRun p (sides_of b)
    run = subst (IsRun p) (sym b_is) (both_run p at (sides_of d) (sides_of u) (All-contains (λ r. IsRun (before (Level at) p) (sides_of r)) lower d m.lower_runs in_lower)
        (All-contains (λ s. IsRun (behind (Level at) p) (sides_of s)) upper u m.upper_runs in_upper) top bottom stands.left stands.right)

    has_b : (x y : ℤ) → d.x1 ≤ℤ x → x <ℤ d.x2 → d.y1 ≤ℤ y → y <ℤ u.y2 → squares b x y ≡ true
    has_b x y a c e f = subst (λ s. (is_between s.left s.right x && is_between s.bottom s.top y) ≡ true) (sym b_is) (rw (is_between_true d.x1 d.x2 x a c, is_between_true d.y1 u.y2 y e f) refl)

    upper_part : (x y : ℤ) → squares u x y ≡ true → squares b x y ≡ true
    upper_part x y some = let w = square_within u x y some in has_b x y (omega (arith, ints, w.0.0, stands.left)) (omega (arith, ints, w.0.1, stands.right)) (omega (arith, ints, w.1.0, bottom, top, d.tall)) w.1.1

    lower_part : (e : Rect) → Contains lower e → StandsOn u e → (x y : ℤ) → squares e x y ≡ true → squares b x y ≡ true
    lower_part e among on x y some =
        let w = square_within e x y some in
        let same = lower_row p at lower upper m e d among in_lower (on.left ∙ sym stands.left) in
        let low : e.y1 ≡ d.y1 = ap (λ s. s.bottom) same in
        let high : e.y2 ≡ at = All-contains (λ r. r.y2 ≡ at) lower e m.end among in
        has_b x y (omega (arith, ints, w.0.0, on.left, stands.left)) (omega (arith, ints, w.0.1, on.right, stands.right)) (omega (arith, ints, w.1.0, low)) (omega (arith, ints, w.1.1, high, bottom, u.tall))

-- one that stands on none
pub one_begins_there : (p : ℤ → ℤ → Bool) (at : ℤ) (lower upper runs : List Rect) (k : ℕ) (u : Rect) → MeetAt p at lower upper → k < length upper → u ≡ get_or upper k u
    → ((r : Rect) → Contains lower r → StandsOn u r → ⊥) → AreLengthened p lower (take k upper) runs → AreLengthened p lower (take (k + 1) upper) (runs ++ u ∷ [])
one_begins_there p at lower upper runs k u m lt is none l = record {
  are_runs = All-push (λ r. IsRun p (sides_of r)) runs u l.are_runs run;
  passed_in = λ x y some. covered_push runs u x y ∙ ⊎_elim
      (λ there. or_left (covered runs x y) (squares u x y) (l.passed_in x y there))
      (λ here. or_right (covered runs x y) (squares u x y) here)
      (either (covered (take k upper) x y) (squares u x y) (sym (covered_more upper k u x y lt is) ∙ some));
  lower_in = λ x y g. covered_push runs u x y ∙ ⊎_elim
      (λ there. or_left (covered runs x y) (squares u x y) (l.lower_in x y (record { below = g.below; above = g.above; in_lower = g.in_lower; in_upper = there; stands = g.stands; holds_it = g.holds_it })))
      (λ same. absurd (none g.below g.in_lower (subst (λ a. StandsOn a g.below) (sym same) g.stands)))
      (among_more upper k u g.above lt is g.in_upper);
}
  where
    in_upper : Contains upper u
    in_upper = (k, lt, sym is)

    bottom : u.y1 ≡ at
    bottom = All-contains (λ r. r.y1 ≡ at) upper u m.begin in_upper

    run : IsRun p (sides_of u)
    run = upper_run p at (sides_of u) (All-contains (λ r. IsRun (behind (Level at) p) (sides_of r)) upper u m.upper_runs in_upper)
        (λ begins i. let h = m.lower_all u.x1 u.x2 u.wide i in
        let top : h.rect.y2 ≡ at = All-contains (λ r. r.y2 ≡ at) lower h.rect m.end h.among in
        none h.rect h.among (record { line = top ∙ sym bottom; left = h.left_is; right = h.right_is }))

-- both together
pub ended_and_lengthened : (p : ℤ → ℤ → Bool) (lower upper before_ended runs ended : List Rect) → AreEnded p lower upper lower before_ended ended → AreLengthened p lower upper runs → AreStacked p lower upper before_ended runs ended
ended_and_lengthened p lower upper before_ended runs ended e l = record {
  are_runs = l.are_runs;
  ended_runs = e.ended_runs;
  all_in = λ x y some. ⊎_elim
      (λ parts. ⊎_elim
      (λ a. ⊎_elim (λ there. or_right (covered runs x y) (covered ended x y) there) (λ g. or_left (covered runs x y) (covered ended x y) (l.lower_in x y g)) (e.passed_in x y a))
      (λ b. or_left (covered runs x y) (covered ended x y) (l.passed_in x y b)) (either (covered lower x y) (covered upper x y) parts))
      (λ c. or_right (covered runs x y) (covered ended x y) (e.before_in x y c))
      (either (covered lower x y || covered upper x y) (covered before_ended x y) some);
}

-- ---- the upper runs that were passed, by their left edges too
pub record AreLonger (lower upper runs : List Rect) (k : ℕ) : Type 0 where
  pub lengthened : (p : ℤ → ℤ → Bool) (at : ℤ) → MeetAt p at lower upper → AreLengthened p lower (take k upper) runs
  pub rising : IsRisingBy (λ r. r.x1) runs
  pub left : (j : ℕ) (d : Rect) → k ≤ j → j < length upper → All (λ r. r.x1 ≤ℤ (get_or upper j d).x1) runs
  pub tops : (top : ℤ) → All (λ r. r.y2 ≡ top) upper → All (λ r. r.y2 ≡ top) runs

pub none_longer : (lower upper : List Rect) → AreLonger lower upper [] 0
none_longer lower upper = record {
  lengthened = λ p at m. none_lengthened p lower;
  rising = λ i j d le lt. absurd (omega (arith, lt));
  left = λ j d le lt. All-nil (λ r. r.x1 ≤ℤ (get_or upper j d).x1);
  tops = λ top all. All-nil (λ r. r.y2 ≡ top);
}

pub one_longer : (lower upper runs : List Rect) (k : ℕ) (u b : Rect) → IsRisingBy (λ r. r.x1) upper → k < length upper → u ≡ get_or upper k u → b.x1 ≡ u.x1 → b.y2 ≡ u.y2
    → ((p : ℤ → ℤ → Bool) (at : ℤ) → MeetAt p at lower upper → AreLengthened p lower (take k upper) runs → AreLengthened p lower (take (k + 1) upper) (runs ++ b ∷ []))
    → AreLonger lower upper runs k → AreLonger lower upper (runs ++ b ∷ []) (k + 1)
one_longer lower upper runs k u b rising lt is left top more l = record {
  lengthened = λ p at m. more p at m (l.lengthened p at m);
  rising = rising_push runs b l.rising (subst (λ a. All (λ s. s.x1 ≤ℤ a) runs) (ap (λ r. r.x1) (sym is) ∙ sym left) (l.left k u (omega arith) lt));
  left = λ j d le lt_j. All-push (λ r. r.x1 ≤ℤ (get_or upper j d).x1) runs b (l.left j d (omega (arith, le)) lt_j)
      (reach b.x1 u.x1 (get_or upper k d).x1 (get_or upper j d).x1 left (ap (λ r. r.x1) (is ∙ get_or_default upper k u d lt)) (rising k j d (omega (arith, le)) lt_j));
  tops = λ line all. All-push (λ r. r.y2 ≡ line) runs b (l.tops line all) (top ∙ All-contains (λ r. r.y2 ≡ line) upper u all (k, lt, sym is));
}
  where
    reach : (a b c d : ℤ) → a ≡ b → b ≡ c → c ≤ℤ d → a ≤ℤ d
    reach a b c d h g f = omega (arith, ints)

-- ---- all rows so far

-- the runs below a row, with the row's own
pub row_more : (p : ℤ → ℤ → Bool) (at top : ℤ) (recent ended row runs all_ended : List Rect) → AreRunsOf (before (Level at) p) (recent ++ ended) → All (λ r. r.y2 ≡ at) recent → All (λ r. r.y2 <ℤ at) ended
    → AreRunsOf (behind (Level at) p) row → IsRow at top row → (MeetAt p at recent row → AreStacked p recent row ended runs all_ended) → AreRunsOf p (runs ++ all_ended)
row_more p at top recent ended row runs all_ended low tops below high own stacked = runs_permuted p ((all_ended ++ []) ++ runs) (runs ++ all_ended) same
    (joined_runs p at (recent ++ ended) row recent ended row [] runs all_ended low high parted_low parted_high (stacked (parted_meet p at (recent ++ ended) row recent ended row [] low high parted_low parted_high)))
  where
    not_there : (a b : ℤ) → a <ℤ b → a ≡ b → ⊥
    not_there a b lt is = omega (arith, ints)

    parted_low : AreParted Top at (recent ++ ended) recent ended
    parted_low = record { same = IsPermutation-refl (recent ++ ended); are_there = tops; are_not = All-weaker (λ r. r.y2 <ℤ at) (λ r. r.y2 ≡ at → ⊥) (λ r lt is. not_there r.y2 at lt is) ended below }

    parted_high : AreParted Bottom at row row []
    parted_high = record { same = subst (IsPermutation row) (sym (append-nil row)) (IsPermutation-refl row); are_there = own.bottoms; are_not = All-nil (λ r. r.y1 ≡ at → ⊥) }

    same : IsPermutation ((all_ended ++ []) ++ runs) (runs ++ all_ended)
    same = subst (λ e. IsPermutation (e ++ runs) (runs ++ all_ended)) (sym (append-nil all_ended)) (IsPermutation-append_comm all_ended runs)
