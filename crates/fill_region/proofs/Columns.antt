-- A set cut along an upright line: which runs of its parts, and of what touches the line, are runs of the whole.
use Rattle.std.proofs.Common.{◌≡◌, ℤ, pos, ◌-ℤ◌, ◌≤ℤ◌, ◌<ℤ◌, Bool, true, false, List, ◌++◌, refl, arith, ◌∙◌, sym, ⊎_elim}
use Rattle.std.specs.List.{All, Contains}
use Rattle.std.proofs.lemmas.Bool.{false_from_ne_true}
use Rattle.std.proofs.lemmas.Int.{ints, by_lt_z}
use Rattle.std.proofs.lemmas.List.Elements.{All-append, All-contains, Contains-append_cases, Contains-append_left, Contains-append_right}
use Rattle.fill_base.specs.declared.rect.Rect.{Rect}
use Rattle.fill_base.specs.Sides.{sides_of}
use Rattle.fill_base.specs.Squares.{squares}
use Rattle.fill_base.proofs.Between.{is_between_true}
use Rattle.fill_bands.specs.Squares.{covered}
use Rattle.fill_region.specs.Runs.{Sides, IsInterval, IsRun}
use Rattle.fill_region.specs.Steps.{AreRunsOf, before, behind, AreParted}
use Rattle.fill_region.specs.declared.lines.Line.TheVariants.{Upright}
use Rattle.fill_region.specs.declared.edges.Edge.TheVariants.{Left, Right}
use Rattle.fill_region.proofs.Intervals.{true_false, and_first, interval_alike, run_of}
use Rattle.fill_region.proofs.Members.{either, or_left, or_right, square_within, holder, held, covered_either, covered_same, last_part, runs_permuted}
use Rattle.fill_region.proofs.Levels.{lt_true, lt_false, and_true, and_false, le_self}
use Rattle.fill_region.proofs.Joining.{both_all}

left_same : (p : ℤ → ℤ → Bool) (at x y : ℤ) → x <ℤ at → before (Upright at) p x y ≡ p x y
left_same p at x y lt = rw (lt_true x at lt) (and_true (p x y))

left_none : (p : ℤ → ℤ → Bool) (at x y : ℤ) → at ≤ℤ x → before (Upright at) p x y ≡ false
left_none p at x y le = rw (lt_false x at le) (and_false (p x y))

right_same : (p : ℤ → ℤ → Bool) (at x y : ℤ) → at ≤ℤ x → behind (Upright at) p x y ≡ p x y
right_same p at x y le = rw (lt_false x at le) (and_true (p x y))

right_none : (p : ℤ → ℤ → Bool) (at x y : ℤ) → x <ℤ at → behind (Upright at) p x y ≡ false
right_none p at x y lt = rw (lt_true x at lt) (and_false (p x y))

less : (a : ℤ) → (a -ℤ pos 1) <ℤ a
less a = omega (arith, ints)

le_less : (a b : ℤ) → a <ℤ b → a ≤ℤ (b -ℤ pos 1)
le_less a b h = omega (arith, ints)

-- no run of the left part ends right of the line, and none of the right part begins left of it
left_end : (p : ℤ → ℤ → Bool) (at : ℤ) (s : Sides) → IsRun (before (Upright at) p) s → s.right ≤ℤ at
left_end p at s run = by_lt_z at s.right
    (λ lt. absurd (true_false (before (Upright at) p (s.right -ℤ pos 1) s.bottom) ((run.rows s.bottom (le_self s.bottom) run.tall).filled (s.right -ℤ pos 1) (le_less s.left s.right run.wide) (less s.right))
    (left_none p at (s.right -ℤ pos 1) s.bottom (le_less at s.right lt))))
    (λ le. le)

right_begin : (p : ℤ → ℤ → Bool) (at : ℤ) (s : Sides) → IsRun (behind (Upright at) p) s → at ≤ℤ s.left
right_begin p at s run = by_lt_z s.left at
    (λ lt. absurd (true_false (behind (Upright at) p s.left s.bottom) ((run.rows s.bottom (le_self s.bottom) run.tall).filled s.left (le_self s.left) run.wide) (right_none p at s.left s.bottom lt)))
    (λ le. le)

-- a run that doesn't touch the line is one of the whole
left_run : (p : ℤ → ℤ → Bool) (at : ℤ) (s : Sides) → IsRun (before (Upright at) p) s → (s.right ≡ at → ⊥) → IsRun p s
left_run p at s run not = run_of p (before (Upright at) p) s run
    (λ y low high i. interval_alike p (before (Upright at) p) s.left s.right y run.wide (λ x a b. sym (left_same p at x y (le_lt x s.right at b lt))) i)
    (λ i. run.begins (interval_alike (before (Upright at) p) p s.left s.right (s.bottom -ℤ pos 1) run.wide (λ x a b. left_same p at x (s.bottom -ℤ pos 1) (le_lt x s.right at b lt)) i))
    (λ i. run.ends (interval_alike (before (Upright at) p) p s.left s.right s.top run.wide (λ x a b. left_same p at x s.top (le_lt x s.right at b lt)) i))
  where
    lt : s.right <ℤ at
    lt = by_lt_z s.right at (λ h. h) (λ ge. absurd (not (both s.right at (left_end p at s run) ge)))
      where
        both : (a b : ℤ) → a ≤ℤ b → b ≤ℤ a → a ≡ b
        both a b h k = omega (arith, ints)

    le_lt : (a b c : ℤ) → a ≤ℤ b → b <ℤ c → a <ℤ c
    le_lt a b c h k = omega (arith, ints)

right_run : (p : ℤ → ℤ → Bool) (at : ℤ) (s : Sides) → IsRun (behind (Upright at) p) s → (s.left ≡ at → ⊥) → IsRun p s
right_run p at s run not = run_of p (behind (Upright at) p) s run
    (λ y low high i. interval_alike p (behind (Upright at) p) s.left s.right y run.wide (λ x a b. sym (right_same p at x y (from x a))) i)
    (λ i. run.begins (interval_alike (behind (Upright at) p) p s.left s.right (s.bottom -ℤ pos 1) run.wide (λ x a b. right_same p at x (s.bottom -ℤ pos 1) (from x a)) i))
    (λ i. run.ends (interval_alike (behind (Upright at) p) p s.left s.right s.top run.wide (λ x a b. right_same p at x s.top (from x a)) i))
  where
    lt : at <ℤ s.left
    lt = by_lt_z at s.left (λ h. h) (λ ge. absurd (not (both s.left at ge (right_begin p at s run))))
      where
        both : (a b : ℤ) → a ≤ℤ b → b ≤ℤ a → a ≡ b
        both a b h k = omega (arith, ints)

    from : (x : ℤ) → (s.left -ℤ pos 1) ≤ℤ x → at ≤ℤ x
    from x a = step at s.left x lt a
      where
        step : (a b c : ℤ) → a <ℤ b → (b -ℤ pos 1) ≤ℤ c → a ≤ℤ c
        step a b c h k = omega (arith, ints)

-- ---- what touches the line

-- `q` has the squares of `p` from which the row goes on to the line
record Reach (p q : ℤ → ℤ → Bool) (at : ℤ) : Type 0 where
  within : (x y : ℤ) → q x y ≡ true → p x y ≡ true
  to_left : (x z y : ℤ) → q x y ≡ true → x ≤ℤ z → z <ℤ at → q z y ≡ true
  to_right : (x z y : ℤ) → q x y ≡ true → at ≤ℤ z → z ≤ℤ x → q z y ≡ true
  from_left : (x y : ℤ) → x <ℤ at → ((z : ℤ) → x ≤ℤ z → z <ℤ at → p z y ≡ true) → q x y ≡ true
  from_right : (x y : ℤ) → at ≤ℤ x → ((z : ℤ) → at ≤ℤ z → z ≤ℤ x → p z y ≡ true) → q x y ≡ true

-- an interval of what touches the line reaches it
reaches : (p q : ℤ → ℤ → Bool) (at l r y : ℤ) → Reach p q at → l <ℤ r → IsInterval q l r y → (l ≤ℤ at) × (at ≤ℤ r)
reaches p q at l r y reach wide i = (
  by_lt_z at l (λ lt. absurd (true_false (q (l -ℤ pos 1) y) (reach.to_right l (l -ℤ pos 1) y (i.filled l (le_self l) wide) (le_less at l lt) (le_of_less l)) i.before)) (λ le. le),
  by_lt_z r at (λ lt. absurd (true_false (q r y) (reach.to_left (r -ℤ pos 1) r y (i.filled (r -ℤ pos 1) (le_less l r wide) (less r)) (le_of_less r) lt) i.after)) (λ le. le),
)
  where
    le_of_less : (a : ℤ) → (a -ℤ pos 1) ≤ℤ a
    le_of_less a = omega (arith, ints)

-- such an interval is one of the whole
out_interval : (p q : ℤ → ℤ → Bool) (at l r y : ℤ) → Reach p q at → l <ℤ r → IsInterval q l r y → IsInterval p l r y
out_interval p q at l r y reach wide i = record {
  filled = λ x a b. reach.within x y (i.filled x a b);
  before = false_from_ne_true (p (l -ℤ pos 1) y) (λ is. before_absurd is);
  after = false_from_ne_true (p r y) (λ is. after_absurd is);
}
  where
    ends : (l ≤ℤ at) × (at ≤ℤ r)
    ends = reaches p q at l r y reach wide i

    -- squares of the row from the one before to the line
    before_absurd : p (l -ℤ pos 1) y ≡ true → ⊥
    before_absurd is = true_false (q (l -ℤ pos 1) y) (reach.from_left (l -ℤ pos 1) y (to l at ends.0) (λ z a b. by_lt_z z l (λ lt. one z lt a is) (λ le. reach.within z y (i.filled z le (lt_le z at r b ends.1))))) i.before
      where
        to : (a b : ℤ) → a ≤ℤ b → (a -ℤ pos 1) <ℤ b
        to a b h = omega (arith, ints)

        lt_le : (a b c : ℤ) → a <ℤ b → b ≤ℤ c → a <ℤ c
        lt_le a b c h k = omega (arith, ints)

        same : (z : ℤ) → z <ℤ l → (l -ℤ pos 1) ≤ℤ z → z ≡ l -ℤ pos 1
        same z h k = omega (arith, ints)

        one : (z : ℤ) → z <ℤ l → (l -ℤ pos 1) ≤ℤ z → p (l -ℤ pos 1) y ≡ true → p z y ≡ true
        one z h k is = rw (same z h k) is

    after_absurd : p r y ≡ true → ⊥
    after_absurd is = true_false (q r y) (reach.from_right r y ends.1 (λ z a b. by_lt_z z r (λ lt. reach.within z y (i.filled z (le_le l at z ends.0 a) lt)) (λ ge. one z ge b))) i.after
      where
        le_le : (a b c : ℤ) → a ≤ℤ b → b ≤ℤ c → a ≤ℤ c
        le_le a b c h k = omega (arith, ints)

        same : (z : ℤ) → r ≤ℤ z → z ≤ℤ r → z ≡ r
        same z h k = omega (arith, ints)

        one : (z : ℤ) → r ≤ℤ z → z ≤ℤ r → p z y ≡ true
        one z h k = rw (same z h k) is

-- and one of the whole that reaches the line is one of what touches it
in_interval : (p q : ℤ → ℤ → Bool) (at l r y : ℤ) → Reach p q at → l ≤ℤ at → at ≤ℤ r → IsInterval p l r y → IsInterval q l r y
in_interval p q at l r y reach low high i = record {
  filled = λ x a b. by_lt_z x at
      (λ lt. reach.from_left x y lt (λ z c d. i.filled z (le_le l x z a c) (lt_le z at r d high)))
      (λ ge. reach.from_right x y ge (λ z c d. i.filled z (le_le l at z low c) (le_lt z x r d b)));
  before = false_from_ne_true (q (l -ℤ pos 1) y) (λ is. true_false (p (l -ℤ pos 1) y) (reach.within (l -ℤ pos 1) y is) i.before);
  after = false_from_ne_true (q r y) (λ is. true_false (p r y) (reach.within r y is) i.after);
}
  where
    le_le : (a b c : ℤ) → a ≤ℤ b → b ≤ℤ c → a ≤ℤ c
    le_le a b c h k = omega (arith, ints)

    lt_le : (a b c : ℤ) → a <ℤ b → b ≤ℤ c → a <ℤ c
    lt_le a b c h k = omega (arith, ints)

    le_lt : (a b c : ℤ) → a ≤ℤ b → b <ℤ c → a <ℤ c
    le_lt a b c h k = omega (arith, ints)

reach_run : (p q : ℤ → ℤ → Bool) (at : ℤ) (s : Sides) → Reach p q at → IsRun q s → IsRun p s
reach_run p q at s reach run =
    let ends = reaches p q at s.left s.right s.bottom reach run.wide (run.rows s.bottom (le_self s.bottom) run.tall) in
    run_of p q s run (λ y low high i. out_interval p q at s.left s.right y reach run.wide i)
    (λ i. run.begins (in_interval p q at s.left s.right (s.bottom -ℤ pos 1) reach ends.0 ends.1 i))
    (λ i. run.ends (in_interval p q at s.left s.right s.top reach ends.0 ends.1 i))

-- the runs of both parts that touch the line have just those squares
touching : (p : ℤ → ℤ → Bool) (at : ℤ) (left left_others right right_others : List Rect) → AreRunsOf (before (Upright at) p) (left ++ left_others) → All (λ r. r.x2 ≡ at) left → All (λ r. r.x2 ≡ at → ⊥) left_others
    → AreRunsOf (behind (Upright at) p) (right ++ right_others) → All (λ r. r.x1 ≡ at) right → All (λ r. r.x1 ≡ at → ⊥) right_others → Reach p (covered (left ++ right)) at
touching p at left left_others right right_others low end not_end high begin not_begin = record {
  within = λ x y is. let h = holder (left ++ right) x y is in ⊎_elim
      (λ there. and_first (p x y) _ (left_square h.rect there x y h.holds_it))
      (λ there. and_first (p x y) _ (right_square h.rect there x y h.holds_it))
      (Contains-append_cases left right h.rect h.among);
  to_left = λ x z y is a b. let h = holder (left ++ right) x y is in let w = square_within h.rect x y h.holds_it in ⊎_elim
      (λ there. held (left ++ right) h.rect z y h.among (has h.rect z y (le_le h.rect.x1 x z w.0.0 a) (lt_is z at h.rect.x2 b (All-contains (λ r. r.x2 ≡ at) left h.rect end there)) w.1.0 w.1.1))
      (λ there. absurd (not_left h.rect.x1 x z at w.0.0 a b (All-contains (λ r. r.x1 ≡ at) right h.rect begin there)))
      (Contains-append_cases left right h.rect h.among);
  to_right = λ x z y is a b. let h = holder (left ++ right) x y is in let w = square_within h.rect x y h.holds_it in ⊎_elim
      (λ there. absurd (not_right h.rect.x2 x z at w.0.1 a b (All-contains (λ r. r.x2 ≡ at) left h.rect end there)))
      (λ there. held (left ++ right) h.rect z y h.among (has h.rect z y (is_le h.rect.x1 at z (All-contains (λ r. r.x1 ≡ at) right h.rect begin there) a) (le_lt z x h.rect.x2 b w.0.1) w.1.0 w.1.1))
      (Contains-append_cases left right h.rect h.among);
  from_left = λ x y lt row. let h = holder (left ++ left_others) x y (low.all x y (left_same p at x y lt ∙ row x (le_self x) lt)) in let w = square_within h.rect x y h.holds_it in
      let run = All-contains (λ r. IsRun (before (Upright at) p) (sides_of r)) (left ++ left_others) h.rect low.each h.among in ⊎_elim
      (λ there. held (left ++ right) h.rect x y (Contains-append_left left right h.rect there) h.holds_it)
      (λ there. by_lt_z h.rect.x2 at
      (λ short. absurd (true_false (before (Upright at) p h.rect.x2 y) (left_same p at h.rect.x2 y short ∙ row h.rect.x2 (lt_le x h.rect.x2 w.0.1) short) (run.rows y w.1.0 w.1.1).after))
      (λ long. absurd (All-contains (λ r. r.x2 ≡ at → ⊥) left_others h.rect not_end there (both h.rect.x2 at (left_end p at (sides_of h.rect) run) long))))
      (Contains-append_cases left left_others h.rect h.among);
  from_right = λ x y le row. let h = holder (right ++ right_others) x y (high.all x y (right_same p at x y le ∙ row x le (le_self x))) in let w = square_within h.rect x y h.holds_it in
      let run = All-contains (λ r. IsRun (behind (Upright at) p) (sides_of r)) (right ++ right_others) h.rect high.each h.among in ⊎_elim
      (λ there. held (left ++ right) h.rect x y (Contains-append_right left right h.rect there) h.holds_it)
      (λ there. by_lt_z at h.rect.x1
      (λ short. absurd (true_false (behind (Upright at) p (h.rect.x1 -ℤ pos 1) y) (right_same p at (h.rect.x1 -ℤ pos 1) y (le_less at h.rect.x1 short) ∙ row (h.rect.x1 -ℤ pos 1) (le_less at h.rect.x1 short) (less_le h.rect.x1 x w.0.0)) (run.rows y w.1.0 w.1.1).before))
      (λ long. absurd (All-contains (λ r. r.x1 ≡ at → ⊥) right_others h.rect not_begin there (both h.rect.x1 at long (right_begin p at (sides_of h.rect) run)))))
      (Contains-append_cases right right_others h.rect h.among);
}
  where
    interval_square : (q : ℤ → ℤ → Bool) (r : Rect) (x y : ℤ) → IsRun q (sides_of r) → squares r x y ≡ true → q x y ≡ true
    interval_square q r x y run is = let w = square_within r x y is in (run.rows y w.1.0 w.1.1).filled x w.0.0 w.0.1

    left_square : (r : Rect) → Contains left r → (x y : ℤ) → squares r x y ≡ true → before (Upright at) p x y ≡ true
    left_square r there x y is = interval_square (before (Upright at) p) r x y (All-contains (λ s. IsRun (before (Upright at) p) (sides_of s)) (left ++ left_others) r low.each (Contains-append_left left left_others r there)) is

    right_square : (r : Rect) → Contains right r → (x y : ℤ) → squares r x y ≡ true → behind (Upright at) p x y ≡ true
    right_square r there x y is = interval_square (behind (Upright at) p) r x y (All-contains (λ s. IsRun (behind (Upright at) p) (sides_of s)) (right ++ right_others) r high.each (Contains-append_left right right_others r there)) is

    has : (r : Rect) (x y : ℤ) → r.x1 ≤ℤ x → x <ℤ r.x2 → r.y1 ≤ℤ y → y <ℤ r.y2 → squares r x y ≡ true
    has r x y a b c d = rw (is_between_true r.x1 r.x2 x a b, is_between_true r.y1 r.y2 y c d) refl

    le_le : (a b c : ℤ) → a ≤ℤ b → b ≤ℤ c → a ≤ℤ c
    le_le a b c h k = omega (arith, ints)

    le_lt : (a b c : ℤ) → a ≤ℤ b → b <ℤ c → a <ℤ c
    le_lt a b c h k = omega (arith, ints)

    lt_le : (a b : ℤ) → a <ℤ b → a ≤ℤ b
    lt_le a b h = omega (arith, ints)

    less_le : (a b : ℤ) → a ≤ℤ b → (a -ℤ pos 1) ≤ℤ b
    less_le a b h = omega (arith, ints)

    lt_is : (a b c : ℤ) → a <ℤ b → c ≡ b → a <ℤ c
    lt_is a b c h is = omega (arith, ints)

    is_le : (a b c : ℤ) → a ≡ b → b ≤ℤ c → a ≤ℤ c
    is_le a b c is h = omega (arith, ints)

    both : (a b : ℤ) → a ≤ℤ b → b ≤ℤ a → a ≡ b
    both a b h k = omega (arith, ints)

    not_left : (a x z b : ℤ) → a ≤ℤ x → x ≤ℤ z → z <ℤ b → a ≡ b → ⊥
    not_left a x z b h k l is = omega (arith, ints)

    not_right : (a x z b : ℤ) → x <ℤ a → b ≤ℤ z → z ≤ℤ x → a ≡ b → ⊥
    not_right a x z b h k l is = omega (arith, ints)

-- all runs, once those that touch the line are made of what they hold together
pub across_runs : (p : ℤ → ℤ → Bool) (at : ℤ) (left right touch_left left_others touch_right right_others across : List Rect) → AreRunsOf (before (Upright at) p) left → AreRunsOf (behind (Upright at) p) right
    → AreParted Right at left touch_left left_others → AreParted Left at right touch_right right_others → AreRunsOf (covered (touch_left ++ touch_right)) across → AreRunsOf p ((left_others ++ right_others) ++ across)
across_runs p at left right touch_left left_others touch_right right_others across low high parted_left parted_right touch = record {
  each = All-append is_run (left_others ++ right_others) across (All-append is_run left_others right_others left_runs right_runs)
      (both_all (λ r. IsRun (covered (touch_left ++ touch_right)) (sides_of r)) (λ r. IsRun (covered (touch_left ++ touch_right)) (sides_of r)) is_run across touch.each touch.each (λ r run again. reach_run p (covered (touch_left ++ touch_right)) at (sides_of r) reach run));
  all = λ x y is. by_lt_z x at (λ lt. on_left x y (low.all x y (left_same p at x y lt ∙ is))) (λ le. on_right x y (high.all x y (right_same p at x y le ∙ is)));
}
  where
    is_run : Rect → Type 0
    is_run r = IsRun p (sides_of r)

    low_parts : AreRunsOf (before (Upright at) p) (touch_left ++ left_others)
    low_parts = runs_permuted (before (Upright at) p) left (touch_left ++ left_others) parted_left.same low

    high_parts : AreRunsOf (behind (Upright at) p) (touch_right ++ right_others)
    high_parts = runs_permuted (behind (Upright at) p) right (touch_right ++ right_others) parted_right.same high

    reach : Reach p (covered (touch_left ++ touch_right)) at
    reach = touching p at touch_left left_others touch_right right_others low_parts parted_left.are_there parted_left.are_not high_parts parted_right.are_there parted_right.are_not

    left_runs : All (λ r. IsRun p (sides_of r)) left_others
    left_runs = both_all (λ r. IsRun (before (Upright at) p) (sides_of r)) (λ r. r.x2 ≡ at → ⊥) (λ r. IsRun p (sides_of r)) left_others
        (last_part (λ r. IsRun (before (Upright at) p) (sides_of r)) touch_left left_others low_parts.each) parted_left.are_not (λ r run not. left_run p at (sides_of r) run not)

    right_runs : All (λ r. IsRun p (sides_of r)) right_others
    right_runs = both_all (λ r. IsRun (behind (Upright at) p) (sides_of r)) (λ r. r.x1 ≡ at → ⊥) (λ r. IsRun p (sides_of r)) right_others
        (last_part (λ r. IsRun (behind (Upright at) p) (sides_of r)) touch_right right_others high_parts.each) parted_right.are_not (λ r run not. right_run p at (sides_of r) run not)

    touched : (x y : ℤ) → covered (touch_left ++ touch_right) x y ≡ true → covered ((left_others ++ right_others) ++ across) x y ≡ true
    touched x y is = covered_either (left_others ++ right_others) across x y ∙ or_right (covered (left_others ++ right_others) x y) (covered across x y) (touch.all x y is)

    other : (x y : ℤ) → covered (left_others ++ right_others) x y ≡ true → covered ((left_others ++ right_others) ++ across) x y ≡ true
    other x y is = covered_either (left_others ++ right_others) across x y ∙ or_left (covered (left_others ++ right_others) x y) (covered across x y) is

    on_left : (x y : ℤ) → covered left x y ≡ true → covered ((left_others ++ right_others) ++ across) x y ≡ true
    on_left x y is = ⊎_elim
        (λ a. touched x y (covered_either touch_left touch_right x y ∙ or_left (covered touch_left x y) (covered touch_right x y) a))
        (λ a. other x y (covered_either left_others right_others x y ∙ or_left (covered left_others x y) (covered right_others x y) a))
        (either (covered touch_left x y) (covered left_others x y) (sym (covered_either touch_left left_others x y) ∙ (sym (covered_same left (touch_left ++ left_others) x y parted_left.same) ∙ is)))

    on_right : (x y : ℤ) → covered right x y ≡ true → covered ((left_others ++ right_others) ++ across) x y ≡ true
    on_right x y is = ⊎_elim
        (λ a. touched x y (covered_either touch_left touch_right x y ∙ or_right (covered touch_left x y) (covered touch_right x y) a))
        (λ a. other x y (covered_either left_others right_others x y ∙ or_right (covered left_others x y) (covered right_others x y) a))
        (either (covered touch_right x y) (covered right_others x y) (sym (covered_either touch_right right_others x y) ∙ (sym (covered_same right (touch_right ++ right_others) x y parted_right.same) ∙ is)))
