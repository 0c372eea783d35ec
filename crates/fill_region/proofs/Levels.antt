-- A set cut along a level line: which runs of its parts are runs of the whole.
use Rattle.std.proofs.Common.{◌≡◌, ℤ, pos, ◌-ℤ◌, ◌≤ℤ◌, ◌<ℤ◌, Bool, true, false, ◌&&◌, refl, arith, sym}
use Rattle.std.specs.Prelude.{int_lt}
use Rattle.std.proofs.lemmas.Int.{ints, by_lt_z}
use Rattle.fill_base.specs.Sides.{sides}
use Rattle.fill_region.specs.Runs.{Sides, IsInterval, IsRun}
use Rattle.fill_region.specs.Steps.{before, behind}
use Rattle.fill_region.specs.declared.lines.Line.TheVariants.{Level}
use Rattle.fill_region.proofs.Intervals.{true_false, interval_alike, run_of}

pub lt_true : (a b : ℤ) → a <ℤ b → int_lt a b ≡ true
lt_true a b h = grind (arith, ints)

pub lt_false : (a b : ℤ) → b ≤ℤ a → int_lt a b ≡ false
lt_false a b h = grind (arith, ints)

pub and_true : (b : Bool) → (b && true) ≡ b
and_true true = refl
and_true false = refl

pub and_false : (b : Bool) → (b && false) ≡ false
and_false true = refl
and_false false = refl

pub le_self : (a : ℤ) → a ≤ℤ a
le_self a = omega (arith, ints)

pub below_same : (p : ℤ → ℤ → Bool) (at x y : ℤ) → y <ℤ at → before (Level at) p x y ≡ p x y
below_same p at x y lt = rw (lt_true y at lt) (and_true (p x y))

pub below_none : (p : ℤ → ℤ → Bool) (at x y : ℤ) → at ≤ℤ y → before (Level at) p x y ≡ false
below_none p at x y le = rw (lt_false y at le) (and_false (p x y))

pub above_same : (p : ℤ → ℤ → Bool) (at x y : ℤ) → at ≤ℤ y → behind (Level at) p x y ≡ p x y
above_same p at x y le = rw (lt_false y at le) (and_true (p x y))

pub above_none : (p : ℤ → ℤ → Bool) (at x y : ℤ) → y <ℤ at → behind (Level at) p x y ≡ false
above_none p at x y lt = rw (lt_true y at lt) (and_false (p x y))

-- no run of the lower part ends above the line, and none of the upper part begins below it
pub lower_top : (p : ℤ → ℤ → Bool) (at : ℤ) (s : Sides) → IsRun (before (Level at) p) s → s.top ≤ℤ at
lower_top p at s run = by_lt_z at s.top
    (λ lt. absurd (true_false (before (Level at) p s.left (s.top -ℤ pos 1)) ((run.rows (s.top -ℤ pos 1) (le_before s.bottom s.top run.tall) (before_self s.top)).filled s.left (le_self s.left) run.wide)
    (below_none p at s.left (s.top -ℤ pos 1) (le_before at s.top lt))))
    (λ le. le)
  where
    le_before : (a b : ℤ) → a <ℤ b → a ≤ℤ (b -ℤ pos 1)
    le_before a b h = omega (arith, ints)

    before_self : (a : ℤ) → (a -ℤ pos 1) <ℤ a
    before_self a = omega (arith, ints)

pub upper_bottom : (p : ℤ → ℤ → Bool) (at : ℤ) (s : Sides) → IsRun (behind (Level at) p) s → at ≤ℤ s.bottom
upper_bottom p at s run = by_lt_z s.bottom at
    (λ lt. absurd (true_false (behind (Level at) p s.left s.bottom) ((run.rows s.bottom (le_self s.bottom) run.tall).filled s.left (le_self s.left) run.wide) (above_none p at s.left s.bottom lt)))
    (λ le. le)

-- in rows on one side an interval of the part is one of the whole, and the other way round
pub low_interval : (p : ℤ → ℤ → Bool) (at l r y : ℤ) → l <ℤ r → y <ℤ at → IsInterval (before (Level at) p) l r y → IsInterval p l r y
low_interval p at l r y wide lt i = interval_alike p (before (Level at) p) l r y wide (λ x a b. sym (below_same p at x y lt)) i

pub to_low_interval : (p : ℤ → ℤ → Bool) (at l r y : ℤ) → l <ℤ r → y <ℤ at → IsInterval p l r y → IsInterval (before (Level at) p) l r y
to_low_interval p at l r y wide lt i = interval_alike (before (Level at) p) p l r y wide (λ x a b. below_same p at x y lt) i

pub high_interval : (p : ℤ → ℤ → Bool) (at l r y : ℤ) → l <ℤ r → at ≤ℤ y → IsInterval (behind (Level at) p) l r y → IsInterval p l r y
high_interval p at l r y wide le i = interval_alike p (behind (Level at) p) l r y wide (λ x a b. sym (above_same p at x y le)) i

pub to_high_interval : (p : ℤ → ℤ → Bool) (at l r y : ℤ) → l <ℤ r → at ≤ℤ y → IsInterval p l r y → IsInterval (behind (Level at) p) l r y
to_high_interval p at l r y wide le i = interval_alike (behind (Level at) p) p l r y wide (λ x a b. above_same p at x y le) i

before_lt : (a b c : ℤ) → a <ℤ b → b ≤ℤ c → (a -ℤ pos 1) <ℤ c
before_lt a b c h k = omega (arith, ints)

lt_le_trans : (a b c : ℤ) → a <ℤ b → b ≤ℤ c → a <ℤ c
lt_le_trans a b c h k = omega (arith, ints)

le_trans : (a b c : ℤ) → a ≤ℤ b → b ≤ℤ c → a ≤ℤ c
le_trans a b c h k = omega (arith, ints)

-- a run of the lower part that nothing goes on above is one of the whole
pub lower_run : (p : ℤ → ℤ → Bool) (at : ℤ) (s : Sides) → IsRun (before (Level at) p) s → (s.top ≡ at → IsInterval p s.left s.right at → ⊥) → IsRun p s
lower_run p at s run ends =
    let top : s.top ≤ℤ at = lower_top p at s run in
    run_of p (before (Level at) p) s run
    (λ y low high i. low_interval p at s.left s.right y run.wide (lt_le_trans y s.top at high top) i)
    (λ i. run.begins (to_low_interval p at s.left s.right (s.bottom -ℤ pos 1) run.wide (before_lt s.bottom s.top at run.tall top) i))
    (λ i. by_lt_z s.top at
    (λ lt. run.ends (to_low_interval p at s.left s.right s.top run.wide lt i))
    (λ ge. let is : s.top ≡ at = omega (arith, ints) in ends is (rw is at i)))

-- so is a run of the upper part that goes on nothing below
pub upper_run : (p : ℤ → ℤ → Bool) (at : ℤ) (s : Sides) → IsRun (behind (Level at) p) s → (s.bottom ≡ at → IsInterval p s.left s.right (at -ℤ pos 1) → ⊥) → IsRun p s
upper_run p at s run begins =
    let bottom : at ≤ℤ s.bottom = upper_bottom p at s run in
    run_of p (behind (Level at) p) s run
    (λ y low high i. high_interval p at s.left s.right y run.wide (le_trans at s.bottom y bottom low) i)
    (λ i. by_lt_z at s.bottom
    (λ lt. run.begins (to_high_interval p at s.left s.right (s.bottom -ℤ pos 1) run.wide (le_before at s.bottom lt) i))
    (λ ge. let is : s.bottom ≡ at = omega (arith, ints) in begins is (rw is at i)))
    (λ i. run.ends (to_high_interval p at s.left s.right s.top run.wide (le_lt at s.bottom s.top bottom run.tall) i))
  where
    le_before : (a b : ℤ) → a <ℤ b → a ≤ℤ (b -ℤ pos 1)
    le_before a b h = omega (arith, ints)

    le_lt : (a b c : ℤ) → a ≤ℤ b → b <ℤ c → a ≤ℤ c
    le_lt a b c h k = omega (arith, ints)

-- and two that meet at the line between the same sides are one
pub both_run : (p : ℤ → ℤ → Bool) (at : ℤ) (s t : Sides) → IsRun (before (Level at) p) s → IsRun (behind (Level at) p) t → s.top ≡ at → t.bottom ≡ at → s.left ≡ t.left → s.right ≡ t.right
    → IsRun p (sides s.left s.bottom s.right t.top)
both_run p at s t rs rt top bottom l r = record {
  wide = rs.wide;
  tall = omega (arith, ints, rs.tall, rt.tall);
  rows = λ y low high. by_lt_z y at
      (λ lt. low_interval p at s.left s.right y rs.wide lt (rs.rows y low (rw top lt)))
      (λ le. rw (l, r) (high_interval p at t.left t.right y rt.wide le (rt.rows y (rw bottom le) high)));
  begins = λ i. rs.begins (to_low_interval p at s.left s.right (s.bottom -ℤ pos 1) rs.wide (omega (arith, ints, rs.tall)) i);
  ends = λ i. rt.ends (rw (l, r) at (to_high_interval p at s.left s.right t.top rs.wide (omega (arith, ints, rt.tall)) i));
}
