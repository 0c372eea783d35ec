-- Two walks along the edges, one at the left ends of columns and one at the right ends.
use Rattle.std.proofs.Common.{◌≡◌, ℕ, ◌+◌, ◌^◌, ◌≤◌, ℤ, pos, ◌-ℤ◌, ◌≤ℤ◌, List, refl, arith, ap, ◌∙◌, cond, w64, FitsSigned}
use Rattle.std.proofs.lemmas.Int.{ints, clamps}
use Rattle.fill_base.specs.Counts.{count_between}
use Rattle.fill_base.proofs.Signed.{read, pos_fits, le_trans}
use Rattle.fill_base.proofs.Counting.{sum_between_split}
use Rattle.fill_spans.specs.declared.walk.Walk.{Walk}
use Rattle.fill_spans.specs.Spans.{inside}
use Rattle.fill_spans.specs.CountingWalk.{length_at, IsWalk, IsNotBeyond, HasReached}
use Rattle.fill_spans.specs.EvenColumns.{column_left, column_right}
use Rattle.fill_spans.proofs.Searching.{count_small}
use Rattle.fill_spans.proofs.Walking.{walk_counts, not_beyond_more}
use Rattle.fill_spans.proofs.ColumnEnds.{IsWithin, at_first, after_left, left_rises, right_rises}

-- the members of column `a`
abbrev pub column_count : List ℤ → ℤ → ℤ → ℤ → ℕ → ℕ
column_count es first step width a = count_between (inside es) (column_left first step a) (column_right first step width a)

-- a column's length is short
pub column_short : (es : List ℤ) (first step width : ℤ) (a : ℕ) → IsWithin first step width a → column_count es first step width a ≤ 2 ^ 31
column_short es first step width a w = count_small (inside es) (column_left first step a) (column_right first step width a) w.low w.ordered w.high

-- both walks count right, from one start
pub record BothCount (es : List ℤ) (start : ℤ) (behind ahead : Walk) : Type 0 where
  pub behind_starts : behind.start ≡ start
  pub ahead_starts : ahead.start ≡ start
  pub behind_counts : IsWalk es behind
  pub ahead_counts : IsWalk es ahead

-- the walks have not gone beyond column `a`
pub record WalksOn (es : List ℤ) (first step width : ℤ) (behind ahead : Walk) (a : ℕ) : Type 0 where
  pub both : BothCount es first behind ahead
  pub behind_left : IsNotBeyond es behind (column_left first step a)
  pub ahead_right : IsNotBeyond es ahead (column_right first step width a)

-- the walks have gone on to the ends of a column
pub record WalksTo (es : List ℤ) (first left right : ℤ) (behind ahead : Walk) : Type 0 where
  pub both : BothCount es first behind ahead
  pub behind_left : HasReached es behind left
  pub ahead_right : HasReached es ahead right

pub walks_begin : (es : List ℤ) (first step width : ℤ) (walk : Walk) → pos 0 ≤ℤ width → walk.start ≡ first → IsWalk es walk → HasReached es walk first → WalksOn es first step width walk walk 0
walks_begin es first step width walk width_low starts counts reached = record {
  both = record { behind_starts = starts; ahead_starts = starts; behind_counts = counts; ahead_counts = counts };
  behind_left = not_beyond_more es walk first _ (at_first first step) reached.not_beyond;
  ahead_right = not_beyond_more es walk first _ (le_trans first _ _ (at_first first step) (after_left first step width 0 width_low)) reached.not_beyond;
}

-- from the ends of one column the walks can go on to the next one's
pub walks_on : (es : List ℤ) (first step width : ℤ) (behind ahead : Walk) (a : ℕ) → pos 0 ≤ℤ step → WalksTo es first (column_left first step a) (column_right first step width a) behind ahead → WalksOn es first step width behind ahead (a + 1)
walks_on es first step width behind ahead a step_low w = record {
  both = w.both;
  behind_left = not_beyond_more es behind _ _ (left_rises first step a step_low) w.behind_left.not_beyond;
  ahead_right = not_beyond_more es ahead _ _ (right_rises first step width a step_low) w.ahead_right.not_beyond;
}

-- what both walks have counted, and the difference, as the code computes it
pub record Difference (es : List ℤ) (first step width : ℤ) (a : ℕ) (count_ahead count_behind : ℤ) : Type 0 where
  pub fits : FitsSigned w64 (read count_ahead -ℤ read count_behind)
  pub is : (read count_ahead -ℤ read count_behind) ≡ pos (column_count es first step width a)

pub difference : (es : List ℤ) (first step width : ℤ) (a : ℕ) (left right : ℤ) (behind ahead : Walk) (count_ahead count_behind : ℤ) → IsWithin first step width a
    → left ≡ column_left first step a → right ≡ column_right first step width a → WalksTo es first left right behind ahead
    → count_ahead ≡ length_at ahead right → count_behind ≡ length_at behind left → Difference es first step width a count_ahead count_behind
difference es first step width a left right behind ahead count_ahead count_behind within left_is right_is w ahead_is behind_is =
    let one : read count_ahead ≡ pos (count_between (inside es) first right) =
    ap read ahead_is ∙ (walk_counts es ahead first right w.both.ahead_starts within.first_low (rw right_is within.high) w.both.ahead_counts w.ahead_right).is in
    let two : read count_behind ≡ pos (count_between (inside es) first left) =
    ap read behind_is ∙ (walk_counts es behind first left w.both.behind_starts within.first_low (rw left_is within.left_high) w.both.behind_counts w.behind_left).is in
    let begun : first ≤ℤ left = rw w.both.behind_starts at w.behind_left.not_beyond.begun in
    let split : count_between (inside es) first right ≡ count_between (inside es) first left + count_between (inside es) left right =
    sum_between_split (λ x. cond (inside es x) 1 0) first left right begun (rw (left_is, right_is) within.ordered) in
    let short = column_short es first step width a within in
    let is : (read count_ahead -ℤ read count_behind) ≡ pos (column_count es first step width a) =
    rw (one, two, split) (less (count_between (inside es) first left) (count_between (inside es) left right) ∙ rw (left_is, right_is) refl) in
    record { fits = rw is (pos_fits _ (omega (arith, short))); is = is }
  where
    less : (m n : ℕ) → (pos (m + n) -ℤ pos m) ≡ pos n
    less m n = omega (arith, ints, clamps)
