use Rattle.std.proofs.Common.{ℕ, ◌≤◌, ◌<◌, ◌&&◌, ◌==◌, ◌+◌, arith}
use Rattle.fill_sums.specs.Numbers.{in_range}
use Rattle.fill_sums.proofs.Windowed.{moved_none, moved_same, moved_then, none_first, one_is_next, range_ends, range_is, row_more, row_out, still_moves}
use Rattle.fill_sums.proofs.moving.move_each.Goals as goal

pub loop-a-init : goal.loop-a-init
loop-a-init c = (le_same c.args.left, c.requires.ordered, moved_none (λ d e. in_range c.args.left c.args.left d && (e == c.args.b)) _ _ _ _ (λ d e. none_first c.args.left d (e == c.args.b)))
  where
    le_same : (n : ℕ) → n ≤ n
    le_same n = omega arith

pub move_number-requires-clause-moves : goal.move_number-requires-clause-moves
move_number-requires-clause-moves c =
    let inv = c.loop-a.invariant in
    still_moves _ _ _ _ _ _ _ _ (in_columns c.loop-a.a c.args.right c.args.windows.now.across.count c.loop-a-test.true c.requires.columns, c.requires.row) inv.2 (row_out c.args.left c.loop-a.a c.args.b c.args.b)
    (c.requires.moves c.loop-a.a (range_is c.args.left c.args.right c.loop-a.a inv.0 c.loop-a-test.true))
  where
    in_columns : (a r n : ℕ) → a < r → r ≤ n → a < n
    in_columns a r n h k = omega arith

pub loop-a-preserved : goal.loop-a-preserved
loop-a-preserved c =
    let inv = c.loop-a.invariant in
    let a = c.loop-a.a in let left = c.args.left in let b = c.args.b in (
      up left a inv.0,
      next a c.args.right c.loop-a-test.true,
      moved_then (λ d e. in_range left a d && (e == b)) (λ d e. (d == a) && (e == b)) (λ d e. in_range left (a + 1) d && (e == b)) _ _ _ _ _ _ inv.2 c.move_number.ensures
          (λ d e. row_more left 0 a d e b inv.0) (λ d e h. one_is_next left a b d e h),
    )
  where
    next : (a r : ℕ) → a < r → a + 1 ≤ r
    next a r h = omega arith

    up : (l a : ℕ) → l ≤ a → l ≤ a + 1
    up l a h = omega arith

pub returns : goal.returns
returns c =
    let inv = c.loop-a.invariant in
    moved_same (λ d e. in_range c.args.left c.loop-a.a d && (e == c.args.b)) (λ d e. in_range c.args.left c.args.right d && (e == c.args.b)) _ _ _ _ _
    (λ d e. range_ends c.args.left c.loop-a.a c.args.right d (e == c.args.b) inv.1 c.loop-a-test.false) inv.2
