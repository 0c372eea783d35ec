use Rattle.std.proofs.Common.{ℕ, ◌+◌, ◌≤◌, ◌<◌, ◌&&◌, ◌==◌, arith}
use Rattle.fill_sums.specs.Numbers.{in_range}
use Rattle.fill_sums.proofs.Windowed.{moved_none, moved_same, moved_then, none_first_row, row_is_next, range_ends_row, range_in, range_is, rows_more, rows_out, still_moves}
use Rattle.fill_sums.proofs.moving.move_rows.Goals as goal

pub loop-b-init : goal.loop-b-init
loop-b-init c = (le_same c.args.bottom, c.requires.upwards, moved_none (λ d e. in_range c.args.left c.args.right d && in_range c.args.bottom c.args.bottom e) _ _ _ _ (λ d e. none_first_row c.args.bottom e (in_range c.args.left c.args.right d)))
  where
    le_same : (n : ℕ) → n ≤ n
    le_same n = omega arith

pub move_row-requires-clause-moves : goal.move_row-requires-clause-moves
move_row-requires-clause-moves c = λ a h.
    let inv = c.loop-b.invariant in
    still_moves _ _ _ _ _ _ _ _ (below a c.args.right c.args.windows.now.across.count (range_in c.args.left c.args.right a h).1 c.requires.columns, below c.loop-b.b c.args.top c.args.windows.now.up.count c.loop-b-test.true c.requires.rows) inv.2
    (rows_out c.args.bottom c.loop-b.b (in_range c.args.left c.args.right a))
    (c.requires.moves a c.loop-b.b h (range_is c.args.bottom c.args.top c.loop-b.b inv.0 c.loop-b-test.true))
  where
    below : (a r n : ℕ) → a < r → r ≤ n → a < n
    below a r n h k = omega arith

pub loop-b-preserved : goal.loop-b-preserved
loop-b-preserved c =
    let inv = c.loop-b.invariant in
    let b = c.loop-b.b in let left = c.args.left in let right = c.args.right in let bottom = c.args.bottom in (
      up bottom b inv.0,
      next b c.args.top c.loop-b-test.true,
      moved_then (λ d e. in_range left right d && in_range bottom b e) (λ d e. in_range left right d && (e == b)) (λ d e. in_range left right d && in_range bottom (b + 1) e) _ _ _ _ _ _ inv.2 c.move_row.ensures
          (λ d e. rows_more left right bottom b d e inv.0) (λ d e h. row_is_next left right bottom b d e h),
    )
  where
    next : (a r : ℕ) → a < r → a + 1 ≤ r
    next a r h = omega arith

    up : (l a : ℕ) → l ≤ a → l ≤ a + 1
    up l a h = omega arith

pub returns : goal.returns
returns c =
    let inv = c.loop-b.invariant in
    moved_same (λ d e. in_range c.args.left c.args.right d && in_range c.args.bottom c.loop-b.b e) (λ d e. in_range c.args.left c.args.right d && in_range c.args.bottom c.args.top e) _ _ _ _ _
    (λ d e. range_ends_row c.args.bottom c.loop-b.b c.args.top e (in_range c.args.left c.args.right d) inv.1 c.loop-b-test.false) inv.2
