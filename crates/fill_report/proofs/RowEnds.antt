-- The lines of some windows from one on, and where the windows of some rows end.
use Rattle.std.proofs.Common.{◌≡◌, ap, ◌∙◌, ℕ, ◌+◌, ◌*◌, ◌-◌, ◌/◌, ◌%◌, ◌≤◌, List, [], ◌++◌, Some, arith}
use Rattle.std.proofs.Math.Nat.{mul-le-mul, mul_comm}
use Rattle.fill_area.specs.Grid.{Grid}
use Rattle.fill_text.specs.declared.limits.Limits.{Limits}
use Rattle.fill_report.specs.Report.{lines_above, told_line}
use Rattle.fill_report.specs.Writing.{Lines, written}
use Rattle.fill_report.specs.declared.line.Measures.{Measures}
use Rattle.fill_report.proofs.Lines.{next_line, text_is}

module _ (rows : ℕ) (g : Grid) (limits : Limits) (measures : ℕ → ℕ → Measures) (from : ℕ) where
  -- none yet
  pub none_yet : (w : Lines) → written w ≡ Some [] → written w ≡ Some (lines_above rows g limits measures from (from - from))
  none_yet w empty =
      let zero : 0 ≡ from - from = omega arith in
      empty ∙ ap (λ n. Some (lines_above rows g limits measures from n)) zero

  -- the lines so far, and behind them the next one
  pub one_follows : (m : Measures) (k : ℕ) (w new : Lines) → from ≤ k → m ≡ measures (k % g.across.count) (k / g.across.count) → written w ≡ Some (lines_above rows g limits measures from (k - from))
      → ((front : List ℕ) → written w ≡ Some front → written new ≡ Some (front ++ told_line g limits m (k % g.across.count) (k / g.across.count) (rows + k / g.across.count)))
      → written new ≡ Some (lines_above rows g limits measures from ((k + 1) - from))
  one_follows m k w new le is so_far put =
      let place : k ≡ from + (k - from) = omega (arith, le) in
      let more : (k - from) + 1 ≡ (k + 1) - from = omega (arith, le) in
      next_line rows g limits measures m from (k - from) k w new place is so_far put ∙ ap (λ n. Some (lines_above rows g limits measures from n)) more

  -- all of them
  pub all_follow : (k count end : ℕ) (text so_far : List ℕ) → end ≡ from + count → end ≤ k → k ≤ end → text ≡ so_far → Some so_far ≡ Some (lines_above rows g limits measures from (k - from))
      → text ≡ lines_above rows g limits measures from count
  all_follow k count end text so_far ends above below is lines =
      let low : count ≤ k - from = omega (arith, ends, above, below) in
      let high : k - from ≤ count = omega (arith, ends, above, below) in
      text_is (lines_above rows g limits measures from) text so_far (k - from) count low high is lines

-- rows from `low` on and below `high` end within the rows that there are
pub rows_end : (low high columns up : ℕ) → low ≤ high → high ≤ up → low * columns + (high - low) * columns ≤ columns * up
rows_end low high columns up order within =
    all (low * columns + (high - low) * columns) (high * columns) (up * columns) (columns * up) (whole low high columns order) (mul-le-mul within (same columns)) (mul_comm up columns)
  where
    same : (n : ℕ) → n ≤ n
    same n = omega arith

    spread : (m n c : ℕ) → m * c + n * c ≡ (m + n) * c
    spread m n c = grind arith

    whole : (a b c : ℕ) → a ≤ b → a * c + (b - a) * c ≡ b * c
    whole a b c le = let e : a + (b - a) ≡ b = omega (arith, le) in spread a (b - a) c ∙ ap (λ n. n * c) e

    all : (a b c d : ℕ) → a ≡ b → b ≤ c → c ≡ d → a ≤ d
    all a b c d e h f = omega (arith, e, h, f)
