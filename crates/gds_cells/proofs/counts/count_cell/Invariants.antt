use Rattle.std.proofs.Common.{ℕ, ◌+◌, ◌*◌, take, length}
use Rattle.std.specs.List.{sum_by}
use Rattle.gds_cells.specs.steps.Counting.{IsCapped, AreRight}
use Rattle.gds_cells.specs.steps.Walks.{shapes_in}
use Rattle.gds_cells.proofs.counts.count_cell.Given as goal

abbrev pub invariant-links : goal.invariant-links
invariant-links l = (f : ℕ → ℕ) → AreRight f l.counts (take l.link-index l.links)
    → IsCapped (length (shapes_in l.cell) + sum_by (λ k. (k.columns * k.rows) * f k.cell) (take l.link-index l.links)) l.total
