-- The areas of the windows so far.
use Rattle.std.proofs.Common.{◌≡◌, ◌<◌, ℕ, ℤ, get_or, length}
use Rattle.fill_state.specs.Layers.{is_drawn}
use Rattle.fill_area.proofs.Measuring.{area_at}
use Rattle.fill_state.specs.Filling.{left_by, drawn_or_box}
use Rattle.fill_state.proofs.filled.Filled.totals.Given as goal

abbrev pub invariant-loop-k : goal.invariant-loop-k
invariant-loop-k l = record {
  count : length l.totals.items ≡ l.k;
  each : (i : ℕ) (d : ℤ) → i < l.k → get_or l.totals.items i d ≡ area_at (drawn_or_box l.self.raster (left_by l.self l.out) (is_drawn l.drawn)) l.windows i;
}
