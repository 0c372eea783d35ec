-- No place passed so far is as asked.
use Rattle.std.proofs.Common.{◌≡◌, ℤ, ◌≤ℤ◌, ◌<ℤ◌}
use Rattle.std.specs.Prelude.{not}
use Rattle.fill_raster.specs.Marks.{is_marked}
use Rattle.fill_raster.proofs.marks.Marks.first_from.Given as goal

abbrev pub invariant-loop-i : goal.invariant-loop-i
invariant-loop-i l = record {
  from : l.place.i ≤ℤ l.i;
  before : (k : ℤ) → l.place.i ≤ℤ k → k <ℤ l.i → is_marked l.self k l.place.j ≡ not l.marked;
}
