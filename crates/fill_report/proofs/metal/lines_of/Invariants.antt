use Rattle.std.proofs.Common.{◌≡◌, ℕ, Some}
use Rattle.fill_report.specs.Report.{AreDrawn, lines_above}
use Rattle.fill_report.specs.Writing.{IsReady, written}
use Rattle.fill_report.specs.declared.line.Measures.{Measures}
use Rattle.fill_report.proofs.metal.lines_of.Given as goal

abbrev pub invariant-loop-i : goal.invariant-loop-i
invariant-loop-i l = record {
  ready : IsReady l.writer;
  text : (measures : ℕ → ℕ → Measures) → AreDrawn l.windows l.from l.areas measures → written l.writer ≡ Some (lines_above l.above l.windows l.limits measures l.from l.i);
}
