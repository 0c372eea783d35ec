use Rattle.std.proofs.Common.{◌≡◌, ◌≤◌, ◌-◌, Some}
use Rattle.fill_job.specs.Plans.{drawn_squares, plan_of}
use Rattle.fill_core.specs.Accounts.{state_of}
use Rattle.fill_report.specs.BookReport.{boxes_of}
use Rattle.fill_report.specs.Report.{lines_above, measures_of}
use Rattle.fill_report.specs.Writing.{IsReady, written}
use Rattle.fill_report.proofs.book.book_lines.Given as goal

abbrev pub invariant-loop-k : goal.invariant-loop-k
invariant-loop-k g l =
    let a = g.B.FillBook.account l.book in
    let s = state_of a in
    record {
      from : l.section.from ≤ l.k;
      ready : IsReady l.writer;
      text : written l.writer ≡ Some (lines_above l.section.above l.windows l.limits (measures_of (drawn_squares s.layers) (boxes_of (plan_of a.rules) s.fill) l.windows) l.section.from (l.k - l.section.from));
    }
