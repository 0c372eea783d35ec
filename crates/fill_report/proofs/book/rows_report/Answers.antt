use Rattle.std.proofs.Common.{◌≡◌, ap, subst, ◌∙◌, ℕ, ◌*◌, ◌-◌, ◌+◌, ◌≤◌, sym}
use Rattle.std.specs.Prelude.{IfOk}
use Rattle.fill_area.specs.Grid.{Grid}
use Rattle.fill_text.specs.Rules.{Values, limits_of, windows_of}
use Rattle.fill_text.specs.ValuesOfRules.{values_of}
use Rattle.fill_job.specs.Plans.{drawn_squares, plan_of}
use Rattle.fill_core.specs.Accounts.{state_of}
use Rattle.fill_report.specs.BookReport.{boxes_of}
use Rattle.fill_report.specs.Report.{lines_above, measures_of}
use Rattle.fill_report.proofs.RowEnds.{rows_end}
use Rattle.fill_report.proofs.book.rows_report.Goals as goal

pub book_lines-requires-clause-within : goal.book_lines-requires-clause-within
book_lines-requires-clause-within g c κs within =
    let grid = windows_of (g.B.FillBook.account c.args.book.now).rules in
    let w : c.windows-windows.result ≡ grid = c.windows-windows.ensures ∙ ap windows_of c.rules-rules.ensures in
    let columns : c.columns-columns.result ≡ grid.across.count = c.columns-columns.ensures ∙ ap (λ (v : Grid). v.across.count) w in
    rw w (subst (λ n. c.args.rows.start * n + (c.args.rows.end - c.args.rows.start) * n ≤ grid.across.count * grid.up.count) (sym columns) (rows_end c.args.rows.start c.args.rows.end grid.across.count grid.up.count c.requires.ordered c.requires.within))

pub returns : goal.returns
returns g c =
    let a = g.B.FillBook.account c.args.book.now in
    let s = state_of a in
    let grid = windows_of a.rules in
    let w : c.windows-windows.result ≡ grid = c.windows-windows.ensures ∙ ap windows_of c.rules-rules.ensures in
    let columns : c.columns-columns.result ≡ grid.across.count = c.columns-columns.ensures ∙ ap (λ (q : Grid). q.across.count) w in
    let low = c.args.rows.start in let rows = c.args.rows.end - c.args.rows.start in
    let text = λ (q : Grid) (n : ℕ) (values : Values). IfOk c.book_lines.result (λ v. v.items ≡ lines_above c.args.above q (limits_of values) (measures_of (drawn_squares s.layers) (boxes_of (plan_of a.rules) s.fill) q) (low * n) (rows * n)) in
    subst (λ (values : Values). text grid grid.across.count values) c.rules-rules.ensures
    (subst (λ (n : ℕ). text grid n (values_of c.rules-rules.result.now)) columns
    (subst (λ (q : Grid). text q c.columns-columns.result (values_of c.rules-rules.result.now)) w
    (rw c.limits.ensures.value at c.book_lines.ensures)))
