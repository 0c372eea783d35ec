use Rattle.std.proofs.Common.{◌≡◌, ◌∙◌, ◌*◌, ℕ, ap, subst}
use Rattle.std.specs.Prelude.{IfOk}
use Rattle.std.proofs.lemmas.Result.{IfOk-weaker}
use Rattle.fill_area.specs.Grid.{Grid}
use Rattle.fill_text.specs.Rules.{Values, limits_of, windows_of}
use Rattle.fill_text.specs.ValuesOfRules.{values_of}
use Rattle.fill_job.specs.Plans.{drawn_squares, plan_of}
use Rattle.fill_core.specs.Accounts.{state_of}
use Rattle.fill_report.specs.BookReport.{boxes_of}
use Rattle.fill_report.specs.Report.{lines_above, measures_of}
use Rattle.fill_report.proofs.Lines.{none_above}
use Rattle.fill_report.proofs.book.report.Goals as goal

pub returns : goal.returns
returns g c =
    let a = g.B.FillBook.account c.args.book.now in
    let s = state_of a in
    let grid = windows_of a.rules in
    let w : c.windows-windows.result ≡ grid = c.windows-windows.ensures ∙ ap windows_of c.rules-rules.ensures in
    let count : c.len.result ≡ grid.across.count * grid.up.count = c.len.ensures.count ∙ ap (λ (q : Grid). q.across.count * q.up.count) w in
    let text = λ (q : Grid) (n : ℕ) (values : Values). IfOk c.book_lines.result (λ v. v.items ≡ lines_above 0 q (limits_of values) (measures_of (drawn_squares s.layers) (boxes_of (plan_of a.rules) s.fill) q) 0 n) in
    IfOk-weaker c.book_lines.result _ _ (λ v is. is ∙ none_above grid (limits_of a.rules) (measures_of (drawn_squares s.layers) (boxes_of (plan_of a.rules) s.fill) grid) 0 (grid.across.count * grid.up.count)) (
    subst (λ (values : Values). text grid (grid.across.count * grid.up.count) values) c.rules-rules.ensures
    (subst (λ (n : ℕ). text grid n (values_of c.rules-rules.result.now)) count
    (subst (λ (q : Grid). text q c.len.result (values_of c.rules-rules.result.now)) w
    (rw c.limits.ensures.value at c.book_lines.ensures))))
