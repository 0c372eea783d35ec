use Rattle.std.proofs.Common.{◌≡◌, ap, subst, sym, ◌∙◌, ℕ, ◌+◌, ◌*◌, ◌-◌, ◌≤◌}
use Rattle.std.specs.List.{flat_map}
use Rattle.std.specs.Vec.{vec_items}
use Rattle.std.proofs.lemmas.Result.{IfOk-weaker}
use Rattle.fill_area.specs.Grid.{Grid}
use Rattle.fill_region.specs.Squares.{covered}
use Rattle.fill_text.specs.Rules.{limits_of, windows_of}
use Rattle.fill_text.specs.ValuesOfRules.{values_of}
use Rattle.fill_report.specs.Report.{lines_above, measures_of, nothing}
use Rattle.fill_report.proofs.RowEnds.{rows_end}
use Rattle.fill_report.proofs.rows.rows_report_of_rects.Goals as goal

pub section_by_sums-requires-clause-within : goal.section_by_sums-requires-clause-within
section_by_sums-requires-clause-within g c =
    let grid = windows_of (values_of c.args.rules.now) in
    let w = c.in_ok-sums.ensures.windows ∙ c.windows-windows.ensures in
    let columns : c.columns-columns.result ≡ grid.across.count = c.columns-columns.ensures ∙ ap (λ (v : Grid). v.across.count) c.windows-windows.ensures in
    rw w (subst (λ n. c.args.rows.start * n + (c.args.rows.end - c.args.rows.start) * n ≤ grid.across.count * grid.up.count) (sym columns) (rows_end c.args.rows.start c.args.rows.end grid.across.count grid.up.count c.requires.ordered c.requires.within))

pub returns : goal.returns
returns g c =
    let v = values_of c.args.rules.now in
    let grid = windows_of v in
    let p = covered (flat_map vec_items c.args.lists.items) in
    let w : c.in_ok-sums.sums.windows ≡ grid = c.in_ok-sums.ensures.windows ∙ c.windows-windows.ensures in
    let columns : c.columns-columns.result ≡ grid.across.count = c.columns-columns.ensures ∙ ap (λ (q : Grid). q.across.count) c.windows-windows.ensures in
    let low = c.args.rows.start in let rows = c.args.rows.end - c.args.rows.start in
    IfOk-weaker c.section_by_sums.result _ _ (λ text is.
    subst (λ (n : ℕ). text.items ≡ lines_above c.args.above grid (limits_of v) (measures_of p nothing grid) (low * n) (rows * n)) columns
    (subst (λ (q : Grid). text.items ≡ lines_above c.args.above q (limits_of v) (measures_of p nothing q) (low * c.columns-columns.result) (rows * c.columns-columns.result)) w (is p (rw c.deref.ensures.value at c.in_ok-sums.ensures.sums))))
    (rw c.limits.ensures.value at c.section_by_sums.ensures)
