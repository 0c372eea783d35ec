use Rattle.std.proofs.Common.{◌≡◌, subst, ◌∙◌}
use Rattle.std.specs.List.{flat_map}
use Rattle.std.specs.Vec.{vec_items}
use Rattle.std.proofs.lemmas.Result.{IfOk-weaker}
use Rattle.fill_area.specs.Grid.{Grid}
use Rattle.fill_region.specs.Squares.{covered}
use Rattle.fill_text.specs.Rules.{limits_of, windows_of}
use Rattle.fill_text.specs.ValuesOfRules.{values_of}
use Rattle.fill_report.specs.Report.{report_text, nothing}
use Rattle.fill_report.proofs.metal.report_of_rects.Goals as goal

pub returns : goal.returns
returns g c =
    let v = values_of c.args.rules.now in
    let p = covered (flat_map vec_items c.args.lists.items) in
    let w : c.in_ok-sums.sums.windows ≡ windows_of v = c.in_ok-sums.ensures.windows ∙ c.windows.ensures in
    IfOk-weaker c.lines_by_sums.result _ _ (λ text is. subst (λ (q : Grid). flat_map vec_items text.items ≡ report_text p nothing q (limits_of v)) w (is p (rw c.deref.ensures.value at c.in_ok-sums.ensures.sums)))
    (rw c.limits.ensures.value at c.lines_by_sums.ensures)
