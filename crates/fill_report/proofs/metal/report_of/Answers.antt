use Rattle.std.proofs.Common.{ap, ◌∙◌, ℤ, Bool}
use Rattle.std.specs.List.{flat_map}
use Rattle.std.specs.Vec.{vec_items}
use Rattle.fill_text.specs.ValuesOfRules.{values_of}
use Rattle.fill_report.specs.RulesReport.{metal_report}
use Rattle.fill_report.proofs.metal.report_of.Goals as goal

pub returns : goal.returns
returns g c =
    c.in_ok-text.ensures
    ∙ (ap (flat_map vec_items) c.deref.ensures.value
    ∙ (c.in_ok-sections.ensures
    ∙ ap (λ (p : ℤ → ℤ → Bool). metal_report p (values_of c.args.rules.now)) c.in_ok-lists.ensures))
