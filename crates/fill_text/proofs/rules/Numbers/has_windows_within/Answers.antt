use Rattle.std.proofs.Common.{◌≡◌, ◌∙◌, ap, refl}
use Rattle.fill_text.specs.Grids.{is_axis}
use Rattle.fill_text.specs.Rules.{whole_windows}
use Rattle.fill_text.proofs.GridTests.{axis_decided}
use Rattle.fill_text.proofs.rules.Numbers.has_windows_within.Goals as goal

pub returns : goal.returns
returns c =
    let across : c.is_within.result ≡ is_axis (whole_windows c.args.self.now.values).across = axis_decided _ _ c.is_within.ensures ∙ ap is_axis c.windows_across.ensures in
    let up : c.is_within-2.result ≡ is_axis (whole_windows c.args.self.now.values).up = axis_decided _ _ c.is_within-2.ensures ∙ ap is_axis c.windows_up.ensures in
    rw (across, up) refl
