use Rattle.std.proofs.Common.{◌≡◌, ◌∙◌, Ok, refl, sym}
use Rattle.fill_text.specs.ValuesOfRules.{key_values}
use Rattle.fill_text.specs.steps.Entries.{checked_chip}
use Rattle.fill_text.proofs.Given.{chip_faultless}
use Rattle.fill_text.proofs.rule_file.checked_chip.Goals as goal

pub invariant_of-result : goal.invariant_of-result
unfolding checked_chip
invariant_of-result c =
    let apart = sym c.densities_and_cells.ensures ∙ c.in_ok-densities_and_cells.was in
    let frame = rw c.in_ok-ok_or.ensures.ok_part at c.frame_in.ensures in
    let windows = sym c.has_windows_within.ensures ∙ c.if-not-has_windows_within.false in
    let pitch = sym c.keeps_pitch.ensures ∙ c.if-not-keeps_pitch.false in
    let kept : checked_chip (key_values c.args.values) ≡ Ok (key_values c.args.values) = rw (apart, ← frame, windows, pitch) refl in
    record { faultless = chip_faultless (key_values c.args.values) kept; layered = c.args.values.layered }
